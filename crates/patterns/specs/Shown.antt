-- What the code's answers say, as the papers' records.
use Rattle.std.specs.Prelude.{List, ℤ, pos, replicate, Result, Ok, Err}
use Rattle.refusal.specs.declared.Refusal.{Refusal}
use Rattle.refusal.specs.Number.{number_of}
use Rattle.patterns.specs.declared.Form.{Form}
use Rattle.patterns.specs.Answers.{Coefficients, FormAnswer}
use Rattle.patterns.specs.Pattern.{no_form}

abbrev pub coefficients_shown : Result (List ℤ) Refusal → Coefficients
coefficients_shown (Ok values) = record { refusal = 0; values = values }
coefficients_shown (Err refusal) = record { refusal = number_of refusal; values = replicate 16 (pos 0) }

abbrev pub form_shown : Result Form Refusal → FormAnswer
form_shown (Ok form) = record { refusal = 0; coefficients = form.coefficients; constant = form.constant; value = form.value }
form_shown (Err refusal) = no_form (number_of refusal)
