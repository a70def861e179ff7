-- What the code answers, as the papers' record.
use Rattle.std.specs.Prelude.{true, List, ℕ, Option, Some, None, Result, Ok, Err}
use Rattle.refusal.specs.Number.{number_of}
use Rattle.refusal.specs.declared.Refusal.{Refusal}
use Rattle.finder.specs.Answers.{FindAnswer}
use Rattle.finder.specs.Find.{not_found}

-- the shares that are found, none and zeros, or the refusal's number and zeros
abbrev pub find_shown : Result (Option (List ℕ)) Refusal → FindAnswer
find_shown (Ok (Some shares)) = record { refusal = 0; found = true; shares = shares }
find_shown (Ok None) = not_found 0
find_shown (Err refusal) = not_found (number_of refusal)
