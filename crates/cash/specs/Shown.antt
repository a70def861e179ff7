-- What the code answers, as the papers' record.
use Rattle.std.specs.Prelude.{Result, Ok, Err}
use Rattle.refusal.specs.Number.{number_of}
use Rattle.refusal.specs.declared.Refusal.{Refusal}
use Rattle.planner.specs.Shown.{word_number}
use Rattle.cash.specs.declared.CashAccount.{CashAccount}
use Rattle.cash.specs.Answers.{CashAnswer}
use Rattle.cash.specs.Call.{no_cash}

-- 0 and the numbers, or the refusal's number and zeros
abbrev pub cash_shown : Result CashAccount Refusal → CashAnswer
cash_shown (Ok c) = record { refusal = 0; account = c.account; bound = c.bound; word = word_number c.word }
cash_shown (Err refusal) = no_cash (number_of refusal)
