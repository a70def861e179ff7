-- What each call answers for the bytes s of a plan file (document 01, "Checking order"): the refusal of the reading, or else the
-- call's own answer for the numbers that stand in the file. The cash account has lists of its own, with checks between those on the
-- file's numbers: the file is refused by its records alone, 1 to 5, and the call makes all the others in their order.
use Rattle.std.specs.Prelude.{List, ℕ, ℤ}
use Rattle.reckoning.specs.Answers.{Reckoned, GammaTable}
use Rattle.plan.specs.Numbers.{Numbers}
use Rattle.plan.specs.Refusal.{answer}
use Rattle.patterns.specs.Pattern.{no_form}
use Rattle.patterns.specs.Answers.{FormAnswer}
use Rattle.planner.specs.Calls.{no_fund, no_bound, no_gammas, fund_answer, bound_answer, form_answer, gammas_answer}
use Rattle.planner.specs.Verdict.{no_verdict, verdict_answer}
use Rattle.planner.specs.Answers.{BoundAnswer, VerdictAnswer}
use Rattle.cash.specs.Answers.{CashAnswer}
use Rattle.cash.specs.Call.{no_cash, cash_answer}
use Rattle.finder.specs.Answers.{FindAnswer}
use Rattle.finder.specs.Find.{not_found, find_answer}
use Rattle.planfile.specs.Answers.{ReadAnswer}
use Rattle.planfile.specs.Read.{numbers_in, records_answer, read_answer}

module _ (s : List ℕ) where
  -- any call, on a file that was read as a
  abbrev pub on_reading : (a : ReadAnswer) {A : Type 0} → (refused : ℕ → A) → (call : Numbers → A) → A
  on_reading a refused call = answer refused a.refusal (call (numbers_in s))

  abbrev pub on_file : {A : Type 0} → (refused : ℕ → A) → (call : Numbers → A) → A
  on_file = on_reading (read_answer s)

  -- the calls on pattern t
  module _ (t : ℕ) where
    unfoldable pub fund_of_file : Reckoned
    fund_of_file = on_file no_fund (λ P. fund_answer P t)

    unfoldable pub bound_of_file : BoundAnswer
    bound_of_file = on_file no_bound (λ P. bound_answer P t)

    unfoldable pub form_of_file : FormAnswer
    form_of_file = on_file no_form (λ P. form_answer P t)

    unfoldable pub gammas_of_file : GammaTable
    gammas_of_file = on_file no_gammas (λ P. gammas_answer P t)

  -- the verdict
  unfoldable pub verdict_of_file : VerdictAnswer
  verdict_of_file = on_file no_verdict verdict_answer

  -- the cash account
  unfoldable pub cash_of_file : (lending borrowing : List ℤ) → CashAnswer
  cash_of_file lending borrowing = on_reading (records_answer s) no_cash (λ P. cash_answer P lending borrowing)

  -- the search for an allocation in so many parts
  unfoldable pub find_of_file : (parts : ℕ) → FindAnswer
  find_of_file parts = on_file not_found (λ P. find_answer P parts)
