-- What each call answers, over a plan's numbers P, for good and bad input alike (document 01, "Checking order").
use Rattle.std.specs.Prelude.{ℕ, replicate, ℤ, pos}
use Rattle.whole.specs.Test.{is_from}
use Rattle.reckoning.specs.Answers.{Reckoned, GammaTable, no_row}
use Rattle.reckoning.specs.Arrays.{gammas_reckoned}
use Rattle.plan.specs.Numbers.{Numbers}
use Rattle.plan.specs.Refusal.{check, first_of, answer, refusal_of}
use Rattle.patterns.specs.Answers.{FormAnswer}
use Rattle.patterns.specs.Pattern.{no_form, shared_of, exact_at, bound_at, flow_reckoned, form_reckoned}
use Rattle.planner.specs.Answers.{BoundAnswer}

-- what a refusal holds: its number, and zeros
abbrev pub no_fund : ℕ → Reckoned
no_fund number = record { refusal = number; fund = pos 0 }

abbrev pub no_bound : ℕ → BoundAnswer
no_bound number = record { refusal = number; bound = pos 0 }

abbrev pub no_gammas : ℕ → GammaTable
no_gammas number = record { refusal = number; rows = replicate 30 no_row }

-- ---- the answers
module _ (P : Numbers) (t : ℕ) where
  -- checks 3 and 6 to 9, with 13 right before 8, then 10: every call on one pattern
  unfoldable pub call_refusal : ℕ
  call_refusal = first_of (refusal_of P) (check (is_from 1 P.patterns t) 10 0)

  -- H of the plan in pattern t, with what is left at the horizon inside
  unfoldable pub exact_fund : ℤ
  exact_fund = exact_at (shared_of P) (P.i t)

  -- the fund of one pattern
  unfoldable pub fund_answer : Reckoned
  fund_answer = answer no_fund call_refusal (flow_reckoned (shared_of P) (P.i t))

  -- B of one pattern
  unfoldable pub bound_of : ℕ
  bound_of = bound_at (shared_of P) (P.i t)

  unfoldable pub bound_answer : BoundAnswer
  bound_answer = answer no_bound call_refusal (record { refusal = 0; bound = pos bound_of })

  -- the gammas of one pattern
  unfoldable pub gammas_answer : GammaTable
  gammas_answer = answer no_gammas call_refusal (gammas_reckoned P.r (P.i t) P.years)

  -- the form of one pattern, and its value at the plan's allocation
  unfoldable pub form_answer : FormAnswer
  form_answer = answer no_form call_refusal (form_reckoned (shared_of P) (P.i t))
