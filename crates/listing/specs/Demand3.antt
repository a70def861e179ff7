-- Demand 3, whole: what the answers say of Tilley's exact fund, for every plan held as values and for every file. FundNear, FormNear
-- and VerdictTrue are the claims of planner's Demand3; the contracts of fund, form and verdict carry them.
use Rattle.std.specs.Prelude.{◌≡◌, List, ℕ, ◌≤◌}
use Rattle.reckoning.specs.Theorem.{FromBelow}
use Rattle.plan.specs.Numbers.{Numbers, numbers}
use Rattle.plan.specs.declared.Plan.{Plan}
use Rattle.planner.specs.Calls.{exact_fund, bound_of, fund_answer, bound_answer, form_answer}
use Rattle.planner.specs.Verdict.{row_of, verdict_answer}
use Rattle.planner.specs.Demand3.{FundNear, FormNear, VerdictTrue}
use Rattle.planfile.specs.Read.{numbers_in, read_answer}

-- what is said of the numbers P: by the calls for any pattern number t, by the verdict, and by the row of each pattern, which is
-- what is listed
pub record Claims (P : Numbers) : Type 0 where
  pub fund : (t : ℕ) → FundNear P t (fund_answer P t)
  pub form : (t : ℕ) → FormNear P t (form_answer P t)
  pub verdict : VerdictTrue P (verdict_answer P)
  pub row : (verdict_answer P).refusal ≡ 0 → (t : ℕ) → 1 ≤ t → t ≤ P.patterns → FromBelow P.years (exact_fund P t) (row_of P t).fund (bound_of P t)
  pub row_bound : (verdict_answer P).refusal ≡ 0 → (t : ℕ) → 1 ≤ t → t ≤ P.patterns → bound_answer P t ≡ record { refusal = 0; bound = (row_of P t).bound }

-- of a plan held as values
abbrev pub OfPlan : Plan → Type 0
OfPlan plan = Claims (numbers plan)

-- of a file: what it is read as has the numbers that stand in its records, and the claims are about these
pub record OfFile (s : List ℕ) : Type 0 where
  pub numbers_are : (read_answer s).refusal ≡ 0 → numbers (read_answer s).plan ≡ numbers_in s
  pub claims : (read_answer s).refusal ≡ 0 → Claims (numbers_in s)
