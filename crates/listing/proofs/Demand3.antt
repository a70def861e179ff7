-- Demand 3, whole.
use mathlib.Core.Path.{◌≡◌, subst}
use mathlib.Core.List.{List}
use Prim.Native.Nat.{ℕ}
use Rattle.plan.specs.Numbers.{Numbers}
use Rattle.plan.specs.declared.Plan.{Plan}
use Rattle.planner.specs.Level.{LevelExact}
use Rattle.planner.proofs.Demand3.{fund_near, form_near, verdict_true, row_near, row_bound}
use Rattle.planner.proofs.Level.{level_true}
use Rattle.planfile.specs.Read.{numbers_in, read_answer}
use Rattle.planfile.proofs.Answers.{read_numbers, plan_passes}
use Rattle.listing.specs.Demand3.{Claims, OfPlan, OfFile}

pub of_plan : (plan : Plan) → OfPlan plan
of_plan plan = record {
  fund = fund_near plan;
  form = form_near plan;
  verdict = verdict_true plan;
  row = row_near plan;
  row_bound = row_bound plan;
}

pub of_file : (s : List ℕ) → OfFile s
of_file s = record {
  numbers_are = read_numbers s;
  claims = λ e. subst Claims (read_numbers s e) (of_plan (read_answer s).plan);
}

-- at level rates the exact fund of a file that is read is the closed form
pub level_exact_of : (s : List ℕ) → (read_answer s).refusal ≡ 0 → (t : ℕ) → LevelExact (numbers_in s) t
level_exact_of s e t = subst (λ (P : Numbers). LevelExact P t) (read_numbers s e) ((level_true (read_answer s).plan t).exact (plan_passes s e))
