-- What `planner_read` fills in and `planner_write` takes join: the arrays of a plan that was read hold that plan.
use mathlib.Core.Path.{◌≡◌, sym, subst}
use mathlib.Core.List.{List}
use Prim.Native.Nat.{ℕ}
use native.Mathlib.Omega.{arith}
use lib.IntN.{ℤ}
use Rattle.plan.specs.declared.Plan.{Plan}
use Rattle.planfile.specs.Read.{read_answer}
use Rattle.planfile.specs.Records.{held_in}
use Rattle.planfile.specs.Demand2.{OneFile}
use Rattle.planfile.specs.Answers.{ReadAnswer}
use Rattle.planfile.proofs.Answers.{plan_read, read_numbers, read_accepted, until_read}
use Rattle.arrays.specs.Arrays.{all_counts, all_amounts, all_shares, all_rates, plan_of_arrays}
use Rattle.arrays.proofs.Arrays.{from_again}

-- the plan that the arrays of a plan hold
abbrev pub through_arrays : Plan → Plan
through_arrays p = plan_of_arrays (all_counts p) (all_amounts p) (all_shares p) (all_rates p)

pub arrays_join : (s : List ℕ) → (read_answer s).refusal ≡ 0 → through_arrays (read_answer s).plan ≡ (read_answer s).plan
arrays_join s e = let few = rw (read_numbers s e) at (read_accepted s e).head in rw (plan_read s e) (from_again (held_in s) few (λ t. omega (arith, until_read s e t)))

-- a file that was read as a, and the arrays of the plan: the file is the one file of what they hold
pub arrays_kept : {s : List ℕ} {a : ReadAnswer} {counts : List ℕ} {amounts : List ℤ} {shares : List ℕ} {rates : List ℤ} → a ≡ read_answer s
    → (a.refusal ≡ 0 → OneFile s a.plan) → counts ≡ all_counts a.plan → amounts ≡ all_amounts a.plan → shares ≡ all_shares a.plan
    → rates ≡ all_rates a.plan → a.refusal ≡ 0 → OneFile s (plan_of_arrays counts amounts shares rates)
arrays_kept {s} {a} is kept c n p r e =
    let f : (read_answer s).refusal ≡ 0 = rw (← is) e in
    let join : through_arrays a.plan ≡ a.plan = rw is (arrays_join s f) in
    rw (c, n, p, r) (subst (OneFile s) (sym join) (kept e))
