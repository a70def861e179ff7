-- `planner::bound` is B of the pattern's rates, and of whether the cost is held.
use mathlib.Core.Path.{refl, ap, ◌∙◌}
use Prim.Native.Nat.{ℕ}
use lib.IntN.{ℤ, pos}
use Rattle.whole.proofs.Range.{back, ok64}
use Rattle.planner.specs.Calls.{no_bound, bound_answer}
use Rattle.planner.specs.Shown.{bound_shown}
use Rattle.planner.proofs.Answers.{out_passed, out_accepted, bound_made}
use Rattle.planner.proofs.bound.Goals as goal

pub returns-in_err-call : goal.returns-in_err-call
unfolding bound_answer
returns-in_err-call c = out_passed no_bound bound_shown (λ e. refl) _ c.from_residual.result c.from_residual.ensures.1 c.in_err-call.ensures.is _

pub returns : goal.returns
unfolding bound_answer
returns c =
    let called = c.in_ok-call.ensures in
    let b = c.bound_at.ensures.value ∙ ap (λ (b : ℕ). pos b) (bound_made called.plan_value c.args.t called.rates c.horizon_of-horizon.ensures c.is_some-costed.ensures) in
    simp (back, ok64 c.bound_at.result c.bound_at.type_inv) (out_accepted no_bound called.is (ap (λ (b : ℤ). record { refusal = 0; bound = b }) b))
