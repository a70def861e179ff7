-- `planner::gammas` is the table of gammas in the pattern's rates.
use mathlib.Core.Path.{refl, ap, ap₂, ◌∙◌}
use Prim.Native.Nat.{ℕ}
use lib.IntN.{ℤ}
use Rattle.reckoning.specs.Answers.{gammas_shown}
use Rattle.reckoning.specs.Arrays.{gammas_reckoned}
use Rattle.plan.specs.Numbers.{numbers}
use Rattle.plan.specs.declared.Plan.{Plan}
use Rattle.planner.specs.Calls.{no_gammas, gammas_answer}
use Rattle.planner.proofs.Answers.{out_passed, out_accepted}
use Rattle.planner.proofs.gammas.Goals as goal

pub returns-in_err-plan : goal.returns-in_err-plan
unfolding gammas_answer
returns-in_err-plan c = out_passed no_gammas gammas_shown (λ e. refl) _ c.from_residual.result c.from_residual.ensures.1 c.in_err-plan.ensures.is _

pub returns : goal.returns
unfolding gammas_answer
returns c =
    let called = c.in_ok-plan.ensures in
    let r = c.rollover_of.ensures in
    let P = numbers c.args.plan.now in
    out_accepted no_gammas called.is
    (c.gammas.ensures
    ∙ ap₂ (λ (s : ℕ → ℕ) (i : ℕ → ℤ). gammas_reckoned s i c.rollover_of.result.horizon.years) (r.held ∙ ap (λ (plan : Plan). (numbers plan).r) called.plan_value) called.rates
    ∙ ap (gammas_reckoned P.r (P.i c.args.t)) (r.years ∙ ap (λ (plan : Plan). plan.years) called.plan_value))
