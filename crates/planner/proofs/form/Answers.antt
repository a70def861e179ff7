-- `planner::form` is the form at the pattern's rates.
use mathlib.Core.Path.{◌≡◌, refl, ap₂, ◌∙◌}
use Rattle.plan.specs.Numbers.{numbers}
use Rattle.patterns.specs.Pattern.{no_form, form_reckoned}
use Rattle.patterns.specs.Shown.{form_shown}
use Rattle.planner.specs.Calls.{form_answer}
use Rattle.planner.proofs.Answers.{out_passed, out_accepted, shared_is, allocation_taken}
use Rattle.planner.proofs.Demand3.{form_answered}
use Rattle.planner.proofs.form.Goals as goal
use Rattle.planner.proofs.form.Goals.{After-form, After-from_residual}

refused : (c : After-from_residual) → form_shown c.from_residual.result ≡ form_answer (numbers c.args.plan.now) c.args.t
unfolding form_answer
refused c = out_passed no_form form_shown (λ e. refl) _ c.from_residual.result c.from_residual.ensures.1 c.in_err-plan.ensures.is _

pub form-requires : goal.form-requires
form-requires c = (allocation_taken c.of.result c.of.ensures.allocated c.of-2.ensures.parts).parts

pub returns-in_err-plan : goal.returns-in_err-plan
returns-in_err-plan c = let a = form_answered _ _ (refused c) in record { is = a.0; near = a.1 }

accepted : (c : After-form) → form_shown c.form.result ≡ form_answer (numbers c.args.plan.now) c.args.t
unfolding form_answer
accepted c =
    let called = c.in_ok-plan.ensures in
    out_accepted no_form called.is (c.form.ensures ∙ ap₂ form_reckoned (shared_is called.plan_value c.of.result c.of.ensures.shared c.of-2.result.shares c.of-2.ensures.held) called.rates)

pub returns : goal.returns
returns c = let a = form_answered _ _ (accepted c) in record { is = a.0; near = a.1 }
