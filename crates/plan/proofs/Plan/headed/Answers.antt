-- `Plan::headed` is check 3 of the plan's counts.
use mathlib.Core.Path.{◌≡◌, sym, ◌∙◌}
use Rattle.std.proofs.lemmas.Result.{err_from_is_err_and}
use Rattle.plan.specs.declared.Plan.{Plan}
use Rattle.plan.specs.declared.Shape.{Shape}
use Rattle.plan.specs.Held.{shape_of}
use Rattle.plan.specs.Numbers.{numbers}
use Rattle.plan.specs.Refusal.{check, shape_ok, head_ok, head_refusal}
use Rattle.plan.proofs.Checks.{head_passed}
use Rattle.plan.proofs.Plan.headed.Goals as goal

tested : (plan : Plan) {shape : Shape} → shape ≡ shape_of plan → check (shape_ok shape) 3 0 ≡ head_refusal (numbers plan)
unfolding head_refusal head_ok shape_ok
tested plan e = rw e

pub returns-in_err-check-clause-is : goal.returns-in_err-check-clause-is
returns-in_err-check-clause-is c =
    let p = err_from_is_err_and c.from_residual.result c.from_residual.ensures.1 in
    rw (p.1, p.2) (c.in_err-check.ensures ∙ tested c.args.self.now c.shape.ensures)

pub invariant_of-result : goal.invariant_of-result
invariant_of-result c = record { head = head_passed _ (sym (c.in_ok-check.ensures ∙ tested c.args.self.now c.shape.ensures)) }

pub returns-clause-is : goal.returns-clause-is
returns-clause-is c = c.in_ok-check.ensures ∙ tested c.args.self.now c.shape.ensures
