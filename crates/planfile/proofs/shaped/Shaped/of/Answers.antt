-- Check 3 takes the shape.
use mathlib.Core.Path.{sym}
use native.Mathlib.Omega.{arith}
use Rattle.plan.specs.Refusal.{shape_ok}
use Rattle.plan.proofs.Checks.{check_true}
use Rattle.planfile.proofs.Checks.{shape_range}
use Rattle.planfile.proofs.shaped.Shaped.of.Goals as goal

pub invariant_of-result : goal.invariant_of-result
invariant_of-result c = record { in_range = shape_range c.args.shape (check_true (shape_ok c.args.shape) 3 0 (omega arith) (sym c.in_ok-check.ensures)) }
