-- `patterns::constant_in` subtracts (Held).
use lib.ListN.{get_or}
use lib.IntN.{pos, ◌-ℤ◌}
use mir.Syntax.{w64}
use mir.Val.{SFits}
use Rattle.whole.proofs.Range.{back, ok64}
use Rattle.patterns.proofs.Held.{constant_is, outflow_fits, constant_fits_law}
use Rattle.patterns.proofs.constant_in.Goals as goal
use Rattle.patterns.proofs.constant_in.Goals.{After-result-1}

fits : (c : After-result-1) → SFits w64 (c.amount_at.result -ℤ get_or c.args.plan.plan.now.outflows c.args.k (pos 0))
fits c = rw c.amount_at.ensures (constant_fits_law c.args.plan.plan.now c.args.plan.accepted c.args.k c.requires)

pub overflow_sub-result : goal.overflow_sub-result
overflow_sub-result c =
    simp (back, ok64 c.amount_at.result c.amount_at.type_inv, outflow_fits c.args.plan.plan.now c.args.plan.accepted c.args.k c.requires) (fits c)

pub returns : goal.returns
returns c =
    simp (back, ok64 c.amount_at.result c.amount_at.type_inv, outflow_fits c.args.plan.plan.now c.args.plan.accepted c.args.k c.requires, fits c)
    (rw c.amount_at.ensures (constant_is c.args.plan.plan.now c.args.plan.accepted c.args.k c.requires))
