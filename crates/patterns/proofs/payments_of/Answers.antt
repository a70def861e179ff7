-- `patterns::payments_of` fills in what each instrument pays.
use Rattle.whole.proofs.Filling.{fill_start, fill_turn, fill_as}
use Rattle.patterns.specs.Arrays.{payments_rows}
use Rattle.patterns.proofs.Held.{payments_row_law}
use Rattle.patterns.proofs.payments_of.Goals as goal

pub loop-j-init : goal.loop-j-init
loop-j-init c = fill_start

pub loop-j-preserved : goal.loop-j-preserved
loop-j-preserved c = fill_turn c.args.plan.accepted.head.instruments_few c.loop-j-test.true c.loop-j.invariant c.payments.ensures

pub returns : goal.returns
unfolding payments_rows
returns c = fill_as c.loop-j-test.false c.loop-j.invariant (payments_row_law c.args.plan.plan.now)
