-- `plan::is_between` is the test of an amount's range.
use Rattle.plan.proofs.Inside.{inside}
use Rattle.whole.proofs.Range.{back}
use Rattle.plan.proofs.is_between.Goals as goal

pub returns : goal.returns
returns c =
    let n = c.new.ensures in
    let r = c.ranges in
    simp (back, r.low, r.high, r.amount) at (inside _ n.start n.end n.exhausted c.contains.ensures.value)
