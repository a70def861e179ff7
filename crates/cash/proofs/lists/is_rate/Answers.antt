-- `cash::lists::is_rate` is the test of a rate's range.
use Rattle.std.proofs.lemmas.Int.{to_z-of_z}
use Rattle.plan.proofs.Inside.{inside}
use Rattle.cash.proofs.lists.is_rate.Goals as goal

pub returns : goal.returns
returns c =
    let n = c.new.ensures in
    simp (to_z-of_z, c.ranges.rate) at (inside _ n.start n.end n.exhausted c.contains.ensures.value)
