-- `cash::rate_for` picks the rate by the account's sign.
use Rattle.whole.proofs.Range.{back}
use Rattle.cash.specs.Account.{rate_for}
use Rattle.cash.proofs.rate_for.Goals as goal

pub returns-then-z-ge0 : goal.returns-then-z-ge0
unfolding rate_for
returns-then-z-ge0 c = let s = c.before in rw (simp (back, s.ranges.z) at c.if-z-ge0.true) (simp (back, s.ranges.lending))

pub returns-else-z-ge0 : goal.returns-else-z-ge0
unfolding rate_for
returns-else-z-ge0 c = let s = c.before in rw (simp (back, s.ranges.z) at c.if-z-ge0.false) (simp (back, s.ranges.borrowing))
