-- `Allocation::weighed` adds each amount times its part (Weighing).
use lib.ListN.{length}
use Rattle.patterns.proofs.Weighing.{Weighing}
use Rattle.patterns.proofs.allocation.Allocation.weighed.Given as goal

abbrev pub invariant-loop-x : goal.invariant-loop-x
invariant-loop-x l = Weighing (length l.amounts) l.amounts l.self.shares l.sum (length l.yielded)
