-- `Common::paid` adds each row's payment of the year times its part (Weighing).
use lib.ListN.{length}
use Rattle.patterns.proofs.Weighing.{Weighing, column}
use Rattle.patterns.proofs.common.Common.paid.Given as goal

abbrev pub invariant-loop-row : goal.invariant-loop-row
invariant-loop-row l = Weighing l.self.instruments (column l.self.payments l.k) l.p.shares l.sum (length l.yielded)
