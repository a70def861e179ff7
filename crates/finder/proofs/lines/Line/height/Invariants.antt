-- `finder::lines::Line::height` adds each coefficient times its share (Rattle.patterns.proofs.Weighing).
use lib.ListN.{length}
use Rattle.patterns.proofs.Weighing.{Weighing}
use Rattle.finder.proofs.lines.Line.height.Given as goal

abbrev pub invariant-loop-k : goal.invariant-loop-k
invariant-loop-k l = Weighing 4 l.self.coefficients l.fn.split.shares l.sum (length l.yielded)
