-- `Rollover::total` adds what each cell in the rollover's window still has invested (CellLoops, `Totalled`); the others have nothing.
use Rattle.reckoning.proofs.CellLoops.{Totalled}
use Rattle.reckoning.proofs.Rollover.total.Given as goal

abbrev pub invariant-loop-x : goal.invariant-loop-x
invariant-loop-x l = Totalled l.v l.self.weights l.n l.x-iterator.a.rest.now l.x-iterator.b.iter.rest.now l.s
