-- `Rollover::cell` adds what each earlier cell in the rollover's window sends (CellLoops, `Adding`); the others send nothing.
use Rattle.reckoning.proofs.CellLoops.{Adding}
use Rattle.reckoning.proofs.Rollover.cell.Given as goal

abbrev pub invariant-loop-l : goal.invariant-loop-l
invariant-loop-l l = Adding l.self.shares l.self.weights l.i.rates l.v l.j l.initial.s l.s l.l
