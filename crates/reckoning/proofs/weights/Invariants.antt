-- `reckoning::weights` fills in what is left of 1,000,000 after each share (CellLoops, `Weighed`).
use Rattle.reckoning.proofs.CellLoops.{Weighed}
use Rattle.reckoning.proofs.weights.Given as goal

abbrev pub invariant-loop-d : goal.invariant-loop-d
invariant-loop-d l = Weighed l.shares l.weights l.left l.d
