-- `Row::limited` tests every entry of a row.
use Rattle.reckoning.proofs.GammaLoops.{Fitting}
use Rattle.reckoning.proofs.Row.limited.Given as goal

abbrev pub invariant-loop-z : goal.invariant-loop-z
invariant-loop-z l = Fitting l.fn.self.values l.z-index
