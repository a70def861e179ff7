-- `Rollover::gammas` is the table: row after row, each tested by check 11.
use Rattle.reckoning.specs.Arrays.{shares_of, rates_of}
use Rattle.reckoning.proofs.GammaLoops.{Filling}
use Rattle.reckoning.proofs.Rollover.gammas.Given as goal

abbrev pub invariant-loop-j : goal.invariant-loop-j
invariant-loop-j l = Filling (shares_of l.self.shares) (rates_of l.i.rates) l.self.horizon.years l.rows l.j
