-- `Rollover::fund` fills in cell after cell, each from those before it, until one is outside the limit (CellLoops, `Filled`); then
-- what they still have invested at the horizon, and the amount that is left there, is the fund.
use Rattle.reckoning.proofs.CellLoops.{Filled}
use Rattle.reckoning.proofs.Rollover.fund.Given as goal

abbrev pub invariant-loop-j : goal.invariant-loop-j
invariant-loop-j l = Filled l.self.shares l.i.rates l.flow.amounts l.self.horizon.years l.j l.v
