-- `cash::TwoRates::bound` is g: the loop takes it from one year to the next.
use Rattle.cash.proofs.Bound.{Growing}
use Rattle.cash.proofs.TwoRates.bound.Given as goal

abbrev pub invariant-loop : goal.invariant-loop
invariant-loop l = Growing l.h l.self.horizon.years l.g l.counter
