-- `NewMoney::bound` is B: the loop takes G from one year to the next.
use Rattle.reckoning.proofs.BoundLoops.{Growing}
use Rattle.reckoning.proofs.NewMoney.bound.Given as goal

abbrev pub invariant-loop-k : goal.invariant-loop-k
invariant-loop-k l = Growing l.h l.horizon.years l.g l.k
