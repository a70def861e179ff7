-- `NewMoney::largest` is the largest rate without its sign: each turn keeps the larger of two.
use Rattle.reckoning.proofs.BoundLoops.{Searched}
use Rattle.reckoning.proofs.NewMoney.largest.Given as goal

abbrev pub invariant-loop-rate : goal.invariant-loop-rate
invariant-loop-rate l = Searched l.self.rates l.most l.rate-index
