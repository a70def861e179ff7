-- `reckoning::joined` adds to each entry of a row what an earlier row sends into it.
use lib.IntN.{pos}
use Rattle.whole.proofs.Filling.{Filling}
use Rattle.reckoning.proofs.GammaLoops.{joined_at}
use Rattle.reckoning.proofs.joined.Given as goal

abbrev pub invariant-loop-l : goal.invariant-loop-l
invariant-loop-l l = Filling 30 l.fn.horizon.years (joined_at l.row l.earlier l.r l.w l.i) (pos 0) l.v l.l
