-- `finder::searching::Search::from` goes instrument by instrument, and the instruments left fall (Placing).
use Rattle.finder.specs.Search.{passes}
use Rattle.finder.proofs.Placing.{Trying}
use Rattle.finder.proofs.searching.Search.+from.Given as goal

-- the instruments behind this one
abbrev pub decreases-from : goal.decreases-from
decreases-from l = l.others

abbrev pub invariant-loop-s : goal.invariant-loop-s
invariant-loop-s l = Trying (passes l.self.common.now l.self.rates.now l.self.lines.now) l.split.shares l.at l.others l.parts l.self.unit l.s
