-- `arrays::PlanArrays::put_patterns` fills in one pattern after the other (Copying, `Filled`).
use Rattle.arrays.specs.Arrays.{pattern_of}
use Rattle.arrays.proofs.Copying.{Filled}
use Rattle.arrays.proofs.PlanArrays.put_patterns.Given as goal

abbrev pub invariant-loop-t : goal.invariant-loop-t
invariant-loop-t l = Filled 64 (pattern_of l.self.counts.now l.self.rates.now) l.rows l.t
