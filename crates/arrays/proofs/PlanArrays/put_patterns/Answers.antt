-- `arrays::PlanArrays::put_patterns` fills in one pattern after the other (Copying, `Filled`).
use native.Mathlib.Omega.{arith}
use Rattle.plan.specs.Held.{no_pattern}
use Rattle.arrays.specs.Arrays.{patterns_of}
use Rattle.arrays.proofs.Copying.{filled_start, filled_turn, filled_end}
use Rattle.arrays.proofs.PlanArrays.put_patterns.Goals as goal

pub loop-t-init : goal.loop-t-init
loop-t-init c = filled_start c.told-rows

pub loop-t-preserved : goal.loop-t-preserved
loop-t-preserved c = filled_turn c.loop-t-test.true c.loop-t.invariant c.pattern.ensures

pub returns : goal.returns
unfolding patterns_of
returns c = filled_end no_pattern c.loop-t-test.false c.loop-t.invariant
