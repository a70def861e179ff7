-- `arrays::put_gammas` puts down row after row (Copying, `Joining`).
use native.Mathlib.Omega.{arith}
use Rattle.arrays.specs.Arrays.{all_gammas}
use Rattle.arrays.proofs.Copying.{join_start, join_turn, join_end, front_all}
use Rattle.arrays.proofs.put_gammas.Goals as goal

pub returns : goal.returns
unfolding all_gammas
returns c = front_all (join_end c.loop-j-test.false c.loop-j.invariant)

pub loop-j-init : goal.loop-j-init
loop-j-init c = join_start c.told-out

pub loop-j-preserved : goal.loop-j-preserved
loop-j-preserved c = join_turn (omega arith) c.loop-j-test.true c.loop-j.invariant c.put_row.ensures.thirty c.put_row.ensures.is
