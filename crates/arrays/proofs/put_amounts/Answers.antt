-- `arrays::put_amounts` puts down row after row (Copying, `Joining`), and then the outflows, the money already invested and the
-- cost that is left at the horizon.
use mathlib.Core.Path.{◌≡◌}
use native.Mathlib.Omega.{arith}
use borrow.Author.Rules.{rules}
use lib.ListN.{length}
use Rattle.arrays.specs.Arrays.{all_amounts}
use Rattle.arrays.proofs.Copying.{join_start, join_turn, join_end, front_part, front_all}
use Rattle.arrays.proofs.put_amounts.Goals as goal

pub loop-j-init : goal.loop-j-init
loop-j-init c = join_start c.told-out

pub loop-j-preserved : goal.loop-j-preserved
loop-j-preserved c = join_turn (omega arith) c.loop-j-test.true c.loop-j.invariant c.put_row.ensures.thirty c.put_row.ensures.is

pub returns : goal.returns
unfolding all_amounts
returns c =
    let plan = c.args.plan.now in
    let outflows : length plan.outflows ≡ 30 = search rules in
    let rows = join_end c.loop-j-test.false c.loop-j.invariant in
    let opening : length c.unwrap_or.result ≡ 30 = search rules in
    let cost : length c.unwrap_or-2.result ≡ 16 = search rules in
    let front = front_part plan.outflows rows (omega arith) outflows c.copy_from_slice.ensures.after in
    let more = front_part c.unwrap_or.result front (omega arith) opening c.copy_from_slice-2.ensures.after in
    let most = front_part c.unwrap_or-2.result more (omega arith) cost c.copy_from_slice-3.ensures.after in
    rw (← c.unwrap_or.ensures, ← c.unwrap_or-2.ensures) (front_all most)
