-- `arrays::put_shares` puts down the rollover, and then the allocation.
use mathlib.Core.Path.{◌≡◌}
use native.Mathlib.Omega.{arith}
use borrow.Author.Rules.{rules}
use lib.ListN.{length}
use Rattle.arrays.proofs.Copying.{front_none, front_part, front_all}
use Rattle.arrays.proofs.put_shares.Goals as goal

pub returns : goal.returns
returns c =
    let plan = c.args.plan.now in
    let first = c.copy_from_slice.ensures in
    let last = c.copy_from_slice-2.ensures in
    let rollover : length plan.rollover ≡ 30 = search rules in
    let allocation : length plan.allocation ≡ 16 = search rules in
    front_all (front_part plan.allocation (front_part plan.rollover (front_none c.told-out) (omega arith) rollover first.after) (omega arith) allocation last.after)
