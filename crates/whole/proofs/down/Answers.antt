-- `whole::down` is the floor: the quotient toward zero, less one where it lies above.
use Rattle.std.proofs.Common.{arith}
use lib.IntN.{ℤ, pos, ◌-ℤ◌, ◌*ℤ◌}
use lib.Signed.{quot_z}
use mir.Syntax.{w64}
use mir.Val.{SFits}
use Rattle.whole.specs.Range.{million, Within}
use Rattle.whole.proofs.Bridge.{at, #, ◌⊕◌, ◌⊖◌, ◌⊗◌}
use Rattle.whole.proofs.Test.{lt_true, lt_false}
use Rattle.whole.proofs.Range.{within_quot, whole64, back}
use Rattle.whole.proofs.Floor.{quot_below, quot_above, quot_floor, quot_less_floor}
use Rattle.whole.proofs.down.Goals as goal
use Rattle.whole.proofs.down.Goals.{Start}

-- each number on the way, and that it fits
module _ (c : Start) where
  abbrev z : ℤ
  z = c.args.z

  abbrev q : ℤ
  q = quot_z z (pos million)

  q_within : Within 1_000_000_000_000_000_000 q
  q_within = within_quot z million c.requires

  q_fits : SFits w64 q
  q_fits = omega (whole64, q_within)

  product_fits : SFits w64 (q *ℤ pos million)
  product_fits = omega (whole64, c.requires, quot_below z million (omega arith), quot_above z million (omega arith), at (# q ⊗ # (pos million)), at ((# q ⊕ # (pos 1)) ⊗ # (pos million)), at ((# q ⊖ # (pos 1)) ⊗ # (pos million)))

  less_fits : SFits w64 (q -ℤ pos 1)
  less_fits = omega (whole64, q_within, at (# q ⊖ # (pos 1)))

pub returns-then-q-z : goal.returns-then-q-z
returns-then-q-z c =
    let s = (goal.at.returns-then-q-z c).Start in
    simp (back, s.ranges.z, q_fits s, less_fits s)
    (quot_less_floor (z s) million (omega arith) (lt_true _ _ (simp (back, s.ranges.z, q_fits s, product_fits s) at c.if-q-z.true)))

pub returns-else-q-z : goal.returns-else-q-z
returns-else-q-z c =
    let s = (goal.at.returns-else-q-z c).Start in
    simp (back, s.ranges.z, q_fits s)
    (quot_floor (z s) million (omega arith) (lt_false _ _ (simp (back, s.ranges.z, q_fits s, product_fits s) at c.if-q-z.false)))
