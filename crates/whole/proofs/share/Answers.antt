-- `whole::share` is the share: the product fits, and `down` divides it.
use lib.IntN.{◌*ℤ◌}
use mir.Syntax.{w64}
use mir.Val.{SFits}
use Rattle.whole.specs.Range.{million, limit, Within}
use Rattle.whole.specs.Floor.{share_of}
use Rattle.whole.proofs.Range.{within_mul, whole64, back, ok64}
use Rattle.whole.proofs.share.Goals as goal
use Rattle.whole.proofs.share.Goals.{Start}

product_within : (c : Start) → Within 1_000_000_000_000_000_000 (c.args.x *ℤ c.args.f)
product_within c = within_mul {b = limit} {c = million} c.requires.within c.requires.within_2

product_fits : (c : Start) → SFits w64 (c.args.x *ℤ c.args.f)
product_fits c = omega (whole64, product_within c)

pub overflow_mul-x : goal.overflow_mul-x
overflow_mul-x c = simp (back, c.ranges.x, c.ranges.f) (product_fits c)

pub down-requires : goal.down-requires
down-requires c = simp (back, c.ranges.x, c.ranges.f, product_fits c) (product_within c)

pub returns : goal.returns
unfolding share_of
returns c =
    let s = (goal.at.returns c).Start in
    simp (back, ok64 c.down.result c.down.type_inv)
    (simp (back, s.ranges.x, s.ranges.f, product_fits s) at c.down.ensures)
