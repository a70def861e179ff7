-- `listing::put_signed` puts down a minus sign where one is, and the digits of the number without it.
use mathlib.Core.List.{[], ◌∷◌, ◌++◌}
use mathlib.Core.Path.{◌≡◌, ap, ◌∙◌}
use native.Mathlib.Omega.{arith}
use lib.IntN.{nat_abs}
use Rattle.little_endian.proofs.Wrote.{wrote_byte, wrote_then, wrote_as}
use Rattle.whole.proofs.Range.{back}
use Rattle.listing.specs.Text.{decimal}
use Rattle.listing.proofs.Decimal.{nonneg_text, negative_text}
use Rattle.listing.proofs.put_signed.Goals as goal
use Rattle.listing.proofs.put_signed.Goals.{After-put_digits, then-z-lt0, else-z-lt0}

size : (c : After-put_digits) → c.unsigned_abs.result ≡ nat_abs c.args.z
size c = c.unsigned_abs.ensures.value ∙ ap nat_abs (back c.ranges.z)

pub returns : goal.returns
returns c = let n = (goal.at.returns c).After-put_digits in elim c.if-z-lt0.branch [
  | then-z-lt0 w ↦ record {
    wrote = wrote_as (ap (λ k. (45 ∷ []) ++ decimal k) (size n) ∙ negative_text c.args.z (rw (back c.ranges.z) at w.if-z-lt0.true))
        (wrote_then (wrote_byte 45 (omega arith)) (rw (w.buffer-is, w.place-is) at c.put_digits.ensures.wrote));
    few = omega (arith, w.place-is, c.put_digits.ensures.few);
  }
  | else-z-lt0 w ↦ record {
    wrote = wrote_as (ap decimal (size n) ∙ nonneg_text c.args.z (rw (back c.ranges.z) at w.if-z-lt0.false)) (rw (w.buffer-is, w.place-is) at c.put_digits.ensures.wrote);
    few = omega (arith, w.place-is, c.put_digits.ensures.few);
  }
]
