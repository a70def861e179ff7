-- `listing::put_digits` puts down a tenth's digits first, and `most` falls.
use mathlib.Core.Path.{◌≡◌, ap, ◌∙◌}
use mathlib.Core.List.{List, [], ◌∷◌}
use Prim.Native.Nat.{ℕ, ◌+◌, ◌%◌}
use native.Mathlib.Omega.{arith}
use Rattle.little_endian.proofs.Wrote.{wrote_none, wrote_byte, wrote_then, wrote_as}
use Rattle.listing.proofs.Decimal.{no_digits, room, one_digit, more_digits}
use Rattle.listing.proofs.+put_digits.Goals as goal

pub returns-then-most-eq0 : goal.returns-then-most-eq0
returns-then-most-eq0 t c = record { wrote = wrote_as (no_digits _ c.if-most-eq0.true) (wrote_none _ _); few = omega arith }

pub returns-then-n-lt10 : goal.returns-then-n-lt10
returns-then-n-lt10 t c =
    let same : 48 + c.args.n ≡ 48 + c.args.n % 10 = omega (arith, c.if-n-lt10.true) in
    record {
      wrote = wrote_as (ap (λ (x : ℕ). x ∷ []) same ∙ one_digit c.if-most-eq0.false c.if-n-lt10.true) (wrote_byte _ (omega arith));
      few = omega (arith, room c.if-most-eq0.false);
    }

pub returns : goal.returns
returns t c = record {
  wrote = wrote_as (more_digits c.if-most-eq0.false (omega (arith, c.if-n-lt10.false))) (wrote_then c.put_digits-end.ensures.wrote (wrote_byte _ (omega arith)));
  few = omega (arith, room c.if-most-eq0.false, c.put_digits-end.ensures.few);
}
