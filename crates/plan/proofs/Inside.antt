-- What a range of numbers says of one: that it lies between the range's ends.
use mathlib.Core.Path.{◌≡◌, refl, sym, ◌∙◌}
use mathlib.Core.Bool.{Bool, true, false}
use native.Mathlib.Omega.{arith}
use borrow.Author.Tests.{le-leb, lt-leb}
use Prim.Native.Nat.{ℕ, ◌<◌}
use lib.Dec.{leb}
use lib.IntN.{ℤ}
use lib.Signed.{le_z, ◌<ℤ◌}
use Rattle.std.specs.Cmp.{ranks, int_ranks}
use Rattle.std.specs.Prelude.{Some, ◌&&◌}
use Rattle.std.specs.Ordering.{MatchOrdering, nat_cmp, int_cmp, is_le}
use Rattle.std.specs.Range.{range_inclusive_start, range_inclusive_end, range_inclusive_exhausted, range_inclusive_contains}
use Rattle.std.specs.declared.cmp.Ordering.{Ordering}
use Rattle.std.specs.declared.cmp.Ordering.TheVariants.{Less, Equal, Greater}
use Rattle.std.specs.declared.ops.RangeInclusive.{RangeInclusive}
use Rattle.whole.specs.Test.{both, is_from, is_between}
use Rattle.whole.proofs.Bridge.{whole}
use Rattle.whole.proofs.Test.{le_le_Z, lt_le_Z}

same : (p q : Bool) → p && q ≡ both p q
same true q = refl
same false q = refl

count_at_most : (a b : ℕ) → is_le (nat_cmp a b) ≡ leb a b
count_at_most a b = go (nat_cmp a b) (ranks a b)
  where
    go : (o : Ordering) → MatchOrdering o (a < b) (a ≡ b) (b < a) → is_le o ≡ leb a b
    go Less h = sym (le-leb a b (omega arith))
    go Equal e = sym (le-leb a b (omega arith))
    go Greater h = sym (lt-leb a b h)

-- a count
pub counted : {s : RangeInclusive ℕ} {a b : ℕ} (n : ℕ) {r : Bool} → range_inclusive_start s ≡ a → range_inclusive_end s ≡ b → range_inclusive_exhausted s ≡ false
    → r ≡ range_inclusive_contains (λ x y. Some (nat_cmp x y)) s n → is_from a b n ≡ r
counted {s} {a} {b} n start end fresh e = sym (e ∙ rw (start, end, fresh, count_at_most a n, count_at_most n b) (same (leb a n) (leb n b)))

at_most : (a b : ℤ) → is_le (int_cmp a b) ≡ le_z a b
at_most a b = go (int_cmp a b) (int_ranks a b)
  where
    go : (o : Ordering) → MatchOrdering o (a <ℤ b) (a ≡ b) (b <ℤ a) → is_le o ≡ le_z a b
    go Less h = sym (le_le_Z a b (omega whole))
    go Equal e = sym (le_le_Z a b (omega whole))
    go Greater h = sym (lt_le_Z a b h)

-- a whole number
pub inside : {s : RangeInclusive ℤ} {a b : ℤ} (z : ℤ) {r : Bool} → range_inclusive_start s ≡ a → range_inclusive_end s ≡ b → range_inclusive_exhausted s ≡ false
    → r ≡ range_inclusive_contains (λ x y. Some (int_cmp x y)) s z → r ≡ is_between a b z
unfolding is_between
inside {s} {a} {b} z start end fresh e = e ∙ rw (start, end, fresh, at_most a z, at_most z b) (same (le_z a z) (le_z z b))
