-- The bound g: its equation, its size, and the loop that reckons it.
use mathlib.Core.Path.{◌≡◌, refl, ap, ◌∙◌}
use mathlib.Core.List.{List}
use Prim.Native.Nat.{ℕ, zero, suc, ◌+◌, ◌*◌, ◌^◌, ◌≤◌, ◌<◌, max}
use native.Mathlib.Nat.{pow-suc}
use native.Mathlib.Numerals.{add-one}
use native.Mathlib.Omega.{arith}
use lib.Pow.{pow_mono}
use lib.IntN.{ℤ, pos, nat_abs, ◌+ℤ◌, ◌*ℤ◌}
use Rattle.std.specs.Int.{int_max}
use Rattle.std.proofs.lemmas.Int.{ints, int_max_is}
use Rattle.whole.specs.Range.{million, Between, Within}
use Rattle.whole.specs.Floor.{floor}
use Rattle.whole.proofs.Bridge.{whole, at, #, ◌⊕◌}
use Rattle.whole.proofs.Range.{within_pos}
use Rattle.reckoning.specs.Bound.{ceiling}
use Rattle.reckoning.specs.Arrays.{rates_of, Years, Rates}
use Rattle.reckoning.proofs.BoundLaws.{ceiling_high, ceiling_is}
use Rattle.reckoning.proofs.BoundLoops.{largest_small}
use Rattle.cash.specs.Account.{h as largestRate, g}

-- ---- g
module _ (h : ℕ) where
  g_next : (t : ℕ) → 1 ≤ t → g h (t + 1) ≡ g h t + ceiling (g h t * h) + 2
  unfolding g
  g_next zero some = absurd (omega arith)
  g_next (suc t) some = rw (add-one (suc t))

  g_small : h ≤ million → (t : ℕ) → g h (suc t) + 2 ≤ 2 ^ suc (suc t)
  unfolding g
  g_small most zero = omega arith
  g_small most (suc t) = omega (arith, ceiling_high h (g h (suc t)) most, g_small most t, pow-suc 2 (suc (suc t)))

  -- over thirty years g stays within 2^32
  g_most : (t : ℕ) → h ≤ million → 1 ≤ t → t ≤ 30 → g h t + 2 ≤ 4_294_967_296
  g_most zero most some few = absurd (omega arith)
  g_most (suc t) most some few = omega (arith, g_small most t, pow_mono {i = suc (suc t)} {j = 32} (omega arith))

-- ---- the loop: x is g_t, for the largest rate H over n years
pub record Growing (H : ℤ) (n : ℕ) (x : ℤ) (t : ℕ) : Type 0 where
  pub small : nat_abs H ≤ million
  pub years : Years n
  pub from : 1 ≤ t
  pub upto : t ≤ n
  pub is : x ≡ pos (g (nat_abs H) t)

pub grow_start : (h n : ℕ) → h ≤ million → Years n → Growing (pos h) n (pos 1) 1
unfolding g
grow_start h n small y = record { small = small; years = y; from = omega arith; upto = y.some; is = refl }

module _ {h n : ℕ} {x : ℤ} {t : ℕ} (s : Growing (pos h) n x t) where
  most : g h t + 2 ≤ 4_294_967_296
  most = g_most h t s.small s.from (omega (arith, s.upto, s.years.few))

  pub g_between : Between (pos 0) (pos 4_294_967_296) x
  g_between = rw s.is (omega (whole, most))

  pub g_within : Within 4_294_967_296 x
  g_within = rw s.is (within_pos (omega (arith, most)))

  module _ (b : t < n) {d : ℤ} (e : d ≡ floor (x *ℤ pos h +ℤ pos 999_999) million) where
    down_is : d ≡ pos (ceiling (g h t * h))
    down_is = ceiling_is h s.is e

    pub added_within : Within 4_294_967_296 (d +ℤ pos 2)
    added_within = rw down_is (within_pos (omega (arith, ceiling_high h (g h t) s.small, most)))

    pub grow_turn : Growing (pos h) n (x +ℤ (d +ℤ pos 2)) (t + 1)
    grow_turn = record {
      small = s.small;
      years = s.years;
      from = omega arith;
      upto = omega arith;
      is = omega (whole, s.is, down_is, g_next h t s.from, at (# x ⊕ (# d ⊕ # (pos 2))));
    }

  pub grow_end : n ≤ t → x ≡ pos (g h n)
  grow_end b = let e : t ≡ n = omega (arith, s.upto) in s.is ∙ ap (λ (t : ℕ). pos (g h t)) e

-- ---- h of two lists
pub max_counts : (a b : ℕ) → int_max (pos a) (pos b) ≡ pos (max a b)
max_counts a b = omega (arith, ints, int_max_is)

module _ (lending borrowing : List ℤ) (n : ℕ) where
  pub largest_few : Rates lending → Rates borrowing → Years n → largestRate (rates_of lending) (rates_of borrowing) n ≤ million
  unfolding largestRate
  largest_few l b y = omega (arith, largest_small lending n l y, largest_small borrowing n b y)
