-- The loops of the largest rate and of the bound.
use mathlib.Core.Path.{◌≡◌, refl, sym, ap, ◌∙◌}
use mathlib.Core.List.{List}
use Prim.Native.Nat.{ℕ, ◌+◌, ◌-◌, ◌*◌, ◌≤◌, ◌<◌, max}
use native.Mathlib.Omega.{arith}
use lib.ListN.{get_or}
use lib.IntN.{ℤ, pos, nat_abs, ◌+ℤ◌, ◌*ℤ◌}
use Rattle.std.specs.Int.{int_max}
use Rattle.std.proofs.lemmas.Int.{ints, int_max_is}
use Rattle.whole.specs.Range.{million, Between, Within}
use Rattle.whole.specs.Floor.{floor}
use Rattle.whole.specs.Sum.{largest}
use Rattle.whole.proofs.Bridge.{whole, at, #, ◌⊕◌}
use Rattle.whole.proofs.Range.{within_pos, within_abs}
use Rattle.whole.proofs.Sum.{largest_none, largest_more, largest_least}
use Rattle.reckoning.specs.Bound.{h as largestOf, ceiling, G, B}
use Rattle.reckoning.specs.Arrays.{rates_of, Years, Rates}
use Rattle.reckoning.proofs.Pattern.{rate_at}
use Rattle.reckoning.proofs.BoundLaws.{ceiling_high, G_step, G_most, B_most, ceiling_is}

-- ---- the largest rate
abbrev size_of : List ℤ → ℕ → ℕ
size_of i l = nat_abs (rates_of i (2 + l))

-- most is the largest of the first l rates
pub record Searched (i : List ℤ) (most : ℤ) (l : ℕ) : Type 0 where
  pub is : most ≡ pos (largest l (size_of i))

pub search_start : (i : List ℤ) → Searched i (pos 0) 0
search_start i = record { is = ap pos (sym (largest_none (size_of i))) }

max_pos : (a b : ℕ) → int_max (pos a) (pos b) ≡ pos (max a b)
max_pos a b = omega (arith, ints, int_max_is)

pub search_turn : (i : List ℤ) (most x : ℤ) (l : ℕ) → Searched i most l → x ≡ int_max most (pos (nat_abs (get_or i l (pos 0)))) → Searched i x (l + 1)
search_turn i most x l s e =
    record { is = rw (e, s.is, ← rate_at i l, largest_more l (size_of i)) (max_pos (largest l (size_of i)) (size_of i l)) }

pub search_end : (i : List ℤ) (n : ℕ) (most : ℤ) (l : ℕ) → l ≤ n - 1 → n - 1 ≤ l → Searched i most l → most ≡ pos (largestOf (rates_of i) n)
unfolding largestOf
search_end i n most l few b s = s.is ∙ ap (λ (m : ℕ). pos (largest m (size_of i))) (omega arith)

pub largest_small : (i : List ℤ) (n : ℕ) → Rates i → Years n → largestOf (rates_of i) n ≤ million
unfolding largestOf
largest_small i n r y = largest_least (n - 1) (size_of i) million (λ l b. within_abs {z = rates_of i (2 + l)} (rw rate_at (r.rate l (omega (arith, y.few)))))

-- ---- the bound
-- g is G_(k - 1), for the largest rate H over n years
pub record Growing (H : ℤ) (n : ℕ) (g : ℤ) (k : ℕ) : Type 0 where
  pub small : nat_abs H ≤ million
  pub years : Years n
  pub from : 3 ≤ k
  pub upto : k ≤ n + 2
  pub is : g ≡ pos (G (nat_abs H) (k - 1))

pub grow_start : (h n : ℕ) → h ≤ million → Years n → Growing (pos h) n (pos 1) 3
unfolding G
grow_start h n small y = record { small = small; years = y; from = omega arith; upto = omega (arith, y.some); is = refl }

module _ {h n : ℕ} {g : ℤ} {k : ℕ} (s : Growing (pos h) n g k) where
  most : G h (k - 1) + 3 * (k - 1) + 1 ≤ 4_294_967_296
  most = G_most h (k - 1) s.small (omega (arith, s.from)) (omega (arith, s.upto, s.years.few))

  pub g_within : Within 4_294_967_296 g
  g_within = rw s.is (within_pos (omega (arith, most)))

  module _ (b : k < n + 2) (d : ℤ) (e : d ≡ floor (g *ℤ pos h +ℤ pos 999_999) million) where
    down_is : d ≡ pos (ceiling (G h (k - 1) * h))
    down_is = ceiling_is h s.is e

    pub added_within : Within 4_294_967_296 (d +ℤ pos (3 * k - 5))
    added_within = rw down_is (within_pos (omega (arith, ceiling_high h (G h (k - 1)) s.small, most)))

    pub grow_turn : Growing (pos h) n (g +ℤ (d +ℤ pos (3 * k - 5))) (k + 1)
    grow_turn =
        let m : k + 1 - 1 ≡ k = omega arith in
        record {
          small = s.small;
          years = s.years;
          from = omega (arith, s.from);
          upto = omega arith;
          is = rw m (omega (whole, s.is, down_is, G_step h k s.from, at (# g ⊕ (# d ⊕ # (pos (3 * k - 5))))));
        }

  pub grow_end : n + 2 ≤ k → g +ℤ pos n ≡ pos (B h n)
  unfolding B
  grow_end b = let e : k - 1 ≡ n + 1 = omega (arith, s.upto) in rw (s.is, e)

  pub bound_between : Between (pos 0) (pos 4_294_967_295) (pos (B h n))
  bound_between = omega (whole, B_most h n s.small s.years.some s.years.few)
