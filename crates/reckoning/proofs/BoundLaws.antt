-- The bound: its equations, its size, and the numbers of a step.
use mathlib.Core.Path.{◌≡◌, refl, ap, ◌∙◌}
use Prim.Native.Nat.{ℕ, zero, suc, ◌+◌, ◌-◌, ◌*◌, ◌^◌, ◌≤◌, ◌<◌}
use native.Mathlib.Nat.{pow-suc, mul-le-mul_left}
use native.Mathlib.Numerals.{add-one}
use native.Mathlib.Omega.{arith}
use lib.Pow.{pow_mono}
use lib.IntN.{ℤ, pos, ◌+ℤ◌, ◌*ℤ◌}
use Rattle.whole.specs.Range.{million, Within}
use Rattle.whole.specs.Floor.{floor}
use Rattle.whole.proofs.Bridge.{whole, at, #, ◌⊕◌}
use Rattle.whole.proofs.Range.{within_pos, within_mul}
use Rattle.reckoning.specs.Bound.{ceiling, G, B}

pub ceiling_low : (n : ℕ) → n ≤ million * ceiling n
unfolding ceiling
ceiling_low n = omega arith

-- a rate of at most 1,000,000 adds no more than the whole
pub ceiling_high : (h n : ℕ) → h ≤ million → ceiling (n * h) ≤ n
unfolding ceiling
ceiling_high h n most = omega (arith, mul-le-mul_left n most)

module _ (h : ℕ) where
  pub G_two : G h 2 ≡ 1
  unfolding G
  G_two = refl

  pub G_suc : (j : ℕ) → G h (suc (suc (suc j))) ≡ G h (suc (suc j)) + ceiling (G h (suc (suc j)) * h) + (3 * j + 4)
  unfolding G
  G_suc j = omega arith

  pub B_is : (j : ℕ) → B h (suc j) ≡ G h (suc (suc j)) + suc j
  unfolding B
  B_is j = rw (add-one (suc j))

  pub G_below_B : (N : ℕ) → 1 ≤ N → G h (N + 1) < B h N
  unfolding B
  G_below_B N some = omega arith

  -- G_k of the G before it
  pub G_step : (k : ℕ) → 3 ≤ k → G h k ≡ G h (k - 1) + ceiling (G h (k - 1) * h) + (3 * k - 5)
  unfolding G
  G_step (suc (suc (suc k))) l = let e : suc (suc (suc k)) - 1 ≡ suc (suc k) = omega arith in rw e
  G_step (suc (suc zero)) l = absurd (omega arith)
  G_step (suc zero) l = absurd (omega arith)
  G_step zero l = absurd (omega arith)

  -- an equality where h is 1,000,000
  G_small : h ≤ million → (j : ℕ) → G h (suc (suc j)) + 3 * j + 7 ≤ 2 ^ suc (suc (suc j))
  G_small most zero = omega (arith, G_two)
  G_small most (suc j) = omega (arith, G_suc j, ceiling_high h (G h (suc (suc j))) most, G_small most j, pow-suc 2 (suc (suc (suc j))))

  pub B_small : (N : ℕ) → h ≤ million → 1 ≤ N → B h N < 2 ^ (N + 2)
  B_small zero most some = absurd (omega arith)
  B_small (suc j) most some = let e : suc j + 2 ≡ suc (suc (suc j)) = omega arith in rw e (omega (arith, B_is j, G_small most j))

  -- over thirty years G stays within 2^32, and B below it
  pub G_most : (k : ℕ) → h ≤ million → 2 ≤ k → k ≤ 31 → G h k + 3 * k + 1 ≤ 4_294_967_296
  G_most k most some few =
      let e : suc (suc (k - 2)) ≡ k = omega arith in
      omega (arith, rw e at (G_small most (k - 2)), pow_mono {i = suc k} {j = 32} (omega arith))

  pub B_most : (N : ℕ) → h ≤ million → 1 ≤ N → N ≤ 30 → B h N ≤ 4_294_967_295
  unfolding B
  B_most N most some few = omega (arith, G_most (N + 1) most (omega arith) (omega arith))

-- ---- what the code reckons on the way from a bound x, within 2^32, to the next, at the largest rate h
module _ {x : ℤ} {h : ℕ} (within : Within 4_294_967_296 x) (small : h ≤ million) where
  pub product_within : Within 4_294_967_296_000_000 (x *ℤ pos h)
  product_within = within_mul within (within_pos small)

  pub asked_within : Within 1_000_000_000_000_000_000 (x *ℤ pos h +ℤ pos 999_999)
  asked_within = omega (whole, product_within, at (# (x *ℤ pos h) ⊕ # (pos 999_999)))

pub ceiling_is : {x d : ℤ} {n : ℕ} (h : ℕ) → x ≡ pos n → d ≡ floor (x *ℤ pos h +ℤ pos 999_999) million → d ≡ pos (ceiling (n * h))
unfolding floor ceiling
ceiling_is h e f = f ∙ ap (λ (z : ℤ). floor (z *ℤ pos h +ℤ pos 999_999) million) e
