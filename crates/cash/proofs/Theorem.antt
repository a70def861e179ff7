-- The theorem of the cash account, for any number of years. A year is one step: what an account grows to with its interest is monotone in
-- the account, also through zero, and grows a gap by at most 1 + h (`grown_apart`); the cuts of the interest and of the flow add less than
-- two amounts (`year`). Then what the words say of the exact account.
use mathlib.Core.Path.{◌≡◌, refl, ap, ◌∙◌, subst}
use Prim.Native.Nat.{ℕ, zero, suc, ◌+◌, ◌-◌, ◌*◌, ◌^◌, ◌≤◌, ◌<◌}
use native.Mathlib.Nat.{mul-le-mul_left, mul-le-mul_right, one-le-pow}
use native.Mathlib.Omega.{arith}
use borrow.Author.Tests.{le-leb}
use lib.Pow.{pow-add}
use lib.IntN.{ℤ, pos, negsuc, neg_ℤ, nat_abs, ◌+ℤ◌, ◌-ℤ◌, ◌*ℤ◌}
use lib.Signed.{◌≤ℤ◌, ◌<ℤ◌}
use Rattle.whole.specs.Range.{million}
use Rattle.whole.specs.Floor.{IsFloor, share_of}
use Rattle.whole.proofs.Bridge.{whole, at, same, #, ◌⊕◌, ◌⊖◌, ◌⊗◌, plus, minus}
use Rattle.whole.proofs.Laws.{*ℤ_mono, *ℤ_mono_<, pos_nonneg}
use Rattle.whole.proofs.Floor.{share_is}
use Rattle.whole.proofs.Sum.{largest_upper}
use Rattle.reckoning.specs.Bound.{h as largestRate, ceiling}
use Rattle.reckoning.specs.Theorem.{Floors}
use Rattle.reckoning.proofs.BoundLaws.{ceiling_low}
use Rattle.cash.specs.Account.{rate_for, next, exact_next, account, X, h, g}
use Rattle.cash.specs.Theorem.{Below, NearEveryYear}

-- ---- the powers: the exact account of t years is counted in units of 1 / unit t
abbrev unit : ℕ → ℕ
unit t = 10 ^ (6 * t)

unit_suc : (t : ℕ) → unit (suc t) ≡ million * unit t
unit_suc t = ap (λ (n : ℕ). 10 ^ n) {x = 6 * suc t} {y = 6 + 6 * t} (omega arith) ∙ pow-add 10 6 (6 * t)

unit_positive : (t : ℕ) → 1 ≤ unit t
unit_positive t = one-le-pow (6 * t) 10 (omega arith)

-- ---- what is above zero, and what is below
plus_none : (k : ℕ) → plus (neg_ℤ (pos k)) ≡ 0
plus_none zero = refl
plus_none (suc k) = refl

minus_all : (k : ℕ) → minus (neg_ℤ (pos k)) ≡ k
minus_all zero = refl
minus_all (suc k) = refl

plus_scale : (z : ℤ) (U : ℕ) → plus (z *ℤ pos U) ≡ plus z * U
plus_scale (pos n) U = refl
plus_scale (negsuc n) U = plus_none (suc n * U) ∙ omega arith

minus_scale : (z : ℤ) (U : ℕ) → minus (z *ℤ pos U) ≡ minus z * U
minus_scale (pos n) U = omega arith
minus_scale (negsuc n) U = minus_all (suc n * U)

plus_mono : (y z : ℤ) → y ≤ℤ z → plus y ≤ plus z
plus_mono (pos m) (pos n) l = omega whole
plus_mono (pos m) (negsuc n) l = absurd l.le
plus_mono (negsuc m) z l = omega arith

minus_mono : (y z : ℤ) → y ≤ℤ z → minus z ≤ minus y
minus_mono y (pos n) l = omega arith
minus_mono (pos m) (negsuc n) l = absurd l.le
minus_mono (negsuc m) (negsuc n) l = omega whole

-- ---- an account z with its interest, at the lending rate a and the borrowing rate b, in millionths
module _ (a b : ℕ) where
  grown : ℤ → ℤ
  grown z = z *ℤ (pos million +ℤ rate_for (pos a) (pos b) z)

  -- what is above zero grows by a, what is below by b
  grown_parts : (z : ℤ) → grown z ≡ pos (plus z * (million + a)) -ℤ pos (minus z * (million + b))
  unfolding grown rate_for
  grown_parts (pos n) = rw (le-leb 0 n (omega arith)) (same (# (pos (n * (million + a)))) (# (pos (n * (million + a))) ⊖ # (pos (0 * (million + b)))) (omega arith))
  grown_parts (negsuc n) = omega (whole, at (# (negsuc n) ⊗ # (pos (million + b))), at (# (pos (0 * (million + a))) ⊖ # (pos (suc n * (million + b)))))

  -- U times as much grows U times as much
  grown_scale : (z : ℤ) (U : ℕ) → grown (z *ℤ pos U) ≡ grown z *ℤ pos U
  grown_scale z U = rw (grown_parts (z *ℤ pos U), grown_parts z, plus_scale z U, minus_scale z U)
      (same (# (pos (plus z * U * (million + a))) ⊖ # (pos (minus z * U * (million + b)))) ((# (pos (plus z * (million + a))) ⊖ # (pos (minus z * (million + b)))) ⊗ # (pos U)) (omega arith))

  -- two accounts y ≤ z, on whichever sides of zero, that are `gap` apart, are `growth` apart with their interest: at most 1 + h times as
  -- much, and never the other way round
  record Apart (h : ℕ) (y z : ℤ) : Type 0 where
    gap : ℕ
    growth : ℕ
    gap_is : z ≡ y +ℤ pos gap
    growth_is : grown z ≡ grown y +ℤ pos growth
    growth_le : growth ≤ gap * (million + h)

  grown_apart : (h : ℕ) → a ≤ h → b ≤ h → (y z : ℤ) → y ≤ℤ z → Apart h y z
  grown_apart h ah bh y z l =
      let above : plus y ≤ plus z = plus_mono y z l in
      let under : minus z ≤ minus y = minus_mono y z l in
      let d = plus z - plus y in
      let e = minus y - minus z in
      let p : plus z ≡ plus y + d = omega arith in
      let q : minus y ≡ minus z + e = omega arith in
      record {
        gap = d + e;
        growth = d * (million + a) + e * (million + b);
        gap_is = omega (whole, at (# y ⊕ # (pos (d + e))));
        growth_is = omega (
          whole,
          grown_parts y,
          grown_parts z,
          ap (λ (n : ℕ). n * (million + a)) p,
          ap (λ (n : ℕ). n * (million + b)) q,
          at (# (grown y) ⊕ # (pos (d * (million + a) + e * (million + b)))),
          at (# (pos (plus y * (million + a))) ⊖ # (pos (minus y * (million + b)))),
          at (# (pos (plus z * (million + a))) ⊖ # (pos (minus z * (million + b)))),
        );
        growth_le = omega (arith, mul-le-mul_left d ah, mul-le-mul_left e bh);
      }

-- ---- a year
-- an account v, which is never above the exact one X / U, and lies below it by less than c
record Under (U : ℕ) (X v : ℤ) (c : ℕ) : Type 0 where
  low : (v *ℤ pos U) ≤ℤ X
  high : X <ℤ ((v +ℤ pos c) *ℤ pos U)

module _ (a b h : ℕ) (ah : a ≤ h) (bh : b ≤ h) (v : ℤ) where
  -- the account with its interest is the floor of what it grows to
  interest_floor : IsFloor (grown a b v) million (v +ℤ share_of v (rate_for (pos a) (pos b) v))
  unfolding grown
  interest_floor =
      let r = rate_for (pos a) (pos b) v in
      let s = share_of v r in
      omega (
        whole,
        share_is v r,
        at (# v ⊗ (# (pos million) ⊕ # r)),
        at (# v ⊗ # r),
        at (# s ⊗ # (pos million)),
        at ((# s ⊕ # (pos 1)) ⊗ # (pos million)),
        at ((# v ⊕ # s) ⊗ # (pos million)),
        at ((# v ⊕ # s ⊕ # (pos 1)) ⊗ # (pos million)),
      )

  -- and with the year's flow it is less than two whole amounts below
  module _ (f x : ℤ) (floors : IsFloor x million f) where
    abbrev interest : ℤ
    interest = v +ℤ share_of v (rate_for (pos a) (pos b) v)

    abbrev n : ℤ
    n = next (pos a) (pos b) v f

    next_low : (n *ℤ pos million) ≤ℤ (grown a b v +ℤ x)
    unfolding next
    next_low = omega (whole, interest_floor.low, floors.low, at (# (grown a b v) ⊕ # x), at (# interest ⊗ # (pos million)), at (# f ⊗ # (pos million)), at ((# interest ⊕ # f) ⊗ # (pos million)))

    next_high : (grown a b v +ℤ x) <ℤ ((n +ℤ pos 2) *ℤ pos million)
    unfolding next
    next_high = omega (whole, interest_floor.high, floors.high, at (# (grown a b v) ⊕ # x), at ((# interest ⊕ # (pos 1)) ⊗ # (pos million)), at ((# f ⊕ # (pos 1)) ⊗ # (pos million)), at ((# interest ⊕ # f ⊕ # (pos 2)) ⊗ # (pos million)))

    module _ (U c : ℕ) (some : 1 ≤ U) (X : ℤ) (under : Under U X v c) where
      abbrev y : ℤ
      y = grown a b v +ℤ x

      apart : Apart a b h (v *ℤ pos U) X
      apart = grown_apart a b h ah bh (v *ℤ pos U) X under.low

      -- the exact account after the year: what the account grew to, in its units, and what the gap grew to
      exact_is : exact_next (pos a) (pos b) X (x *ℤ pos U) ≡ y *ℤ pos U +ℤ pos apart.growth
      unfolding exact_next grown
      exact_is =
          ap (λ (z : ℤ). z +ℤ x *ℤ pos U) (apart.growth_is ∙ ap (λ (z : ℤ). z +ℤ pos apart.growth) (grown_scale a b v U))
          ∙ same (# (grown a b v) ⊗ # (pos U) ⊕ # (pos apart.growth) ⊕ # x ⊗ # (pos U)) ((# (grown a b v) ⊕ # x) ⊗ # (pos U) ⊕ # (pos apart.growth)) (omega arith)

      gap_lt : apart.gap < c * U
      gap_lt = omega (whole, apart.gap_is, under.high, at (# v ⊗ # (pos U) ⊕ # (pos apart.gap)), at ((# v ⊕ # (pos c)) ⊗ # (pos U)))

      -- the gap grows by no more than the bound does
      growth_lt : apart.growth ≤ (c + ceiling (c * h)) * (million * U)
      growth_lt = omega (arith, apart.growth_le, mul-le-mul_right (million + h) gap_lt, mul-le-mul_right U (ceiling_low (c * h)))

      year : Under (million * U) (exact_next (pos a) (pos b) X (x *ℤ pos U)) n (c + ceiling (c * h) + 2)
      year = rw exact_is (record {
        low = omega (whole, *ℤ_mono {m = pos U} (pos_nonneg U) next_low, at (# n ⊗ # (pos (million * U))), at (# n ⊗ # (pos million) ⊗ # (pos U)), at (# (y *ℤ pos U) ⊕ # (pos apart.growth)));
        high = omega (
          whole,
          growth_lt,
          *ℤ_mono_< {m = pos U} (omega whole) next_high,
          at (# (y *ℤ pos U) ⊕ # (pos apart.growth)),
          at ((# n ⊕ # (pos 2)) ⊗ # (pos million) ⊗ # (pos U)),
          at ((# n ⊕ # (pos (c + ceiling (c * h) + 2))) ⊗ # (pos (million * U))),
        );
      })

-- a rate from 0 to h
record Rate (h : ℕ) (r : ℤ) : Type 0 where
  low : pos 0 ≤ℤ r
  high : nat_abs r ≤ h

year_of : (l b : ℤ) (h : ℕ) → Rate h l → Rate h b → (v f x : ℤ) → IsFloor x million f → (U c : ℕ) → 1 ≤ U → (X : ℤ) → Under U X v c
    → Under (million * U) (exact_next l b X (x *ℤ pos U)) (next l b v f) (c + ceiling (c * h) + 2)
year_of (pos a) (pos b) h ra rb = year a b h ra.high rb.high
year_of (pos a) (negsuc b) h ra rb = absurd rb.low.le
year_of (negsuc a) b h ra rb = absurd ra.low.le

-- ---- every year
module _ (lending borrowing : ℕ → ℤ) (N : ℕ) (some : 1 ≤ N)
    (l₀ : (l : ℕ) → l < N - 1 → pos 0 ≤ℤ lending (2 + l)) (b₀ : (l : ℕ) → l < N - 1 → pos 0 ≤ℤ borrowing (2 + l))
    (f x : ℕ → ℤ) (floors : Floors f x) where
  abbrev most : ℕ
  most = h lending borrowing N

  -- no rate of years 2 to N is above h
  lending_rate : (l : ℕ) → l < N - 1 → Rate most (lending (2 + l))
  unfolding h largestRate
  lending_rate l b = record { low = l₀ l b; high = omega (arith, largest_upper (N - 1) (λ l. nat_abs (lending (2 + l))) l b) }

  borrowing_rate : (l : ℕ) → l < N - 1 → Rate most (borrowing (2 + l))
  unfolding h largestRate
  borrowing_rate l b = record { low = b₀ l b; high = omega (arith, largest_upper (N - 1) (λ l. nat_abs (borrowing (2 + l))) l b) }

  years : (t : ℕ) → suc t ≤ N → Under (unit (suc t)) (X lending borrowing x (suc t)) (account lending borrowing f (suc t)) (g most (suc t))
  unfolding X account g
  years zero k = record { low = (floors 1).low; high = (floors 1).high }
  years (suc t) k =
      let e : 2 + t ≡ suc (suc t) = omega arith in
      let l = subst (λ (t : ℕ). Rate most (lending t)) e (lending_rate t (omega arith)) in
      let b = subst (λ (t : ℕ). Rate most (borrowing t)) e (borrowing_rate t (omega arith)) in
      rw (unit_suc (suc t))
      (year_of (lending (suc (suc t))) (borrowing (suc (suc t))) most l b (account lending borrowing f (suc t)) (f (suc (suc t))) (x (suc (suc t))) (floors (suc (suc t)))
      (unit (suc t)) (g most (suc t)) (unit_positive (suc t)) (X lending borrowing x (suc t)) (years t (omega arith)))

  last_year : Below N (X lending borrowing x N) (account lending borrowing f N) (g most N)
  last_year =
      let e : suc (N - 1) ≡ N = omega arith in
      let u = subst (λ (N : ℕ). Under (unit N) (X lending borrowing x N) (account lending borrowing f N) (g most N)) e (years (N - 1) (omega arith)) in
      record { low = u.low; high = u.high }

-- the theorem
pub near_every_year : NearEveryYear
near_every_year = record { near = last_year }

-- ---- the words against c, of an exact account X and an account v with the bound b
module _ {N b : ℕ} {X v c : ℤ} (below : Below N X v b) where
  pub exactly_solvent : c ≤ℤ v → (c *ℤ pos (10 ^ (6 * N))) ≤ℤ X
  exactly_solvent s = omega (whole, below.low, *ℤ_mono {m = pos (10 ^ (6 * N))} (pos_nonneg (10 ^ (6 * N))) s)

  pub exactly_short : (v +ℤ pos b) ≤ℤ c → X <ℤ (c *ℤ pos (10 ^ (6 * N)))
  exactly_short s = omega (whole, below.high, *ℤ_mono {m = pos (10 ^ (6 * N))} (pos_nonneg (10 ^ (6 * N))) s)
