-- At a level rate the exact fund of a flow does not know the rollover: what has matured and what has not earn the same, so that a year on the
-- fund is what it was, with a year's interest, and the year's flow.
use mathlib.Core.Path.{◌≡◌, refl, sym, ap, ap₂, ◌∙◌}
use Prim.Native.Nat.{ℕ, zero, suc, ◌+◌, ◌-◌, ◌*◌, ◌^◌, ◌≤◌, ◌<◌}
use native.Mathlib.Omega.{arith}
use lib.IntN.{ℤ, pos, nat_abs, pow, ◌+ℤ◌, ◌-ℤ◌, ◌*ℤ◌, *ℤ-one}
use lib.Pow.{pow-add}
use lib.Signed.{◌<ℤ◌}
use Rattle.whole.specs.Range.{million}
use Rattle.whole.specs.Sum.{sum, Σℕ}
use Rattle.whole.proofs.Bridge.{whole, at, #, ◌⊕◌, ◌⊖◌, ◌⊗◌, ⊝}
use Rattle.whole.proofs.Laws.{*ℤ_1, pos_nonneg, ≤ℤ_<ℤ_trans, *ℤ_cancel_<}
use Rattle.whole.proofs.Range.{within_abs}
use Rattle.whole.proofs.Solver.{ring, ◌≈◌}
use Rattle.whole.proofs.Sum.{sum_none, sum_suc, sum_cong, sum_add, sum_scale}
use Rattle.reckoning.specs.Reckoning.{w}
use Rattle.reckoning.specs.Exact.{E, H}
use Rattle.reckoning.specs.Level.{Level, level_H, LevelEveryYear}
use Rattle.reckoning.specs.Theorem.{FromBelow}
use Rattle.reckoning.proofs.Recursion.{w_zero, w_suc, E_is, H_is}
use Rattle.reckoning.proofs.Powers.{P, P_suc}

-- what 1 grows to in a year at c, in units of 10^-12
abbrev grown : ℤ → ℤ
grown c = pos million *ℤ (pos million +ℤ c)

-- ---- the exact fund, year by year
module _ (r : ℕ → ℕ) (i x : ℕ → ℤ) (shares : (d : ℕ) → Σℕ 1 d r ≤ million) where
  -- of an exact cell e, what is still invested after a year more, and what it has sent, are what was invested, with a year's interest
  cell_grown : (e c : ℤ) (d : ℕ) → e *ℤ pos (w r (suc d)) *ℤ pos (P (suc d)) +ℤ e *ℤ (pos (million * r (suc d)) +ℤ c *ℤ pos (w r d)) *ℤ pos (P d) *ℤ pos million
      ≡ e *ℤ pos (w r d) *ℤ pos (P d) *ℤ grown c
  cell_grown e c d = rw (P_suc d, w_suc r shares d)
      (ring 6 (λ e v m p s c. e ⊗ v ⊗ (m ⊗ m ⊗ p) ⊕ e ⊗ (m ⊗ s ⊕ c ⊗ (v ⊕ s)) ⊗ p ⊗ m ≈ e ⊗ (v ⊕ s) ⊗ p ⊗ (m ⊗ (m ⊕ c))) refl e (pos (w r (suc d))) (pos million) (pos (P d)) (pos (r (suc d))) c)

  abbrev cell : ℕ → ℤ
  cell l = E r i x (2 + l)

  -- what cell 2 + l still has invested at the horizon N, and what it sends in the year after, into cell 2 + N
  kept_at : ℕ → ℕ → ℤ
  kept_at N l = cell l *ℤ pos (w r (N - l - 1)) *ℤ pos (P (N - l - 1))

  sent_at : ℕ → ℕ → ℤ
  sent_at N l = cell l *ℤ (pos (million * r (N - l)) +ℤ i (2 + l) *ℤ pos (w r (N - l - 1))) *ℤ pos (P (N - l - 1))

  -- that cell is its flow, and what the others send into it
  last_cell : (N : ℕ) → kept_at (suc N) N ≡ (x (1 + N) *ℤ pos (P N) +ℤ sum N (sent_at N)) *ℤ pos million
  unfolding kept_at sent_at P
  last_cell N =
      let e : suc N - N - 1 ≡ 0 = omega arith in
      rw (e, w_zero r, E_is r i x N) (*ℤ_1 _)

  module _ (c : ℤ) where
    -- at c, what is still invested a year on and what was sent are what was invested, with a year's interest
    each_grown : (N : ℕ) → Level i (suc N) c → (l : ℕ) → l < N → kept_at (suc N) l +ℤ sent_at N l *ℤ pos million ≡ kept_at N l *ℤ grown c
    unfolding kept_at sent_at
    each_grown N level l b =
        let e : suc (N - l - 1) ≡ N - l = omega arith in
        let f : suc N - l - 1 ≡ N - l = omega arith in
        rw (f, level (2 + l) (omega arith) (omega arith)) (rw e at (cell_grown (cell l) c (N - l - 1)))

    -- a year on
    H_suc : (N : ℕ) → Level i (suc N) c → H r i (suc N) x ≡ H r i N x *ℤ grown c +ℤ x (1 + N) *ℤ pos (million * P N)
    unfolding kept_at P
    H_suc N level =
        H_is r i (suc N) x
        ∙ sum_suc N (kept_at (suc N))
        ∙ ap (λ z. sum N (kept_at (suc N)) +ℤ z) (last_cell N)
        ∙ ring 5 (λ k x p s m. k ⊕ (x ⊗ p ⊕ s) ⊗ m ≈ k ⊕ s ⊗ m ⊕ x ⊗ (m ⊗ p)) refl (sum N (kept_at (suc N))) (x (1 + N)) (pos (P N)) (sum N (sent_at N)) (pos million)
        ∙ ap (λ z. z +ℤ x (1 + N) *ℤ pos (million * P N))
        (ap (λ z. sum N (kept_at (suc N)) +ℤ z) (sym (sum_scale N (pos million) (sent_at N)))
        ∙ sym (sum_add N (kept_at (suc N)) (λ l. sent_at N l *ℤ pos million))
        ∙ sum_cong N _ (λ l. kept_at N l *ℤ grown c) (each_grown N level)
        ∙ sum_scale N (grown c) (kept_at N)
        ∙ ap (λ z. z *ℤ grown c) (sym (H_is r i N x)))

-- ---- the closed form, year by year
module _ (c : ℤ) (x : ℕ → ℤ) where
  -- the term of year k = 1 + l, over N years
  term : ℕ → ℕ → ℤ
  term N l = x (1 + l) *ℤ pow (pos million +ℤ c) (N - (1 + l)) *ℤ pos (10 ^ (12 * N - 6 - 6 * (N - (1 + l))))

  level_H_is : (N : ℕ) → level_H c N x ≡ sum N (term N)
  unfolding level_H term
  level_H_is N = ap (λ (m : ℕ). sum m (term N)) (omega arith)

  term_grown : (N l : ℕ) → l < N → term (suc N) l ≡ term N l *ℤ grown c
  unfolding term pow
  term_grown N l b =
      let d : ℕ = N - (1 + l) in
      let n : ℕ = 12 * N - 6 - 6 * (N - (1 + l)) in
      let e : suc N - (1 + l) ≡ suc (N - (1 + l)) = omega arith in
      let f : 12 * suc N - 6 - 6 * suc (N - (1 + l)) ≡ 6 + (12 * N - 6 - 6 * (N - (1 + l))) = omega arith in
      rw (e, f, pow-add 10 6 n)
      (ring 5 (λ x v g m u. x ⊗ (v ⊗ g) ⊗ (m ⊗ u) ≈ x ⊗ v ⊗ u ⊗ (m ⊗ g)) refl (x (1 + l)) (pow (pos million +ℤ c) d) (pos million +ℤ c) (pos million) (pos (10 ^ n)))

  last_term : (N : ℕ) → term (suc N) N ≡ x (1 + N) *ℤ pos (million * P N)
  unfolding term pow P
  last_term N =
      let e : suc N - (1 + N) ≡ 0 = omega arith in
      let f : 12 * suc N - 6 - 6 * 0 ≡ 6 + 12 * N = omega arith in
      rw (e, f, pow-add 10 6 (12 * N)) (ap (λ z. z *ℤ pos (million * 10 ^ (12 * N))) (*ℤ-one (x (1 + N))))

  level_H_suc : (N : ℕ) → level_H c (suc N) x ≡ level_H c N x *ℤ grown c +ℤ x (1 + N) *ℤ pos (million * P N)
  level_H_suc N =
      level_H_is (suc N)
      ∙ sum_suc N (term (suc N))
      ∙ ap₂ ◌+ℤ◌ (sum_cong N _ (λ l. term N l *ℤ grown c) (term_grown N) ∙ sum_scale N (grown c) (term N) ∙ ap (λ z. z *ℤ grown c) (sym (level_H_is N))) (last_term N)

-- ---- the two are one, for any rollover whose shares come to at most 1,000,000, any N and any rate
pub H_level : (r : ℕ → ℕ) → ((d : ℕ) → Σℕ 1 d r ≤ million) → (i : ℕ → ℤ) (rate : ℤ) (N : ℕ) → Level i N rate → (x : ℕ → ℤ) → H r i N x ≡ level_H rate N x
H_level r shares i c zero level x = H_is r i 0 x ∙ sum_none _ ∙ sym (level_H_is c x 0 ∙ sum_none _)
H_level r shares i c (suc N) level x =
    H_suc r i x shares c N level
    ∙ ap (λ z. z *ℤ grown c +ℤ x (1 + N) *ℤ pos (million * P N)) (H_level r shares i c N (λ k some few. level k some (omega arith)) x)
    ∙ sym (level_H_suc c x N)

pub level_every_year : LevelEveryYear
level_every_year = record { closed = H_level }

-- ---- two numbers that lie below one exact fund by less than b are less than b apart
pub below_apart : {N b : ℕ} {z y u : ℤ} → FromBelow N z y b → FromBelow N z u b → nat_abs (y -ℤ u) < b
below_apart {N} {b} {z} {y} {u} k l =
    let few : y <ℤ (u +ℤ pos b) = *ℤ_cancel_< y (u +ℤ pos b) (pos_nonneg (10 ^ (12 * N))) (≤ℤ_<ℤ_trans k.low l.high) in
    let many : u <ℤ (y +ℤ pos b) = *ℤ_cancel_< u (y +ℤ pos b) (pos_nonneg (10 ^ (12 * N))) (≤ℤ_<ℤ_trans l.low k.high) in
    let near : nat_abs (y -ℤ u) ≤ b - 1 = within_abs {z = y -ℤ u} (omega (whole, at (# y ⊖ # u), at (# u ⊕ # (pos b)), at (# y ⊕ # (pos b)), at (⊝ (# (pos (b - 1)))))) in
    omega (whole, near, few, many, at (# u ⊕ # (pos b)), at (# y ⊕ # (pos b)))
