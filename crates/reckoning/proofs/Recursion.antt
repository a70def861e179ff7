-- The equations of the weights, the cells and the funds, counted from 0: place j is the papers' cell 2 + j.
use mathlib.Core.Path.{◌≡◌, refl, ◌∙◌, ap, ap₂}
use Prim.Native.Nat.{ℕ, suc, ◌+◌, ◌-◌, ◌*◌, ◌^◌, ◌≤◌}
use native.Mathlib.Omega.{arith}
use lib.IntN.{ℤ, pos, ◌+ℤ◌, ◌*ℤ◌}
use Rattle.whole.specs.Range.{million}
use Rattle.whole.specs.Floor.{share_of}
use Rattle.whole.specs.Sum.{sum, sum_ℕ, Σℕ}
use Rattle.whole.proofs.Sum.{sum_ℕ_suc, Σℤ_cong, Σℤ_from}
use Rattle.whole.proofs.Course.{Local, course_is}
use Rattle.reckoning.specs.Reckoning.{w, sent, alpha_step, alpha, fund}
use Rattle.reckoning.specs.Exact.{C, E_step, E, H}

-- ---- the weights
module _ (r : ℕ → ℕ) where
  pub w_zero : w r 0 ≡ million
  unfolding w sum_ℕ
  w_zero = refl

  pub shares_suc : (d : ℕ) → Σℕ 1 (suc d) r ≡ Σℕ 1 d r + r (suc d)
  shares_suc d =
      ap (λ (m : ℕ). sum_ℕ m (λ j. r (1 + j))) (omega arith) ∙ sum_ℕ_suc (suc d - 1) (λ j. r (1 + j))
      ∙ ap (λ (m : ℕ). sum_ℕ (suc d - 1) (λ j. r (1 + j)) + r m) (omega arith)

  pub w_suc : ((d : ℕ) → Σℕ 1 d r ≤ million) → (d : ℕ) → w r d ≡ w r (suc d) + r (suc d)
  unfolding w
  w_suc s d = omega (arith, shares_suc d, s (suc d))

  pub w_le : (d : ℕ) → w r d ≤ million
  unfolding w
  w_le d = omega arith

-- ---- the papers' indices, counted from 0
earlier : (j : ℕ) → 2 + j - 1 ≡ 1 + j
earlier j = omega arith

cells : (j : ℕ) → suc (2 + j - 1) - 2 ≡ j
cells j = omega arith

first_cell : (j : ℕ) → 2 + j - 2 ≡ j
first_cell j = omega arith

apart : (j l : ℕ) → 2 + j - (2 + l) ≡ j - l
apart j l = omega arith

apart_1 : (j l : ℕ) → 2 + j - (2 + l) - 1 ≡ j - l - 1
apart_1 j l = omega arith

all_cells : (N : ℕ) → suc (N + 1) - 2 ≡ N
all_cells N = omega arith

to_horizon : (N l : ℕ) → N + 1 - (2 + l) ≡ N - l - 1
to_horizon N l = omega arith

module _ (r : ℕ → ℕ) (i : ℕ → ℤ) where
  -- ---- each recursion looks only at what stands before
  pub alpha_local : (f : ℕ → ℤ) → Local (alpha_step r i f)
  unfolding alpha_step
  alpha_local f k g h e =
      ap (λ z. f (k - 1) +ℤ z) (Σℤ_cong 2 (k - 1) _ _ (λ l b c. ap (λ z. sent z (pos (r (k - l))) (pos (w r (k - l - 1))) (i l)) (e l (omega arith))))

  pub alpha_eq : (f : ℕ → ℤ) (k : ℕ) → alpha r i f k ≡ alpha_step r i f k (alpha r i f)
  unfolding alpha
  alpha_eq f = course_is (alpha_step r i f) (alpha_local f)

  pub E_local : (x : ℕ → ℤ) → Local (E_step r i x)
  unfolding E_step
  E_local x k g h e =
      ap (λ z. x (k - 1) *ℤ pos (10 ^ (12 * (k - 2))) +ℤ z) (Σℤ_cong 2 (k - 1) _ _ (λ l b c. ap (λ z. z *ℤ C r i k l *ℤ pos (10 ^ (12 * (k - l - 1)))) (e l (omega arith))))

  pub E_eq : (x : ℕ → ℤ) (k : ℕ) → E r i x k ≡ E_step r i x k (E r i x)
  unfolding E
  E_eq x = course_is (E_step r i x) (E_local x)

  -- ---- the cells
  pub alpha_is : (f : ℕ → ℤ) (j : ℕ) → alpha r i f (2 + j)
      ≡ f (1 + j) +ℤ sum j (λ l. sent (alpha r i f (2 + l)) (pos (r (j - l))) (pos (w r (j - l - 1))) (i (2 + l)))
  unfolding alpha_step
  alpha_is f j =
      alpha_eq f (2 + j)
      ∙ ap₂ ◌+ℤ◌ (ap f (earlier j))
      (Σℤ_from 2 (2 + j - 1) j (λ l. sent (alpha r i f l) (pos (r (2 + j - l))) (pos (w r (2 + j - l - 1))) (i l)) _ (cells j) (λ l b.
      ap₂ (λ (s v : ℕ). sent (alpha r i f (2 + l)) (pos (r s)) (pos (w r v)) (i (2 + l))) (apart j l) (apart_1 j l)))

  pub E_is : (x : ℕ → ℤ) (j : ℕ) → E r i x (2 + j)
      ≡ x (1 + j) *ℤ pos (10 ^ (12 * j))
      +ℤ sum j (λ l. E r i x (2 + l) *ℤ (pos (million * r (j - l)) +ℤ i (2 + l) *ℤ pos (w r (j - l - 1))) *ℤ pos (10 ^ (12 * (j - l - 1))))
  unfolding E_step C
  E_is x j =
      E_eq x (2 + j)
      ∙ ap₂ ◌+ℤ◌ (ap₂ (λ (k d : ℕ). x k *ℤ pos (10 ^ (12 * d))) (earlier j) (first_cell j))
      (Σℤ_from 2 (2 + j - 1) j (λ l. E r i x l *ℤ C r i (2 + j) l *ℤ pos (10 ^ (12 * (2 + j - l - 1)))) _ (cells j) (λ l b.
      ap₂ (λ (s v : ℕ). E r i x (2 + l) *ℤ (pos (million * r s) +ℤ i (2 + l) *ℤ pos (w r v)) *ℤ pos (10 ^ (12 * v))) (apart j l) (apart_1 j l)))

  -- ---- the funds
  pub fund_is : (N : ℕ) (f : ℕ → ℤ) → fund r i N f ≡ sum N (λ l. share_of (alpha r i f (2 + l)) (pos (w r (N - l - 1))))
  unfolding fund
  fund_is N f = Σℤ_from 2 (N + 1) N (λ k. share_of (alpha r i f k) (pos (w r (N + 1 - k)))) _ (all_cells N) (λ l b. ap (λ (v : ℕ). share_of (alpha r i f (2 + l)) (pos (w r v))) (to_horizon N l))

  pub H_is : (N : ℕ) (x : ℕ → ℤ) → H r i N x ≡ sum N (λ l. E r i x (2 + l) *ℤ pos (w r (N - l - 1)) *ℤ pos (10 ^ (12 * (N - l - 1))))
  unfolding H
  H_is N x = Σℤ_from 2 (N + 1) N (λ k. E r i x k *ℤ pos (w r (N + 1 - k)) *ℤ pos (10 ^ (12 * (N + 1 - k)))) _ (all_cells N) (λ l b. ap (λ (v : ℕ). E r i x (2 + l) *ℤ pos (w r v) *ℤ pos (10 ^ (12 * v))) (to_horizon N l))
