-- The exact fund is linear in the exact flow.
use mathlib.Core.Path.{◌≡◌, refl, sym, ap, ap₂, ◌∙◌, fun_ext}
use Prim.Native.Nat.{ℕ, zero, suc, ◌+◌, ◌-◌, ◌*◌, ◌^◌, ◌<◌}
use lib.IntN.{ℤ, pos, ◌+ℤ◌, ◌*ℤ◌, +ℤ_idr}
use Rattle.whole.specs.Range.{million}
use Rattle.whole.specs.Sum.{sum}
use Rattle.whole.proofs.Bridge.{at, #, ◌⊕◌, ◌⊗◌, whole}
use Rattle.whole.proofs.Laws.{*ℤ_1}
use Rattle.whole.proofs.Solver.{ring, ◌≈◌}
use Rattle.whole.proofs.Sum.{sum_cong, sum_add, sum_scale}
use Rattle.whole.proofs.Course.{strong}
use Rattle.reckoning.specs.Reckoning.{w}
use Rattle.reckoning.specs.Exact.{E, H}
use Rattle.reckoning.proofs.Recursion.{E_is, H_is}

-- a weighted sum is linear in what it weighs
sum_linear : (n : ℕ) (c : ℤ) (z x y v u : ℕ → ℤ) → ((l : ℕ) → l < n → z l ≡ x l *ℤ c +ℤ y l) →
    sum n (λ l. z l *ℤ v l *ℤ u l) ≡ sum n (λ l. x l *ℤ v l *ℤ u l) *ℤ c +ℤ sum n (λ l. y l *ℤ v l *ℤ u l)
sum_linear n c z x y v u e =
    sum_cong n _ (λ l. x l *ℤ v l *ℤ u l *ℤ c +ℤ y l *ℤ v l *ℤ u l) (λ l b.
    ap (λ t. t *ℤ v l *ℤ u l) (e l b) ∙ ring 5 (λ x c y v u. (x ⊗ c ⊕ y) ⊗ v ⊗ u ≈ x ⊗ v ⊗ u ⊗ c ⊕ y ⊗ v ⊗ u) refl (x l) c (y l) (v l) (u l))
    ∙ sum_add n (λ l. x l *ℤ v l *ℤ u l *ℤ c) (λ l. y l *ℤ v l *ℤ u l)
    ∙ ap (λ t. t +ℤ sum n (λ l. y l *ℤ v l *ℤ u l)) (sum_scale n c (λ l. x l *ℤ v l *ℤ u l))

module _ (r : ℕ → ℕ) (i : ℕ → ℤ) where
  E_linear : (c : ℤ) (x y : ℕ → ℤ) (j : ℕ) → E r i (λ k. x k *ℤ c +ℤ y k) (2 + j) ≡ E r i x (2 + j) *ℤ c +ℤ E r i y (2 + j)
  E_linear c x y = strong (λ j. E r i (λ k. x k *ℤ c +ℤ y k) (2 + j) ≡ E r i x (2 + j) *ℤ c +ℤ E r i y (2 + j)) (λ j ih.
      let v : ℕ → ℤ = λ l. pos (million * r (j - l)) +ℤ i (2 + l) *ℤ pos (w r (j - l - 1)) in
      let u : ℕ → ℤ = λ l. pos (10 ^ (12 * (j - l - 1))) in
      E_is r i (λ k. x k *ℤ c +ℤ y k) j
      ∙ ap (λ t. (x (1 + j) *ℤ c +ℤ y (1 + j)) *ℤ pos (10 ^ (12 * j)) +ℤ t) (sum_linear j c _ (λ l. E r i x (2 + l)) (λ l. E r i y (2 + l)) v u ih)
      ∙ ring 6 (λ x c y p s t. (x ⊗ c ⊕ y) ⊗ p ⊕ (s ⊗ c ⊕ t) ≈ (x ⊗ p ⊕ s) ⊗ c ⊕ (y ⊗ p ⊕ t)) refl (x (1 + j)) c (y (1 + j)) (pos (10 ^ (12 * j)))
      (sum j (λ l. E r i x (2 + l) *ℤ v l *ℤ u l)) (sum j (λ l. E r i y (2 + l) *ℤ v l *ℤ u l))
      ∙ sym (ap₂ (λ s t. s *ℤ c +ℤ t) (E_is r i x j) (E_is r i y j)))

  module _ (N : ℕ) where
    pub H_linear : (c : ℤ) (x y : ℕ → ℤ) → H r i N (λ k. x k *ℤ c +ℤ y k) ≡ H r i N x *ℤ c +ℤ H r i N y
    H_linear c x y =
        H_is r i N (λ k. x k *ℤ c +ℤ y k)
        ∙ sum_linear N c _ (λ l. E r i x (2 + l)) (λ l. E r i y (2 + l)) (λ l. pos (w r (N - l - 1))) (λ l. pos (10 ^ (12 * (N - l - 1)))) (λ l b. E_linear c x y l)
        ∙ sym (ap₂ (λ s t. s *ℤ c +ℤ t) (H_is r i N x) (H_is r i N y))

    pub H_add : (x y : ℕ → ℤ) → H r i N (λ k. x k +ℤ y k) ≡ H r i N x +ℤ H r i N y
    H_add x y = ap (H r i N) (fun_ext (λ k. ap (λ t. t +ℤ y k) (sym (*ℤ_1 (x k))))) ∙ H_linear (pos 1) x y ∙ ap (λ t. t +ℤ H r i N y) (*ℤ_1 (H r i N x))

    pub H_none : H r i N (λ k. pos 0) ≡ pos 0
    H_none = omega (whole, H_add (λ k. pos 0) (λ k. pos 0), at (# (H r i N (λ k. pos 0)) ⊕ # (H r i N (λ k. pos 0))))

    pub H_scale : (c : ℤ) (x : ℕ → ℤ) → H r i N (λ k. x k *ℤ c) ≡ H r i N x *ℤ c
    H_scale c x = ap (H r i N) (fun_ext (λ k. sym (+ℤ_idr (x k *ℤ c)))) ∙ H_linear c x (λ k. pos 0) ∙ ap (λ t. H r i N x *ℤ c +ℤ t) H_none ∙ +ℤ_idr (H r i N x *ℤ c)

    pub H_sum : (n : ℕ) (x : ℕ → ℕ → ℤ) → H r i N (λ k. sum n (λ j. x j k)) ≡ sum n (λ j. H r i N (x j))
    unfolding sum
    H_sum zero x = H_none
    H_sum (suc n) x = H_add (λ k. sum n (λ j. x j k)) (x n) ∙ ap (λ t. t +ℤ H r i N (x n)) (H_sum n x)
