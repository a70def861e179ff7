-- The cells' errors. Cell 2 + j is counted in units of 1 / (10^6 P j): there the exact cell is the reckoned one and its error,
-- and an error is what the cell's own floors leave over, and what the earlier cells' errors send into it.
use mathlib.Core.Path.{◌≡◌, refl, sym, ap, ◌∙◌, subst₂}
use Prim.Native.Nat.{ℕ, suc, ◌+◌, ◌-◌, ◌*◌, ◌≤◌, ◌<◌}
use native.Mathlib.Nat.{le_refl, le_trans, le_of_lt, add-le-add, mul-le-mul, mul-le-mul_left, mul-le-mul_right}
use native.Mathlib.Omega.{arith}
use lib.IntN.{ℤ, pos, nat_abs, ◌+ℤ◌, ◌-ℤ◌, ◌*ℤ◌, +ℤ_assoc}
use lib.Signed.{◌≤ℤ◌}
use Rattle.whole.specs.Range.{million}
use Rattle.whole.specs.Floor.{share_of}
use Rattle.whole.specs.Sum.{sum, sum_ℕ}
use Rattle.whole.proofs.Laws.{pos_nonneg, +ℤ_nonneg, *ℤ_nonneg}
use Rattle.whole.proofs.Bridge.{◌⊕◌, ◌⊗◌}
use Rattle.whole.proofs.Solver.{ring, ◌≈◌}
use Rattle.whole.proofs.Range.{abs_add, abs_mul}
use Rattle.whole.proofs.Floor.{rest, rest_lt, floor_is}
use Rattle.whole.proofs.Sum.{sum_add, sum_abs, sum_nonneg, sum_ℕ_const, largest_upper}
use Rattle.whole.proofs.Course.{strong}
use Rattle.reckoning.specs.Reckoning.{w, sent, alpha}
use Rattle.reckoning.specs.Exact.{E}
use Rattle.reckoning.specs.Bound.{h, G}
use Rattle.reckoning.specs.Theorem.{Given, Floors}
use Rattle.reckoning.proofs.Recursion.{alpha_is, E_is}
use Rattle.reckoning.proofs.Powers.{P, P_pred, P_positive}
use Rattle.reckoning.proofs.Units.{Units, units_self, units_floor, units_recount, units_add, units_sum, units_rest, units_scale, units_times, units_chain, units_later}
use Rattle.reckoning.proofs.Outstanding.{passed, outstanding, outstanding_below}

-- ---- the three floors of what is sent
-- C(k, l), where r is s, w is v and i_l is i
abbrev C : ℕ → ℕ → ℤ → ℤ
C s v i = pos (million * s) +ℤ i *ℤ pos v

-- what the floors leave over, in units of 10^-12
lost : ℤ → ℕ → ℕ → ℤ → ℤ
lost a s v i = pos ((rest (a *ℤ pos s) million + rest (share_of a (pos v) *ℤ i) million) * million) +ℤ pos (rest (a *ℤ pos v) million) *ℤ i

module _ (a : ℤ) (s v : ℕ) (i : ℤ) where
  sent_units : Units (a *ℤ C s v i) (sent a (pos s) (pos v) i) (pos (million * million)) (lost a s v i)
  unfolding sent share_of lost
  sent_units =
      let matured = rest (a *ℤ pos s) million in
      let interest = rest (share_of a (pos v) *ℤ i) million in
      let invested = pos (rest (a *ℤ pos v) million) *ℤ i in
      subst₂ (λ z e. Units z (sent a (pos s) (pos v) i) (pos (million * million)) e)
      (ring 5 (λ a m s i v. a ⊗ s ⊗ m ⊕ a ⊗ v ⊗ i ≈ a ⊗ (m ⊗ s ⊕ i ⊗ v)) refl a (pos million) (pos s) i (pos v))
      (ring 4 (λ x y z m. x ⊗ m ⊕ (y ⊗ m ⊕ z) ≈ (x ⊕ y) ⊗ m ⊕ z) refl (pos matured) (pos interest) invested (pos million))
      (units_add (units_scale (units_floor (a *ℤ pos s) million (omega arith)) (pos million))
      (units_chain (units_times (units_floor (a *ℤ pos v) million (omega arith)) i) (units_floor (share_of a (pos v) *ℤ i) million (omega arith))))

  lost_size : nat_abs i ≤ million → nat_abs (lost a s v i) ≤ 3 * (million * million)
  unfolding lost
  lost_size k =
      let e : ℕ = rest (a *ℤ pos v) million in
      omega (
        arith,
        abs_add (pos ((rest (a *ℤ pos s) million + rest (share_of a (pos v) *ℤ i) million) * million)) (pos e *ℤ i),
        abs_mul (pos e) i,
        rest_lt (a *ℤ pos s) million (omega arith),
        rest_lt (share_of a (pos v) *ℤ i) million (omega arith),
        mul-le-mul (le_of_lt (rest_lt (a *ℤ pos v) million (omega arith))) k,
      )

  lost_nonneg : pos 0 ≤ℤ i → pos 0 ≤ℤ lost a s v i
  unfolding lost
  lost_nonneg k = +ℤ_nonneg {b = pos (rest (a *ℤ pos v) million) *ℤ i} (pos_nonneg _) (*ℤ_nonneg (pos_nonneg _) k)

C_size : (s v : ℕ) (i : ℤ) → nat_abs (C s v i) ≤ million * s + nat_abs i * v
C_size s v i = omega (arith, abs_add (pos (million * s)) (i *ℤ pos v), abs_mul i (pos v))

C_nonneg : (s v : ℕ) (i : ℤ) → pos 0 ≤ℤ i → pos 0 ≤ℤ C s v i
C_nonneg s v i k = +ℤ_nonneg {b = i *ℤ pos v} (pos_nonneg _) (*ℤ_nonneg k (pos_nonneg _))

module _ (r : ℕ → ℕ) (i : ℕ → ℤ) (f x : ℕ → ℤ) where
  -- place j: the reckoned cell, the exact one, and C from place l
  abbrev cell : ℕ → ℤ
  cell j = alpha r i f (2 + j)

  abbrev exact : ℕ → ℤ
  exact j = E r i x (2 + j)

  abbrev C_at : ℕ → ℕ → ℤ
  C_at j l = C (r (j - l)) (w r (j - l - 1)) (i (2 + l))

  -- the error of place j
  pub err : ℕ → ℤ
  err j = exact j -ℤ cell j *ℤ pos (million * P j)

  pub err_units : (j : ℕ) → Units (exact j) (cell j) (pos (million * P j)) (err j)
  unfolding err
  err_units j = units_self (exact j) (cell j) (pos (million * P j))

  -- what place l sends into place j of its error, and what the floors of its sending leave over there
  passes : ℕ → ℕ → ℤ
  passes j l = err l *ℤ (C_at j l *ℤ pos (P (j - l - 1)))

  drops : ℕ → ℕ → ℤ
  drops j l = lost (cell l) (r (j - l)) (w r (j - l - 1)) (i (2 + l)) *ℤ pos (million * P (j - 1))

  -- all that floors leave over in place j: the flow's, and those of the earlier places
  new : ℕ → ℤ
  new j = pos (rest (x (1 + j)) million * P j) +ℤ sum j (drops j)

  module _ (floors : Floors f x) where
    flow_units : (k : ℕ) → Units (x k) (f k) (pos million) (pos (rest (x k) million))
    flow_units k = rw (floor_is (omega arith) (floors k)) (units_floor (x k) million (omega arith))

    -- what place l sends into place j
    sent_later : (j l : ℕ) → l < j →
        Units (exact l *ℤ C_at j l *ℤ pos (P (j - l - 1))) (sent (cell l) (pos (r (j - l))) (pos (w r (j - l - 1))) (i (2 + l))) (pos (million * P j)) (drops j l +ℤ passes j l)
    unfolding drops passes
    sent_later j l b = units_recount (units_later (C_at j l) j l b (err_units l) (sent_units (cell l) (r (j - l)) (w r (j - l - 1)) (i (2 + l))))
        (ap pos (omega (arith, P_pred j (omega arith)))) refl

    err_is : (j : ℕ) → err j ≡ new j +ℤ sum j (passes j)
    unfolding P err new
    err_is j = units_rest (subst₂ (λ z q. Units z q (pos (million * P j)) (new j +ℤ sum j (passes j))) (sym (E_is r i x j)) (sym (alpha_is r i f j))
        (units_recount (units_add (units_scale (flow_units (1 + j)) (pos (P j))) (units_sum j _ _ (pos (million * P j)) (λ l. drops j l +ℤ passes j l) (sent_later j)))
        refl
        (ap (λ z. pos (rest (x (1 + j)) million * P j) +ℤ z) (sum_add j (drops j) (passes j))
        ∙ sym (+ℤ_assoc (pos (rest (x (1 + j)) million * P j)) (sum j (drops j)) (sum j (passes j))))))

    -- ---- with none of the rates i_2 to i_N below 0, no error of the N cells is below 0
    pub err_nonneg : {N : ℕ} → ((l : ℕ) → l < N - 1 → pos 0 ≤ℤ i (2 + l)) → (j : ℕ) → j < N → pos 0 ≤ℤ err j
    unfolding new passes drops
    err_nonneg {N} up = strong (λ j. j < N → pos 0 ≤ℤ err j) (λ j ih few. rw (err_is j)
        (+ℤ_nonneg (+ℤ_nonneg (pos_nonneg _) (sum_nonneg j (drops j) (λ l b. *ℤ_nonneg (lost_nonneg _ _ _ _ (up l (omega arith))) (pos_nonneg _))))
        (sum_nonneg j (passes j) (λ l b. *ℤ_nonneg (ih l b (omega arith)) (*ℤ_nonneg {b = pos (P (j - l - 1))} (C_nonneg _ _ _ (up l (omega arith))) (pos_nonneg _))))))

    -- ---- the sizes
    module _ {N : ℕ} (given : Given r i N) where
      drops_size : (j : ℕ) → j < N → (l : ℕ) → l < j → nat_abs (drops j l) ≤ 3 * (million * P j)
      unfolding drops
      drops_size j few l b =
          let t : ℤ = lost (cell l) (r (j - l)) (w r (j - l - 1)) (i (2 + l)) in
          let s : nat_abs t ≤ 3 * (million * million) = lost_size _ _ _ _ (given.rates l (omega arith)) in
          rw (abs_mul t (pos (million * P (j - 1)))) (omega (arith, mul-le-mul_right (million * P (j - 1)) s, P_pred j (omega arith)))

      new_size : (j : ℕ) → j < N → nat_abs (new j) < (3 * j + 1) * (million * P j)
      unfolding new
      new_size j few =
          let e : ℕ = rest (x (1 + j)) million in
          omega (
            arith,
            abs_add (pos (e * P j)) (sum j (drops j)),
            sum_abs j (drops j) (λ l. 3 * (million * P j)) (drops_size j few),
            sum_ℕ_const j (3 * (million * P j)),
            mul-le-mul_right (P j) (rest_lt (x (1 + j)) million (omega arith)),
            P_positive j,
          )

      passes_size : (j l : ℕ) → l < j → nat_abs (passes j l) ≤ nat_abs (err l) * passed r (nat_abs (i (2 + l))) (j - l - 1)
      unfolding passes passed
      passes_size j l b =
          let d : j - l ≡ suc (j - l - 1) = omega arith in
          rw (abs_mul (err l) (C_at j l *ℤ pos (P (j - l - 1))), abs_mul (C_at j l) (pos (P (j - l - 1))), ← d)
          (mul-le-mul_left (nat_abs (err l)) (mul-le-mul_right (P (j - l - 1)) (C_size (r (j - l)) (w r (j - l - 1)) (i (2 + l)))))

      err_size : (j : ℕ) → nat_abs (err j) ≤ nat_abs (new j) + sum_ℕ j (λ l. nat_abs (err l) * passed r (nat_abs (i (2 + l))) (j - l - 1))
      err_size j = rw (err_is j) (le_trans (abs_add (new j) (sum j (passes j))) (add-le-add (le_refl _) (sum_abs j (passes j) _ (passes_size j))))

      pub err_outstanding : outstanding r (λ l. nat_abs (err l)) N < G (h i N) (N + 1) * P N
      unfolding h
      err_outstanding = outstanding_below r given.shares _ N (λ l. nat_abs (i (2 + l))) (λ l. nat_abs (err l)) (λ j. nat_abs (new j)) (largest_upper (N - 1) _) err_size new_size given.years
