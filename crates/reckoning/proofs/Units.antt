-- `Units z q m e`: z is q units of m and e over, all of either sign. Every rounding here is stated by this one relation.
use mathlib.Core.Path.{◌≡◌, refl, sym, ap, ap₂, ◌∙◌, subst₂}
use Prim.Native.Nat.{ℕ, zero, suc, ◌-◌, ◌*◌, ◌<◌}
use native.Mathlib.Omega.{arith}
use lib.IntN.{ℤ, pos, ◌+ℤ◌, ◌-ℤ◌, ◌*ℤ◌, zero-*ℤ}
use Rattle.whole.specs.Range.{million}
use Rattle.whole.specs.Floor.{floor}
use Rattle.whole.specs.Sum.{sum}
use Rattle.whole.proofs.Bridge.{◌⊕◌, ◌⊖◌, ◌⊗◌}
use Rattle.whole.proofs.Solver.{ring, ◌≈◌}
use Rattle.whole.proofs.Floor.{rest, floor_rest}
use Rattle.reckoning.proofs.Powers.{P, P_split}

pub record Units (z q m e : ℤ) : Type 0 where
  pub eq : z ≡ q *ℤ m +ℤ e

-- whatever the units, the rest is over
pub units_self : (z q m : ℤ) → Units z q m (z -ℤ q *ℤ m)
units_self z q m = record { eq = ring 2 (λ z t. z ≈ t ⊕ (z ⊖ t)) refl z (q *ℤ m) }

pub units_floor : (z : ℤ) (m : ℕ) → 0 < m → Units z (floor z m) (pos m) (pos (rest z m))
units_floor z m h = record { eq = floor_rest z m h }

pub units_recount : {z q m e m' e' : ℤ} → Units z q m e → m ≡ m' → e ≡ e' → Units z q m' e'
units_recount {z} {q} h a b = subst₂ (λ x y. Units z q x y) a b h

pub units_add : {z z' q q' m e e' : ℤ} → Units z q m e → Units z' q' m e' → Units (z +ℤ z') (q +ℤ q') m (e +ℤ e')
units_add {q = q} {q'} {m} {e} {e'} h k = record {
  eq = ap₂ ◌+ℤ◌ h.eq k.eq ∙ ring 5 (λ q q' m e e'. q ⊗ m ⊕ e ⊕ (q' ⊗ m ⊕ e') ≈ (q ⊕ q') ⊗ m ⊕ (e ⊕ e')) refl q q' m e e';
}

pub units_sum : (n : ℕ) (z q : ℕ → ℤ) (m : ℤ) (e : ℕ → ℤ) → ((l : ℕ) → l < n → Units (z l) (q l) m (e l)) → Units (sum n z) (sum n q) m (sum n e)
unfolding sum
units_sum zero z q m e h = record { eq = sym (ap (λ x. x +ℤ pos 0) (zero-*ℤ m)) }
units_sum (suc n) z q m e h = units_add (units_sum n z q m e (λ l b. h l (omega arith))) (h n (omega arith))

module _ {z q m e : ℤ} (h : Units z q m e) where
  pub units_rest : z -ℤ q *ℤ m ≡ e
  units_rest = ap (λ x. x -ℤ q *ℤ m) h.eq ∙ ring 2 (λ t e. t ⊕ e ⊖ t ≈ e) refl (q *ℤ m) e

  -- n times as much, in units n times as large
  pub units_scale : (n : ℤ) → Units (z *ℤ n) q (m *ℤ n) (e *ℤ n)
  units_scale n = record { eq = ap (λ x. x *ℤ n) h.eq ∙ ring 4 (λ q m e n. (q ⊗ m ⊕ e) ⊗ n ≈ q ⊗ (m ⊗ n) ⊕ e ⊗ n) refl q m e n }

  -- n times as many units
  pub units_times : (n : ℤ) → Units (z *ℤ n) (q *ℤ n) m (e *ℤ n)
  units_times n = record { eq = ap (λ x. x *ℤ n) h.eq ∙ ring 4 (λ q m e n. (q ⊗ m ⊕ e) ⊗ n ≈ q ⊗ n ⊗ m ⊕ e ⊗ n) refl q m e n }

  -- the units counted in units in turn
  pub units_chain : {p n f : ℤ} → Units q p n f → Units z p (n *ℤ m) (f *ℤ m +ℤ e)
  units_chain {p} {n} {f} k = record {
    eq = h.eq ∙ ap (λ x. x *ℤ m +ℤ e) k.eq ∙ ring 5 (λ p n f m e. (p ⊗ n ⊕ f) ⊗ m ⊕ e ≈ p ⊗ (n ⊗ m) ⊕ (f ⊗ m ⊕ e)) refl p n f m e;
  }

-- from place l to place j: a number in the units of cell l, times a factor K that is rounded in units of m
pub units_later : {z a e s t : ℤ} {m : ℕ} (K : ℤ) (j l : ℕ) → l < j → Units z a (pos (million * P l)) e → Units (a *ℤ K) s (pos m) t →
    Units (z *ℤ K *ℤ pos (P (j - l - 1))) s (pos (m * (million * P (j - 1)))) (t *ℤ pos (million * P (j - 1)) +ℤ e *ℤ (K *ℤ pos (P (j - l - 1))))
units_later {e = e} {t = t} {m} K j l b h k =
    let p : P l * P (j - l - 1) ≡ P (j - 1) = P_split j l b in
    units_recount (units_scale (units_chain (units_times h K) k) (pos (P (j - l - 1))))
    (ap pos (omega (arith, ap (λ (n : ℕ). m * million * n) p)))
    (ring 5 (λ t u e K q. (t ⊗ u ⊕ e ⊗ K) ⊗ q ≈ t ⊗ (u ⊗ q) ⊕ e ⊗ (K ⊗ q)) refl t (pos (million * P l)) e K (pos (P (j - l - 1)))
    ∙ ap (λ (n : ℕ). t *ℤ pos n +ℤ e *ℤ (K *ℤ pos (P (j - l - 1)))) (omega (arith, p)))
