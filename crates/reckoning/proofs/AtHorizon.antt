-- The horizon: the exact fund is the reckoned one, with what the last floors leave over and what the cells' errors come to.
use mathlib.Core.Path.{◌≡◌, refl, sym, ap, ◌∙◌, subst₂}
use mathlib.Core.Bool.{true}
use Prim.Native.Nat.{ℕ, ◌+◌, ◌-◌, ◌*◌, ◌^◌, ◌≤◌, ◌<◌}
use native.Mathlib.Nat.{le_trans, le_of_eq, mul-le-mul_right, mul-lt-mul_of_pos_right, le_of_lt}
use native.Mathlib.Omega.{arith}
use lib.IntN.{ℤ, pos, nat_abs, ◌+ℤ◌, ◌-ℤ◌, ◌*ℤ◌}
use lib.Pow.{pow-add}
use lib.Signed.{le_z, ◌≤ℤ◌, ◌<ℤ◌}
use Rattle.whole.specs.Range.{million}
use Rattle.whole.specs.Floor.{share_of}
use Rattle.whole.specs.Sum.{sum, sum_ℕ}
use Rattle.whole.proofs.Bridge.{at, #, ◌⊕◌, ◌⊖◌, ◌⊗◌, ⊝, whole}
use Rattle.whole.proofs.Laws.{<ℤ→≤ℤ, pos_nonneg, *ℤ_assoc, *ℤ_mono, +ℤ_nonneg, *ℤ_nonneg}
use Rattle.whole.proofs.Range.{abs_within, abs_self, abs_mul}
use Rattle.whole.proofs.Floor.{rest, rest_lt}
use Rattle.whole.proofs.Test.{all_at, le_true}
use Rattle.whole.proofs.Sum.{sum_add, sum_pos, sum_abs, sum_nonneg, sum_ℕ_mono, sum_ℕ_const}
use Rattle.reckoning.specs.Reckoning.{w, alpha, fund}
use Rattle.reckoning.specs.Exact.{H, with_left}
use Rattle.reckoning.specs.Bound.{h, G, B}
use Rattle.reckoning.specs.Theorem.{Given, Floors, Rounded, FromBelow, Near, none_negative}
use Rattle.reckoning.proofs.Recursion.{fund_is, H_is}
use Rattle.reckoning.proofs.Powers.{P, P_pred, P_positive}
use Rattle.reckoning.proofs.Units.{Units, units_floor, units_recount, units_sum, units_later}
use Rattle.reckoning.proofs.Outstanding.{held, outstanding}
use Rattle.reckoning.proofs.Errors.{err, err_units, err_nonneg, err_outstanding}

-- the exact fund z / P N is at least y - c, and below y + b
pub record Bracket (N c b : ℕ) (z y : ℤ) : Type 0 where
  pub low : ((y -ℤ pos c) *ℤ pos (P N)) ≤ℤ z
  pub high : z <ℤ ((y +ℤ pos b) *ℤ pos (P N))

-- both claims are such brackets
pub from_below_bracket : {N b : ℕ} {z y : ℤ} → FromBelow N z y b → Bracket N 0 b z y
unfolding P
from_below_bracket {N} {y = y} k = record { low = omega (whole, k.low, at ((# y ⊖ # (pos 0)) ⊗ # (pos (P N))), at (# y ⊗ # (pos (P N)))); high = k.high }

pub near_bracket : {N b : ℕ} {z y : ℤ} → Near N z y b → Bracket N b b z y
unfolding P
near_bracket k = record { low = <ℤ→≤ℤ k.low; high = k.high }

pub bracket_from_below : {N b : ℕ} {z y : ℤ} → Bracket N 0 b z y → FromBelow N z y b
unfolding P
bracket_from_below {N} {y = y} k = record { low = omega (whole, k.low, at ((# y ⊖ # (pos 0)) ⊗ # (pos (P N))), at (# y ⊗ # (pos (P N)))); high = k.high }

pub bracket_near : {N c b : ℕ} {z y : ℤ} → c < b → Bracket N c b z y → Near N z y b
unfolding P
bracket_near {N} {c} {b} {y = y} l k = record { low = omega (whole, k.low, mul-lt-mul_of_pos_right l (P_positive N), at ((# y ⊖ # (pos c)) ⊗ # (pos (P N))), at ((# y ⊖ # (pos b)) ⊗ # (pos (P N)))); high = k.high }

-- what is left at the horizon is added on both sides, and its rounding widens the bracket
pub bracket_left : {N c b e : ℕ} {y f s z : ℤ} → 1 ≤ N → Bracket N c b y f → Rounded e s z → Bracket N c (b + e) (with_left N y s) (f +ℤ z)
unfolding P with_left
bracket_left {N} {c} {b} {e} {y} {f} {s} {z} some k a =
    let n : ℕ = 10 ^ (12 * N - 6) in
    let u : ℤ = pos n in
    let U : ℤ = pos (P N) in
    let p : P N ≡ million * n = ap (λ (m : ℕ). 10 ^ m) (omega arith) ∙ pow-add 10 6 (12 * N - 6) in
    let low : (z *ℤ pos million *ℤ u) ≤ℤ (s *ℤ u) = *ℤ_mono (pos_nonneg n) a.low in
    let high : (s *ℤ u) ≤ℤ ((z +ℤ pos e) *ℤ pos million *ℤ u) = *ℤ_mono (pos_nonneg n) a.high in
    let zs : z *ℤ pos million *ℤ u ≡ z *ℤ U = *ℤ_assoc z (pos million) u ∙ ap (λ (m : ℕ). z *ℤ pos m) (sym p) in
    let es : (z +ℤ pos e) *ℤ pos million *ℤ u ≡ (z +ℤ pos e) *ℤ U = *ℤ_assoc (z +ℤ pos e) (pos million) u ∙ ap (λ (m : ℕ). (z +ℤ pos e) *ℤ pos m) (sym p) in
    record {
      low = omega (whole, k.low, low, zs, at ((# f ⊖ # (pos c)) ⊗ # U), at (# z ⊗ # U), at ((# f ⊕ # z ⊖ # (pos c)) ⊗ # U), at (# y ⊕ # (s *ℤ u)));
      high = omega (whole, k.high, high, es, at ((# f ⊕ # (pos b)) ⊗ # U), at ((# z ⊕ # (pos e)) ⊗ # U), at ((# f ⊕ # z ⊕ # (pos (b + e))) ⊗ # U), at (# y ⊕ # (s *ℤ u)));
    }

module _ {r : ℕ → ℕ} {i : ℕ → ℤ} {N : ℕ} (given : Given r i N) (f x : ℕ → ℤ) (floors : Floors f x) where
  -- what the floors at the horizon leave over, and what the cells' errors come to
  abbrev share_rest : ℕ → ℕ
  share_rest l = rest (alpha r i f (2 + l) *ℤ pos (w r (N - l - 1))) million

  dropped : ℕ
  dropped = sum_ℕ N (λ l. share_rest l * (million * P (N - 1)))

  total : ℤ
  total = sum N (λ l. err r i f x l *ℤ pos (held r (N - l - 1)))

  H_units : Units (H r i N x) (fund r i N f) (pos (P N)) (pos dropped +ℤ total)
  unfolding P share_of held dropped total
  H_units = subst₂ (λ z q. Units z q (pos (P N)) (pos dropped +ℤ total)) (sym (H_is r i N x)) (sym (fund_is r i N f))
      (units_recount (units_sum N _ _ (pos (P N)) _ (λ l b.
      units_recount (units_later (pos (w r (N - l - 1))) N l b (err_units r i f x l) (units_floor (alpha r i f (2 + l) *ℤ pos (w r (N - l - 1))) million (omega arith)))
      (ap pos (omega (arith, P_pred N given.years))) refl))
      refl
      (sum_add N (λ l. pos (share_rest l * (million * P (N - 1)))) (λ l. err r i f x l *ℤ pos (held r (N - l - 1)))
      ∙ ap (λ z. z +ℤ total) (sum_pos N _)))

  dropped_le : dropped ≤ N * P N
  unfolding dropped
  dropped_le = le_trans (sum_ℕ_mono N _ (λ l. P N) (λ l b.
      omega (arith, mul-le-mul_right (million * P (N - 1)) (le_of_lt (rest_lt (alpha r i f (2 + l) *ℤ pos (w r (N - l - 1))) million (omega arith))), P_pred N given.years)))
      (le_of_eq (sum_ℕ_const N (P N)))

  total_size : nat_abs total < G (h i N) (N + 1) * P N
  unfolding total outstanding
  total_size = omega (
    arith,
    err_outstanding r i f x floors given,
    sum_abs N (λ l. err r i f x l *ℤ pos (held r (N - l - 1))) (λ l. nat_abs (err r i f x l) * held r (N - l - 1)) (λ l b. le_of_eq (abs_mul (err r i f x l) (pos (held r (N - l - 1))))),
  )

  -- where the errors come to no less than -c
  bracket : (c : ℕ) → pos 0 ≤ℤ (total +ℤ pos (c * P N)) → Bracket N c (B (h i N) N) (H r i N x) (fund r i N f)
  unfolding B
  bracket c low =
      let y : ℤ = fund r i N f in
      let u : ℤ = pos (P N) in
      omega (
        whole,
        low,
        H_units.eq,
        dropped_le,
        total_size,
        (abs_self total).high,
        at (# total ⊕ # (pos (c * P N))),
        at (# y ⊗ # u ⊕ (# (pos dropped) ⊕ # total)),
        at ((# y ⊖ # (pos c)) ⊗ # u),
        at ((# y ⊕ # (pos (G (h i N) (N + 1) + N))) ⊗ # u),
      )

  -- rates of either sign
  pub fund_bracket : Bracket N (G (h i N) (N + 1)) (B (h i N) N) (H r i N x) (fund r i N f)
  fund_bracket = let g : ℕ = G (h i N) (N + 1) * P N in bracket (G (h i N) (N + 1)) (omega (whole, (abs_within g total (le_of_lt total_size)).low, at (⊝ (# (pos g))), at (# total ⊕ # (pos g))))

  -- none of the rates i_2 to i_N below 0
  pub fund_bracket_nonneg : none_negative i N ≡ true → Bracket N 0 (B (h i N) N) (H r i N x) (fund r i N f)
  unfolding total none_negative
  fund_bracket_nonneg e =
      let up : (l : ℕ) → l < N - 1 → pos 0 ≤ℤ i (2 + l) = λ l b. le_true (pos 0) (i (2 + l)) (all_at (N - 1) (λ l. le_z (pos 0) (i (2 + l))) l b e) in
      bracket 0 (+ℤ_nonneg {b = pos (0 * P N)} (sum_nonneg N _ (λ l b. *ℤ_nonneg (err_nonneg r i f x floors up l b) (pos_nonneg _))) (pos_nonneg _))
