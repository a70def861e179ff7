-- The linear form. A flow of whole amounts is its own floor, and the exact fund is linear in the flow and in what is left. Where every
-- coefficient and the constant are bracketed by c and b, the form's value is bracketed by 2 c and 2 b + 1, since the shares p come to 10^6.
use mathlib.Core.Path.{◌≡◌, refl, sym, ap, ap₂, ◌∙◌, subst, fun_ext}
use Prim.Native.Nat.{ℕ, suc, ◌+◌, ◌-◌, ◌*◌, ◌^◌}
use native.Mathlib.Nat.{mul-le-mul_right, le_of_lt}
use native.Mathlib.Omega.{arith}
use lib.IntN.{ℤ, pos, neg_ℤ, ◌+ℤ◌, ◌-ℤ◌, ◌*ℤ◌, +ℤ_assoc}
use lib.Signed.{◌≤ℤ◌}
use Rattle.whole.specs.Range.{million}
use Rattle.whole.specs.Floor.{IsFloor, floor}
use Rattle.whole.specs.Sum.{sum, sum_ℕ, Σℕ, Σℤ}
use Rattle.whole.proofs.Bridge.{at, #, ◌⊕◌, ◌⊖◌, ◌⊗◌, ⊝, whole}
use Rattle.whole.proofs.Laws.{pos_nonneg, <ℤ→≤ℤ, ≤ℤ_of_≡, *ℤ_assoc, *ℤ_mono, *ℤ_cancel_≤, *ℤ_cancel_<, *ℤ_right_comm, *ℤ_dist_r}
use Rattle.whole.proofs.Solver.{ring, ◌≈◌}
use Rattle.whole.proofs.Floor.{rest, rest_lt, floor_rest, is_floor, floor_mul}
use Rattle.whole.proofs.Sum.{sum_cong, sum_mono, sum_add, sum_scale, sum_pos}
use Rattle.reckoning.specs.Reckoning.{paid, left, flow}
use Rattle.reckoning.specs.Exact.{x, H, with_left}
use Rattle.reckoning.specs.Bound.{value}
use Rattle.reckoning.specs.Theorem.{Floors, Rounded}
use Rattle.reckoning.proofs.Powers.{P}
use Rattle.reckoning.proofs.Linear.{H_linear, H_scale, H_sum}
use Rattle.reckoning.proofs.AtHorizon.{Bracket}

-- ---- flows in whole amounts
pub flow_floors : (n : ℕ) (a : ℕ → ℕ → ℤ) (c : ℕ → ℤ) (p : ℕ → ℕ) → Floors (flow n a c p) (x n a c p)
unfolding flow x
flow_floors n a c p k =
    let z : ℤ = paid n a p k in
    let q : ℤ = floor z million in
    omega (
      whole,
      is_floor z million (omega arith),
      at (# q ⊗ # (pos million)),
      at ((# q ⊕ # (pos 1)) ⊗ # (pos million)),
      at ((# q ⊕ # (c k)) ⊗ # (pos million)),
      at ((# q ⊕ # (c k) ⊕ # (pos 1)) ⊗ # (pos million)),
      at (# z ⊕ # (pos million) ⊗ # (c k)),
    )

pub whole_floors : (y : ℕ → ℤ) → Floors y (λ k. y k *ℤ pos million)
whole_floors y k = subst (IsFloor (y k *ℤ pos million) million) (floor_mul (y k) million (omega arith)) (is_floor (y k *ℤ pos million) million (omega arith))

-- ---- what is left, in whole amounts
-- a sum of millionths is cut by less than one
pub left_rounded : (s : ℤ) → Rounded 1 s (floor s million)
left_rounded s = let k = is_floor s million (omega arith) in record { low = k.low; high = <ℤ→≤ℤ k.high }

-- nothing is not cut
pub none_rounded : Rounded 0 (pos 0) (floor (pos 0) million)
unfolding floor
none_rounded = record { low = ≤ℤ_of_≡ refl; high = ≤ℤ_of_≡ refl }

-- an amount is not cut, so it is off by at most any e
pub whole_rounded : (e : ℕ) (z : ℤ) → Rounded e (z *ℤ pos million) z
whole_rounded e z = record { low = ≤ℤ_of_≡ refl; high = omega (whole, at (# z ⊗ # (pos million)), at ((# z ⊕ # (pos e)) ⊗ # (pos million))) }

-- ---- the exact fund by its parts
-- 10^6 times that of the allocation's flow, from those of c and of the instruments
pub H_parts : (r : ℕ → ℕ) (i : ℕ → ℤ) (N n : ℕ) (a : ℕ → ℕ → ℤ) (c : ℕ → ℤ) (p : ℕ → ℕ) →
    H r i N (x n a c p) *ℤ pos million ≡ H r i N c *ℤ pos million *ℤ pos million +ℤ Σℤ 1 n (λ j. H r i N (λ k. a k j) *ℤ pos million *ℤ pos (p j))
unfolding x paid
H_parts r i N n a c p =
    ap (λ t. t *ℤ pos million)
    (ap (H r i N) (fun_ext (λ k. ring 3 (λ z m c. z ⊕ m ⊗ c ≈ c ⊗ m ⊕ z) refl (paid n a p k) (pos million) (c k)))
    ∙ H_linear r i N (pos million) c (paid n a p))
    ∙ *ℤ_dist_r (H r i N c *ℤ pos million) (H r i N (paid n a p)) (pos million)
    ∙ ap (λ t. H r i N c *ℤ pos million *ℤ pos million +ℤ t)
    (ap (λ t. t *ℤ pos million) (H_sum r i N (suc n - 1) (λ j k. a k (1 + j) *ℤ pos (p (1 + j))))
    ∙ sym (sum_scale (suc n - 1) (pos million) (λ j. H r i N (λ k. a k (1 + j) *ℤ pos (p (1 + j)))))
    ∙ sum_cong (suc n - 1) _ _ (λ j b. ap (λ t. t *ℤ pos million) (H_scale r i N (pos (p (1 + j))) (λ k. a k (1 + j))) ∙ *ℤ_right_comm (H r i N (λ k. a k (1 + j))) (pos (p (1 + j))) (pos million)))

-- and with what is left, from those of the instruments with their costs
pub left_parts : (r : ℕ → ℕ) (i : ℕ → ℤ) (N n : ℕ) (a : ℕ → ℕ → ℤ) (c cost : ℕ → ℤ) (p : ℕ → ℕ) → with_left N (H r i N (x n a c p)) (left n cost p) *ℤ pos million
    ≡ H r i N c *ℤ pos million *ℤ pos million +ℤ Σℤ 1 n (λ j. with_left N (H r i N (λ k. a k j) *ℤ pos million) (cost j *ℤ pos million) *ℤ pos (p j))
unfolding with_left left
left_parts r i N n a c cost p =
    let M : ℤ = pos million in
    let u : ℤ = pos (10 ^ (12 * N - 6)) in
    let m : ℕ = suc n - 1 in
    let h : ℕ → ℤ = λ j. H r i N (λ k. a k (1 + j)) *ℤ M *ℤ pos (p (1 + j)) in
    let s : ℕ → ℤ = λ j. cost (1 + j) *ℤ pos (p (1 + j)) in
    *ℤ_dist_r (H r i N (x n a c p)) (sum m s *ℤ u) M
    ∙ ap₂ ◌+ℤ◌ (H_parts r i N n a c p) (*ℤ_assoc (sum m s) u M ∙ sym (sum_scale m (u *ℤ M) s))
    ∙ +ℤ_assoc (H r i N c *ℤ M *ℤ M) (sum m h) (sum m (λ j. s j *ℤ (u *ℤ M)))
    ∙ ap (λ t. H r i N c *ℤ M *ℤ M +ℤ t) (sym (sum_add m h (λ j. s j *ℤ (u *ℤ M)))
    ∙ sum_cong m _ _ (λ j l. ring 5 (λ H c p u M. H ⊗ M ⊗ p ⊕ c ⊗ p ⊗ (u ⊗ M) ≈ (H ⊗ M ⊕ c ⊗ M ⊗ u) ⊗ p) refl (H r i N (λ k. a k (1 + j))) (cost (1 + j)) (pos (p (1 + j))) u M))

-- ---- numbers that are all d off, weighed
sum_off : (m : ℕ) (K : ℕ → ℤ) (p : ℕ → ℕ) (d u : ℤ) →
    sum m (λ j. (K j +ℤ d) *ℤ u *ℤ pos (p j)) ≡ (sum m (λ j. K j *ℤ pos (p j)) +ℤ pos (sum_ℕ m p) *ℤ d) *ℤ u
sum_off m K p d u =
    sum_cong m _ (λ j. (K j *ℤ pos (p j) +ℤ pos (p j) *ℤ d) *ℤ u) (λ j b. ring 4 (λ K d u p. (K ⊕ d) ⊗ u ⊗ p ≈ (K ⊗ p ⊕ p ⊗ d) ⊗ u) refl (K j) d u (pos (p j)))
    ∙ sum_scale m u (λ j. K j *ℤ pos (p j) +ℤ pos (p j) *ℤ d)
    ∙ ap (λ t. t *ℤ u) (sum_add m (λ j. K j *ℤ pos (p j)) (λ j. pos (p j) *ℤ d)
    ∙ ap (λ t. sum m (λ j. K j *ℤ pos (p j)) +ℤ t) (sum_scale m d (λ j. pos (p j)) ∙ ap (λ t. t *ℤ d) (sum_pos m p)))

-- any coefficients K j, each of which brackets y j, and any constant q, which brackets x
module _ {N c b : ℕ} (n : ℕ) (p : ℕ → ℕ) (shared : Σℕ 1 n p ≡ million) {K y : ℕ → ℤ} (each : (j : ℕ) → Bracket N c b (y j) (K j)) {q x : ℤ} (own : Bracket N c b x q) where
  -- 10^6 times what the coefficients bracket, and the form before its floor
  exact : ℤ
  exact = Σℤ 1 n (λ j. y j *ℤ pos (p j))

  sums : ℤ
  sums = Σℤ 1 n (λ j. K j *ℤ pos (p j))

  -- the form before its floor, with each K_j off by d, in units of 1 / P N
  abbrev off : ℤ → ℤ
  off d = (floor sums million *ℤ pos million +ℤ pos (rest sums million) +ℤ pos million *ℤ d) *ℤ pos (P N)

  off_is : (d : ℤ) → Σℤ 1 n (λ j. (K j +ℤ d) *ℤ pos (P N) *ℤ pos (p j)) ≡ off d
  unfolding sums
  off_is d = sum_off (suc n - 1) (λ j. K (1 + j)) (λ j. p (1 + j)) d (pos (P N))
      ∙ ap₂ (λ (s : ℤ) (q : ℕ). (s +ℤ pos q *ℤ d) *ℤ pos (P N)) (floor_rest sums million (omega arith)) shared

  exact_low : off (neg_ℤ (pos c)) ≤ℤ exact
  unfolding exact
  exact_low = rw (← off_is (neg_ℤ (pos c))) (sum_mono (suc n - 1) _ _ (λ j l. *ℤ_mono (pos_nonneg _) (each (1 + j)).low))

  exact_high : exact ≤ℤ off (pos b)
  unfolding exact
  exact_high = rw (← off_is (pos b)) (sum_mono (suc n - 1) _ _ (λ j l. *ℤ_mono (pos_nonneg _) (<ℤ→≤ℤ (each (1 + j)).high)))

  pub form_bracket : {z : ℤ} → z *ℤ pos million ≡ x *ℤ pos million +ℤ Σℤ 1 n (λ j. y j *ℤ pos (p j)) → Bracket N (2 * c) (2 * b + 1) z (value n K q p)
  unfolding value exact sums
  form_bracket {z} parts =
      let F : ℤ = floor sums million in
      let e : ℕ = rest sums million in
      let U : ℤ = pos (P N) in
      let M : ℤ = pos million in
      record {
        low = *ℤ_cancel_≤ ((F +ℤ q -ℤ pos (2 * c)) *ℤ U) z {m = M} (omega whole) (omega (
          whole,
          parts,
          own.low,
          exact_low,
          at ((# F ⊕ # q ⊖ # (pos (2 * c))) ⊗ # U ⊗ # M),
          at (# x ⊗ # M ⊕ # exact),
          at ((# q ⊖ # (pos c)) ⊗ # U),
          at ((# F ⊗ # M ⊕ # (pos e) ⊕ # M ⊗ ⊝ (# (pos c))) ⊗ # U),
        ));
        high = *ℤ_cancel_< z ((F +ℤ q +ℤ pos (2 * b + 1)) *ℤ U) {m = M} (omega whole) (omega (
          whole,
          parts,
          own.high,
          exact_high,
          mul-le-mul_right (P N) (le_of_lt (rest_lt sums million (omega arith))),
          at ((# F ⊕ # q ⊕ # (pos (2 * b + 1))) ⊗ # U ⊗ # M),
          at (# x ⊗ # M ⊕ # exact),
          at ((# q ⊕ # (pos b)) ⊗ # U),
          at ((# F ⊗ # M ⊕ # (pos e) ⊕ # M ⊗ # (pos b)) ⊗ # U),
        ));
      }
