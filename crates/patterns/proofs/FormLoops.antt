-- The loop of the coefficients: the funds of n flows, each with its cost, one after the other, unless check 11 refuses one.
use mathlib.Core.Path.{◌≡◌, refl, sym, ap, ap₂, ◌∙◌, fun_ext}
use mathlib.Core.Bool.{true, false}
use mathlib.Core.List.{List, []}
use Prim.Native.Nat.{ℕ, ◌+◌, ◌≤◌, ◌<◌}
use native.Mathlib.Omega.{arith}
use lib.ListN.{length, get_or, set, take, replicate}
use Rattle.std.proofs.lemmas.List.{length-take, get_or-take}
use lib.IntN.{ℤ, pos, ◌+ℤ◌}
use Rattle.whole.specs.Test.{all}
use Rattle.whole.proofs.Filling.{Filling, fill_start, fill_turn, fill_as}
use Rattle.whole.proofs.Test.{picked_yes, picked_no, picked_is, all_none, all_more, all_end, all_fails, all_cong}
use Rattle.reckoning.specs.Reckoning.{fund}
use Rattle.reckoning.specs.Arrays.{amounts_of, fund_fits, fund_reckoned}
use Rattle.reckoning.specs.Answers.{Reckoned}
use Rattle.patterns.specs.Pattern.{Shared, coefficient_at, coefficients_fit, coefficients_at, coefficients_reckoned}
use Rattle.patterns.specs.Answers.{Coefficients}
use Rattle.patterns.proofs.Reckoned.{reckoned_refused, reckoned_fits, reckoned_is, reckoned_number}

-- the row at place j of the first n, and its fund with an amount left
module _ (rows : List (List ℤ)) (n j : ℕ) (l : j < length (take n rows)) where
  pub row_few : j < n
  row_few = omega (arith, l, length-take n rows)

  pub row_is : get_or (take n rows) j [] ≡ get_or rows j []
  row_is = get_or-take n rows j [] row_few

  pub row_reckoned : (r : ℕ → ℕ) (i : ℕ → ℤ) (N : ℕ) {z cost : ℤ} → z ≡ cost
      → {s : Reckoned} → s ≡ fund_reckoned r i (amounts_of (get_or (take n rows) j [])) N z → s ≡ fund_reckoned r i (amounts_of (get_or rows j [])) N cost
  row_reckoned r i N same e = e ∙ ap₂ (λ (f : List ℤ) (z : ℤ). fund_reckoned r i (amounts_of f) N z) row_is same

-- k has the funds of the flows f 0 to f (j - 1), each with the cost at its place, and check 11 takes them
pub record Funded (r : ℕ → ℕ) (i : ℕ → ℤ) (f : ℕ → ℕ → ℤ) (cost : ℕ → ℤ) (N n : ℕ) (k : List ℤ) (j : ℕ) : Type 0 where
  pub filled : Filling 16 n (λ j. fund r i N (f j) +ℤ cost j) (pos 0) k j
  pub fit : all j (λ j. fund_fits r i (f j) N (cost j)) ≡ true

pub funds_start : {r : ℕ → ℕ} {i : ℕ → ℤ} {f : ℕ → ℕ → ℤ} {cost : ℕ → ℤ} {N n : ℕ} → Funded r i f cost N n (replicate 16 (pos 0)) 0
funds_start = record { filled = fill_start; fit = all_none _ }

module _ {r : ℕ → ℕ} {i : ℕ → ℤ} {f : ℕ → ℕ → ℤ} {cost : ℕ → ℤ} {N n j : ℕ} where
  pub funds_turn : {k : List ℤ} {s : Reckoned} → n ≤ 16 → j < n → Funded r i f cost N n k j → s ≡ fund_reckoned r i (f j) N (cost j) → s.refusal ≡ 0
      → Funded r i f cost N n (set k j s.fund) (j + 1)
  funds_turn few l a e h = record {
    filled = fill_turn few l a.filled (reckoned_is r i (f j) N (cost j) e h);
    fit = all_more j (λ j. fund_fits r i (f j) N (cost j)) a.fit (reckoned_fits r i (f j) N (cost j) e h);
  }

-- ---- the flows are the payments of the instruments, and the costs are theirs
module _ (S : Shared) (i : ℕ → ℤ) {f : ℕ → ℕ → ℤ} {cost : ℕ → ℤ} (same : (j : ℕ) → j < S.instruments → (k : ℕ) → S.a k (1 + j) ≡ f j k)
    (same_cost : (j : ℕ) → j < S.instruments → S.cost (1 + j) ≡ cost j) where
  flow_same : (j : ℕ) → j < S.instruments → f j ≡ (λ k. S.a k (1 + j))
  flow_same j h = fun_ext (λ k. sym (same j h k))

  all_fit : all S.instruments (λ j. fund_fits S.r i (f j) S.years (cost j)) ≡ coefficients_fit S i
  unfolding coefficients_fit
  all_fit = all_cong S.instruments _ _ (λ j h. ap₂ (λ (f : ℕ → ℤ) (z : ℤ). fund_fits S.r i f S.years z) (flow_same j h) (sym (same_cost j h)))

  pub funds_refuse : {j : ℕ} → j < S.instruments → {s : Reckoned} → s ≡ fund_reckoned S.r i (f j) S.years (cost j) → (s.refusal ≡ 0 → ⊥)
      → record { refusal = s.refusal; values = replicate 16 (pos 0) } ≡ coefficients_reckoned S i
  unfolding coefficients_reckoned
  funds_refuse {j} l e h = rw (reckoned_number S.r i (f j) S.years (cost j) e h, sym all_fit ∙ all_fails S.instruments (λ j. fund_fits S.r i (f j) S.years (cost j)) j l (reckoned_refused S.r i (f j) S.years (cost j) e h))

  pub funds_end : {k : List ℤ} {j : ℕ} → S.instruments ≤ j → Funded S.r i f cost S.years S.instruments k j → record { refusal = 0; values = k } ≡ coefficients_reckoned S i
  unfolding coefficients_reckoned coefficients_at coefficient_at
  funds_end l a = rw (
    fill_as l a.filled (λ j h. ap₂ (λ (f : ℕ → ℤ) (z : ℤ). fund S.r i S.years f +ℤ z) (flow_same j h) (sym (same_cost j h))),
    sym all_fit ∙ all_end S.instruments (λ j. fund_fits S.r i (f j) S.years (cost j)) a.filled.upto l a.fit,
  )

-- ---- what such an answer tells
module _ (S : Shared) (i : ℕ → ℤ) {c : Coefficients} (e : c ≡ coefficients_reckoned S i) where
  pub coefficients_refused : (c.refusal ≡ 0 → ⊥) → coefficients_fit S i ≡ false
  unfolding coefficients_reckoned
  coefficients_refused = picked_no (λ (c : Coefficients). c.refusal) _ _ refl (λ z. omega arith) (coefficients_fit S i) c e

  pub coefficients_number : (c.refusal ≡ 0 → ⊥) → c.refusal ≡ 11
  unfolding coefficients_reckoned
  coefficients_number h = ap (λ (c : Coefficients). c.refusal) (rw (coefficients_refused h) at e)

  pub coefficients_fit_law : c.refusal ≡ 0 → coefficients_fit S i ≡ true
  unfolding coefficients_reckoned
  coefficients_fit_law = picked_yes (λ (c : Coefficients). c.refusal) _ _ refl (λ z. omega arith) (coefficients_fit S i) c e

  pub coefficients_are : c.refusal ≡ 0 → c.values ≡ coefficients_at S i
  unfolding coefficients_reckoned
  coefficients_are h = ap (λ (c : Coefficients). c.values) (picked_is (λ (c : Coefficients). c.refusal) _ _ refl (λ z. omega arith) (coefficients_fit S i) c e h)
