-- Errors of the cells, each of which sends on what it owes as a cell does: their outstanding total stays below G, because
-- what matures in a year is what no longer is outstanding, w(d) = w(d + 1) + r_(d + 1).
use mathlib.Core.Path.{◌≡◌}
use Prim.Native.Nat.{ℕ, zero, suc, ◌+◌, ◌-◌, ◌*◌, ◌≤◌, ◌<◌}
use native.Mathlib.Nat.{le_refl, le_trans, le_of_eq, le_of_lt, add-le-add, mul-le-mul_left, mul-le-mul_right}
use native.Mathlib.Omega.{arith}
use Rattle.whole.specs.Range.{million}
use Rattle.whole.specs.Sum.{sum_ℕ, Σℕ}
use Rattle.whole.proofs.Sum.{sum_ℕ_none, sum_ℕ_suc, sum_ℕ_mono, sum_ℕ_add, sum_ℕ_scale}
use Rattle.reckoning.specs.Reckoning.{w}
use Rattle.reckoning.specs.Bound.{G}
use Rattle.reckoning.proofs.Recursion.{w_zero, w_suc}
use Rattle.reckoning.proofs.Powers.{P, P_zero, P_suc}
use Rattle.reckoning.proofs.BoundLaws.{ceiling_low, G_two, G_suc}

-- the weight of what a cell still has out after d years, and of what it sends, at a rate i, into the cell d + 1 years on
unfoldable pub held : (r : ℕ → ℕ) → ℕ → ℕ
held r d = w r d * P d

unfoldable pub passed : (r : ℕ → ℕ) → ℕ → ℕ → ℕ
passed r i d = (million * r (suc d) + i * w r d) * P d

-- the outstanding total of the first j cells, whose errors have the sizes e
unfoldable pub outstanding : (r e : ℕ → ℕ) → ℕ → ℕ
outstanding r e j = sum_ℕ j (λ l. e l * held r (j - l - 1))

module _ (r : ℕ → ℕ) (shares : (d : ℕ) → Σℕ 1 d r ≤ million) where
  -- a year on: what is held, with what was sent and is now out anew, is what was out, with a year's interest
  held_passed : (i d : ℕ) → held r (suc d) + million * passed r i d ≡ million * (million + i) * held r d
  unfolding held passed
  held_passed i d = rw (P_suc d, w_suc r shares d) (omega arith)

  held_zero : held r 0 ≡ million
  unfolding held
  held_zero = rw (w_zero r, P_zero)

  module _ (h N : ℕ) (i e new : ℕ → ℕ)
      (rates : (l : ℕ) → l < N - 1 → i l ≤ h)
      (errs : (j : ℕ) → e j ≤ new j + sum_ℕ j (λ l. e l * passed r (i l) (j - l - 1)))
      (news : (j : ℕ) → j < N → new j < (3 * j + 1) * (million * P j))
    where
      -- one cell's part in the next year
      part_suc : (j : ℕ) → j < N → (l : ℕ) → l < j → e l * held r (suc j - l - 1) + million * (e l * passed r (i l) (j - l - 1)) ≤ million * (million + h) * (e l * held r (j - l - 1))
      part_suc j few l b =
          let d : ℕ = j - l - 1 in
          let a : suc j - l - 1 ≡ suc (j - l - 1) = omega arith in
          rw a (omega (arith, mul-le-mul_left (e l) (le_trans (le_of_eq (held_passed (i l) d)) (mul-le-mul_right (held r d) (mul-le-mul_left million (add-le-add (le_refl million) (rates l (omega arith))))))))

      outstanding_suc : (j : ℕ) → j < N → outstanding r e (suc j) ≤ million * (million + h) * outstanding r e j + million * new j
      unfolding outstanding
      outstanding_suc j few =
          let A : ℕ → ℕ = λ l. e l * held r (suc j - l - 1) in
          let B : ℕ → ℕ = λ l. e l * passed r (i l) (j - l - 1) in
          let C : ℕ → ℕ = λ l. e l * held r (j - l - 1) in
          let a : suc j - j - 1 ≡ 0 = omega arith in
          let s : sum_ℕ j (λ l. A l + million * B l) ≤ sum_ℕ j (λ l. million * (million + h) * C l) = sum_ℕ_mono j _ _ (part_suc j few) in
          rw (sum_ℕ_suc j, a, held_zero) (omega (arith, errs j, sum_ℕ_add j A (λ l. million * B l), sum_ℕ_scale j million B, sum_ℕ_scale j (million * (million + h)) C))

      outstanding_none : outstanding r e 0 ≡ 0
      unfolding outstanding
      outstanding_none = sum_ℕ_none (λ l. e l * held r (0 - l - 1))

      outstanding_lt : (j : ℕ) → j < N → outstanding r e (suc j) < G h (suc (suc j)) * P (suc j)
      outstanding_lt zero few = rw (G_two h) (omega (arith, rw outstanding_none at (outstanding_suc 0 few), news 0 few, P_suc 0))
      outstanding_lt (suc j) few =
          let g : ℕ = G h (suc (suc j)) in
          let p : ℕ = P (suc j) in
          rw (G_suc h j, P_suc (suc j)) (omega (
            arith,
            outstanding_suc (suc j) few,
            news (suc j) few,
            mul-le-mul_left (million * (million + h)) (le_of_lt (outstanding_lt j (omega arith))),
            mul-le-mul_right (million * p) (ceiling_low (g * h)),
          ))

      -- of N cells
      pub outstanding_below : 1 ≤ N → outstanding r e N < G h (N + 1) * P N
      outstanding_below some =
          let e : suc (N - 1) ≡ N = omega arith in
          let f : suc N ≡ N + 1 = omega arith in
          rw (e, f) at (outstanding_lt (N - 1) (omega arith))
