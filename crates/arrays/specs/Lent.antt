-- Which places of such arrays play a part (document 02, item 1): not what stands past N, n, q and m, not the amounts of a kind whose count is
-- 0, not the rates of a slope, and not the start, the step and T of a list. Arrays that differ only there hold the same.
use Rattle.std.specs.Prelude.{◌≡◌, Bool, true, false, List, ℕ, ◌+◌, ◌-◌, ◌*◌, ◌<◌, ltb, ℤ, pos, get_or}
use Rattle.plan.specs.declared.Plan.{Plan}
use Rattle.plan.specs.Held.{held}
use Rattle.arrays.specs.Arrays.{outflows_from, opening_from, cost_from, allocation_from, sloped_from, until_from, costed_from, start_from, step_from, plan_of_arrays}

-- the four arrays, whatever they hold
pub record Lent : Type 0 where
  pub counts : List ℕ
  pub amounts : List ℤ
  pub shares : List ℕ
  pub rates : List ℤ

module _ (A : Lent) where
  -- the plan that they hold
  abbrev pub plan_in : Plan
  plan_in = plan_of_arrays A.counts A.amounts A.shares A.rates

  -- what stands at a place
  abbrev pub count_at : (k : ℕ) → ℕ
  count_at k = get_or A.counts k 0

  abbrev pub rate_at : (k : ℕ) → ℤ
  rate_at k = get_or A.rates k (pos 0)

  -- whether money already invested is held, and the cost that is left at the horizon, and whether the pattern at t is a slope
  abbrev pub opened_in : Bool
  opened_in = ltb 0 (count_at 4)

  abbrev pub costed_in : Bool
  costed_in = ltb 0 (count_at costed_from)

  abbrev pub sloped_in : (t : ℕ) → Bool
  sloped_in t = ltb 0 (count_at (sloped_from + t))

-- two arrays agree from place `at` on, in the first n of so many places
abbrev pub Agree : {A : Type 0} (none : A) (n places at : ℕ) (xs ys : List A) → Type 0
Agree none n places at xs ys = (k : ℕ) → k < n → k < places → get_or xs (at + k) none ≡ get_or ys (at + k) none

-- two of them agree wherever a place plays a part
pub record ReadAlike (A B : Lent) : Type 0 where
  pub head : Agree 0 4 4 0 A.counts B.counts
  pub opened : opened_in A ≡ opened_in B
  pub costed : costed_in A ≡ costed_in B
  pub payments : (j : ℕ) → j < count_at A 1 → j < 16 → Agree (pos 0) (count_at A 0) 30 (30 * j) A.amounts B.amounts
  pub outflows : Agree (pos 0) (count_at A 0) 30 outflows_from A.amounts B.amounts
  pub opening : opened_in A ≡ true → Agree (pos 0) (count_at A 0) 30 opening_from A.amounts B.amounts
  pub cost : costed_in A ≡ true → Agree (pos 0) (count_at A 1) 16 cost_from A.amounts B.amounts
  pub rollover : Agree 0 (count_at A 2) 30 0 A.shares B.shares
  pub allocation : Agree 0 (count_at A 1) 16 allocation_from A.shares B.shares
  pub sloped : (t : ℕ) → t < count_at A 3 → t < 64 → sloped_in A t ≡ sloped_in B t
  pub rates : (t : ℕ) → t < count_at A 3 → t < 64 → sloped_in A t ≡ false → Agree (pos 0) (count_at A 0 - 1) 30 (30 * t) A.rates B.rates
  pub start : (t : ℕ) → t < count_at A 3 → t < 64 → sloped_in A t ≡ true → rate_at A (start_from + t) ≡ rate_at B (start_from + t)
  pub step : (t : ℕ) → t < count_at A 3 → t < 64 → sloped_in A t ≡ true → rate_at A (step_from + t) ≡ rate_at B (step_from + t)
  pub until : (t : ℕ) → t < count_at A 3 → t < 64 → sloped_in A t ≡ true → count_at A (until_from + t) ≡ count_at B (until_from + t)

-- they hold the same: every check, answer and file is made of what is held
abbrev pub HeldAlike : Lent → Type 0
HeldAlike A = (B : Lent) → ReadAlike A B → held (plan_in A) ≡ held (plan_in B)
