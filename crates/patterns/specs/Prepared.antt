-- What the code prepares of a plan, whatever the allocation.
use Rattle.std.specs.Prelude.{List, [], ℕ, ◌≤◌, ◌<◌, get_or, pos, ℤ, Option}
use Rattle.whole.specs.Range.{million, limit, Within}
use Rattle.whole.specs.Sum.{sum_ℕ}
use Rattle.reckoning.specs.Arrays.{Amounts}
use Rattle.plan.specs.Held.{amounts_in}

-- n parts, of at most 1,000,000 together
abbrev pub Parts : (n : ℕ) → List ℕ → Type 0
Parts n shares = sum_ℕ n (λ j. get_or shares j 0) ≤ million

-- the rows of payments of n instruments, and the cost of each, are within the limit
pub record Prepared (n : ℕ) (rows : List (List ℤ)) (cost : Option (List ℤ)) : Type 0 where
  pub few : n ≤ 16
  pub payments : (j : ℕ) → j < n → Amounts (get_or rows j [])
  pub costs : (j : ℕ) → j < n → Within limit (get_or (amounts_in cost) j (pos 0))
