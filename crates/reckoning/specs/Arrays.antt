-- What the code's arrays of thirty hold by the papers' indices, and what the code answers.
use Rattle.std.specs.Prelude.{◌≡◌, Bool, true, List, ℕ, ◌+◌, ◌-◌, ◌*◌, ◌≤◌, ◌<◌, get_or, replicate, ℤ, pos, nat_abs, ◌+ℤ◌}
use Rattle.whole.specs.Range.{million, limit, Between, Within}
use Rattle.whole.specs.Sum.{Σℕ}
use Rattle.whole.specs.Test.{pick, both, all, is_within}
use Rattle.whole.specs.Table.{table}
use Rattle.whole.specs.Entry.{nth}
use Rattle.reckoning.specs.Reckoning.{w, alpha, fund}
use Rattle.reckoning.specs.Gamma.{gamma}
use Rattle.reckoning.specs.declared.Row.{Row}
use Rattle.reckoning.specs.Answers.{Reckoned, GammaTable, no_row}

-- ---- an array by the papers' index
-- r_1 and on
unfoldable pub shares_of : List ℤ → ℕ → ℕ
shares_of xs d = nat_abs (nth (pos 0) xs d)

-- i_2 and on
unfoldable pub rates_of : List ℤ → ℕ → ℤ
rates_of xs l = nth (pos 0) xs (l - 1)

-- the amounts of year 1 and on
unfoldable pub amounts_of : List ℤ → ℕ → ℤ
amounts_of xs k = nth (pos 0) xs k

-- ---- what a caller says of the arrays
pub record Years (n : ℕ) : Type 0 where
  pub some : 1 ≤ n
  pub few : n ≤ 30

-- the rollover's q shares sum to 1,000,000, and there are no others
pub record Terms (q : ℕ) (r : List ℤ) : Type 0 where
  pub few : q ≤ 30
  pub part : (k : ℕ) → k < 30 → Between (pos 0) (pos million) (get_or r k (pos 0))
  pub sum : Σℕ 1 q (shares_of r) ≡ million
  pub past : (d : ℕ) → q < d → shares_of r d ≡ 0

pub record Rates (i : List ℤ) : Type 0 where
  pub rate : (k : ℕ) → k < 30 → Within million (get_or i k (pos 0))

pub record Amounts (f : List ℤ) : Type 0 where
  pub amount : (k : ℕ) → k < 30 → Within limit (get_or f k (pos 0))

-- w(0) to w(29)
unfoldable pub weights_of : (r : ℕ → ℕ) → List ℤ
weights_of r = table 30 30 (λ d. pos (w r d)) (pos 0)

-- ---- the cells and the fund of a flow f
module _ (r : ℕ → ℕ) (i : ℕ → ℤ) (f : ℕ → ℤ) where
  -- the first j cells, from alpha_2 on
  unfoldable pub alphas_of : (j : ℕ) → List ℤ
  alphas_of j = table 30 j (λ l. alpha r i f (2 + l)) (pos 0)

  -- check 11 for the first j cells
  unfoldable pub alphas_fit : (j : ℕ) → Bool
  alphas_fit j = all j (λ l. is_within limit (alpha r i f (2 + l)))

  -- v holds the j < 30 cells before cell 2 + j, and check 11 takes them
  pub record Before (j : ℕ) (v : List ℤ) : Type 0 where
    pub few : j < 30
    pub is : v ≡ alphas_of j
    pub fit : alphas_fit j ≡ true

  -- check 11 for the N cells, and for the fund with the amount that is left at the horizon
  unfoldable pub fund_fits : (N : ℕ) (left : ℤ) → Bool
  fund_fits N left = both (alphas_fit N) (is_within limit (fund r i N f +ℤ left))

  -- that fund, unless check 11 refuses it or a cell
  unfoldable pub fund_reckoned : (N : ℕ) (left : ℤ) → Reckoned
  fund_reckoned N left = pick (fund_fits N left)
      (record { refusal = 0; fund = fund r i N f +ℤ left })
      (record { refusal = 11; fund = pos 0 })

-- cells within the limit, and weights of which none is left from w(q) on
pub record Invested (q n : ℕ) (v u : List ℤ) : Type 0 where
  pub few : n ≤ 30
  pub cells : (k : ℕ) → k < n → Within limit (get_or v k (pos 0))
  pub weights : (d : ℕ) → d < 30 → Within million (get_or u d (pos 0))
  pub none : (d : ℕ) → q ≤ d → d < 30 → get_or u d (pos 0) ≡ pos 0

-- ---- the gammas
-- a row so far, of n entries, and an earlier row that sends into it
pub record Joins (n : ℕ) (row earlier : List ℤ) (r u i : ℤ) : Type 0 where
  pub few : n ≤ 30
  pub so_far : (l : ℕ) → l < n → Within (100 * limit) (get_or row l (pos 0))
  pub earlier_fits : (l : ℕ) → l < n → Within limit (get_or earlier l (pos 0))
  pub matured : Within million r
  pub invested : Within million u
  pub rate : Within million i

module _ (r : ℕ → ℕ) (i : ℕ → ℤ) (N : ℕ) where
  -- row 2 + j, entries 1 to N
  unfoldable pub gamma_row : (j : ℕ) → Row
  gamma_row j = record { values = table 30 N (λ l. gamma r i (2 + j) (1 + l)) (pos 0) }

  -- the first j rows, from row 2 on
  unfoldable pub gamma_rows : (j : ℕ) → List Row
  gamma_rows j = table 30 j gamma_row no_row

  -- check 11 for row 2 + j
  unfoldable pub gamma_row_fits : (j : ℕ) → Bool
  gamma_row_fits j = all N (λ l. is_within limit (gamma r i (2 + j) (1 + l)))

  -- the array holds the j < N rows before row 2 + j, and check 11 takes them
  pub record RowsBefore (j : ℕ) (rows : List Row) : Type 0 where
    pub few : j < N
    pub is : rows ≡ gamma_rows j
    pub fit : all j gamma_row_fits ≡ true

  -- the table, unless check 11 refuses one of its cells
  unfoldable pub gammas_reckoned : GammaTable
  gammas_reckoned = pick (all N gamma_row_fits)
      (record { refusal = 0; rows = gamma_rows N })
      (record { refusal = 11; rows = replicate 30 no_row })
