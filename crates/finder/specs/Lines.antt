-- What the search looks at. Of each pattern it reckons a line once, K_1 to K_4 and 1,000,000 (Q + 2 B): by demand 3 an allocation that lies
-- below a line is not solvent. What lies below none is looked at itself, pattern by pattern.
use Rattle.std.specs.Prelude.{◌≡◌, Bool, List, [], ◌∷◌, ℕ, ◌*◌, ◌<◌, get_or, replicate, ℤ, pos, negsuc, ◌+ℤ◌, ◌*ℤ◌}
use Rattle.std.specs.Int.Signed.{le_z}
use Rattle.whole.specs.Range.{million, limit, Within}
use Rattle.whole.specs.Sum.{sum}
use Rattle.whole.specs.Table.{table}
use Rattle.whole.specs.Test.{pick, both}
use Rattle.reckoning.specs.Arrays.{amounts_of}
use Rattle.patterns.specs.Pattern.{Shared, flow_of, left_of, fund_at, bound_at, constant_at, coefficients_at, flow_fits, coefficients_fit, constant_fits}

-- a line by its five numbers
abbrev pub line_from : (k : List ℤ) (constant : ℤ) → List ℤ
line_from k constant = get_or k 0 (pos 0) ∷ get_or k 1 (pos 0) ∷ get_or k 2 (pos 0) ∷ get_or k 3 (pos 0) ∷ constant ∷ []

-- below this one lies every allocation
abbrev pub over_all : List ℤ
over_all = line_from (replicate 16 (pos 0)) (negsuc 0)

-- ---- a pattern of the rates i
module _ (S : Shared) (i : ℕ → ℤ) where
  -- where check 11 refuses an instrument or Q it refuses the verdict on every allocation
  unfoldable pub line_of : List ℤ
  line_of = pick (both (coefficients_fit S i) (constant_fits S i))
      (line_from (coefficients_at S i) (pos million *ℤ (constant_at S i +ℤ pos 2 *ℤ pos (bound_at S i))))
      over_all

  -- check 11 takes the allocation's flow, and its fund is zero or more
  unfoldable pub fund_passes : Bool
  fund_passes = both (flow_fits S i) (le_z (pos 0) (fund_at S i))

-- what is reckoned of S, whatever the pattern: the allocation's flow, and what is left of it
pub record Reckonable (S : Shared) (flow : List ℤ) (left : ℤ) : Type 0 where
  pub flow_is : (k : ℕ) → amounts_of flow k ≡ flow_of S k
  pub left_is : left ≡ left_of S
  pub left_within : Within limit left

-- ---- four shares and a line: K_1 p_1 + .. + K_4 p_4 + 1,000,000 (Q + 2 B)
abbrev pub height_over : (line : List ℤ) (shares : List ℕ) → ℤ
height_over line shares = sum 4 (λ j. get_or line j (pos 0) *ℤ pos (get_or shares j 0)) +ℤ get_or line 4 (pos 0)

-- its numbers fit a machine's word, and so does what is made of them
pub record LineWithin (k : List ℤ) (constant : ℤ) : Type 0 where
  pub coefficient : (j : ℕ) → j < 4 → Within limit (get_or k j (pos 0))
  pub constant_within : Within (2 * (limit * million)) constant

-- four shares in the array of an allocation
unfoldable pub wide_of : List ℕ → List ℕ
wide_of shares = table 16 4 (λ j. get_or shares j 0) 0
