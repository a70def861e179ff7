-- What the recursion goes through: the allocations that agree with the shares placed so far.
use Rattle.std.specs.Prelude.{List, [], ◌∷◌, ◌≡◌, ℕ, zero, suc, ◌+◌, ◌-◌, ◌*◌, ◌≤◌, ◌<◌, length, get_or, set}
use Rattle.whole.specs.Range.{million}
use Rattle.whole.specs.Sum.{sum_ℕ}
use Rattle.finder.specs.Grid.{down_from}

-- every way to place the parts left on the instrument at a place and on the others behind it
unfoldable pub placements : (unit : ℕ) (shares : List ℕ) (at others parts : ℕ) → List (List ℕ)
placements unit shares at zero parts = set shares at (parts * unit) ∷ []
placements unit shares at (suc others) parts =
    down_from (suc parts) (λ s. placements unit (set shares at (s * unit)) (at + 1) others (parts - s))

-- of n instruments, those before the one at a place have their shares, those behind it have none yet, and the parts left make up 1,000,000
pub record Placing (n : ℕ) (shares : List ℕ) (at others parts unit : ℕ) : Type 0 where
  pub places : at + others + 1 ≡ n
  pub array : length shares ≡ 4
  pub few : parts ≤ 40
  pub behind : (j : ℕ) → at < j → get_or shares j 0 ≡ 0
  pub whole : sum_ℕ at (λ j. get_or shares j 0) + parts * unit ≡ million
