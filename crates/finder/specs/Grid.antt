-- The allocations whose shares are multiples of 1,000,000 / D (document 02, item 5), in the order of item 11: the larger share of
-- instrument 1 first, then of 2, and so on.
use Rattle.std.specs.Prelude.{◌≡◌, List, [], ◌∷◌, ◌++◌, map, ℕ, zero, suc, ◌-◌, ◌*◌, ◌/◌, ◌<◌, length, get_or}
use Rattle.whole.specs.Range.{million}
use Rattle.whole.specs.Sum.{sum_ℕ}
use Rattle.whole.specs.Table.{table}

-- n shares lie on the grid of D parts: each is a number of parts, and they come to 1,000,000
pub record OnGrid (n D : ℕ) (shares : List ℕ) : Type 0 where
  pub parts : (j : ℕ) → ℕ
  pub multiple : (j : ℕ) → j < n → get_or shares j 0 ≡ parts j * (million / D)
  pub whole : sum_ℕ n (λ j. get_or shares j 0) ≡ million

-- the lists f (s - 1), .., f 1, f 0, one behind the other
unfoldable pub down_from : {A : Type 0} → (s : ℕ) → (f : ℕ → List A) → List A
down_from zero f = []
down_from (suc s) f = f s ++ down_from s f

-- every way to place a number of parts on an instrument and n others behind it: all of them on the first, then one fewer, and so on; the
-- last takes what is left
unfoldable pub splits : (n parts : ℕ) → List (List ℕ)
splits zero parts = (parts ∷ []) ∷ []
splits (suc n) parts = down_from (suc parts) (λ s. map (λ (xs : List ℕ). s ∷ xs) (splits n (parts - s)))

-- the allocation of such a split, whose parts are a unit each
unfoldable pub allocation_of : (unit : ℕ) → List ℕ → List ℕ
allocation_of unit xs = table 16 (length xs) (λ j. get_or xs j 0 * unit) 0

-- the allocations of n instruments in D parts
unfoldable pub allocations : (n D : ℕ) → List (List ℕ)
allocations n D = map (allocation_of (million / D)) (splits (n - 1) D)
