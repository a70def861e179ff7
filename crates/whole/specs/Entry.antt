-- Entries by the papers' index, which counts from 1.
use Rattle.std.specs.Prelude.{ℕ, zero, suc, List, ltb, get_or}
use Rattle.whole.specs.Test.{pick}

-- the entry of a list with index k; z before the first and past the last
unfoldable pub nth : {A : Type 0} → A → List A → ℕ → A
nth z xs zero = z
nth z xs (suc j) = get_or xs j z

-- f, which counts from 0, below n; z from n on
unfoldable pub cut : {A : Type 0} → A → ℕ → (ℕ → A) → ℕ → A
cut z n f j = pick (ltb j n) (f j) z

-- the same by the papers' index: f 0 to f (n - 1) are entries 1 to n; z outside
unfoldable pub entry : {A : Type 0} → A → ℕ → (ℕ → A) → ℕ → A
entry z n f zero = z
entry z n f (suc j) = cut z n f j
