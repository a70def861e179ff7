-- Course-of-values recursion: a sequence each of whose values is made of all the values before it.
use Rattle.std.specs.Prelude.{ℕ, zero, suc, List, [], ◌∷◌, ◌++◌, get_or, ℤ, pos}

-- makes the value at n of the values below n
abbrev pub Step : Type 0
Step = ℕ → (ℕ → ℤ) → ℤ

-- the first n values, each reckoned once
unfoldable pub history : Step → ℕ → List ℤ
history step zero = []
history step (suc n) = let h = history step n in h ++ step n (λ k. get_or h k (pos 0)) ∷ []

-- the value at n
unfoldable pub course : Step → ℕ → ℤ
course step n = step n (λ k. get_or (history step n) k (pos 0))
