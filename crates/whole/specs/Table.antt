-- An array of m places of which the first n are a function's values, and the rest d.
use Rattle.std.specs.Prelude.{ℕ, zero, suc, List, [], ◌∷◌, replicate}

module _ {A : Type 0} where
  unfoldable pub table : ℕ → ℕ → (ℕ → A) → A → List A
  table m zero f d = replicate m d
  table zero (suc n) f d = []
  table (suc m) (suc n) f d = f zero ∷ table m n (λ k. f (suc k)) d
