-- Sums and the largest value over an index.
use Rattle.std.specs.Prelude.{ℕ, zero, suc, ◌+◌, ◌-◌, max, ℤ, pos, ◌+ℤ◌}

-- g 0 + g 1 + .. + g (n - 1)
unfoldable pub sum : ℕ → (ℕ → ℤ) → ℤ
sum zero g = pos 0
sum (suc n) g = sum n g +ℤ g n

unfoldable pub sum_ℕ : ℕ → (ℕ → ℕ) → ℕ
sum_ℕ zero g = 0
sum_ℕ (suc n) g = sum_ℕ n g + g n

-- the sum over l = a to b of g l, as the papers write it; 0 where b is below a
abbrev pub Σℤ : ℕ → ℕ → (ℕ → ℤ) → ℤ
Σℤ a b g = sum (suc b - a) (λ j. g (a + j))

abbrev pub Σℕ : ℕ → ℕ → (ℕ → ℕ) → ℕ
Σℕ a b g = sum_ℕ (suc b - a) (λ j. g (a + j))

-- the largest of g 0 to g (n - 1); 0 where there is none
unfoldable pub largest : ℕ → (ℕ → ℕ) → ℕ
largest zero g = 0
largest (suc n) g = max (largest n g) (g n)
