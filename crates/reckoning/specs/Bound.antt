-- Document 01, "Bound, form, verdict".
use Rattle.std.specs.Prelude.{ℕ, zero, suc, ◌+◌, ◌-◌, ◌*◌, ◌/◌, ℤ, pos, nat_abs, ◌+ℤ◌, ◌*ℤ◌}
use Rattle.whole.specs.Range.{million}
use Rattle.whole.specs.Floor.{floor}
use Rattle.whole.specs.Sum.{Σℤ, largest}

-- h: the largest of the rates i_2 to i_N, each without its sign; 0 if N = 1
unfoldable pub h : (i : ℕ → ℤ) → (N : ℕ) → ℕ
h i N = largest (N - 1) (λ l. nat_abs (i (2 + l)))

-- the least whole number not below n / 1,000,000
unfoldable pub ceiling : ℕ → ℕ
ceiling n = (n + 999_999) / million

-- G_k, for a largest rate h; G_2 = 1
unfoldable pub G : (h : ℕ) → ℕ → ℕ
G h (suc (suc (suc k))) = G h (suc (suc k)) + ceiling (G h (suc (suc k)) * h) + (3 * suc (suc (suc k)) - 5)
G h (suc (suc zero)) = 1
G h (suc zero) = 0
G h zero = 0

-- the bound of a fund, in amounts
unfoldable pub B : (h : ℕ) → (N : ℕ) → ℕ
B h N = G h (N + 1) + N

-- the value of the linear form with the coefficients K_1 to K_n and the constant Q at the allocation p (document 004, equation 9)
unfoldable pub value : (n : ℕ) (K : ℕ → ℤ) (Q : ℤ) (p : ℕ → ℕ) → ℤ
value n K Q p = floor (Σℤ 1 n (λ j. K j *ℤ pos (p j))) million +ℤ Q
