-- Document 02, item 4: the cash account, the exact account, and the bound between them. Indices are the papers': flows of years 1 to N,
-- rates of years 2 to N, each a function of its year.
--
-- Document 000, equation 2.2, lends what is left over and borrows what is missing. Δ(t) is the flow of year t, which comes at its end; what
-- stands at its beginning has earned at the lending rate l_t, or cost at the borrowing rate b_t:
--
--     V(1) = Δ(1)
--     V(t) = Δ(t) + (1 + l_t) V(t-1)     if V(t-1) ≥ 0, a surplus that is lent
--            Δ(t) + (1 + b_t) V(t-1)     if V(t-1) < 0, a deficit that is borrowed
--
-- Worked, with the flows 10, -30, 25, lending at 5 percent and borrowing at 10: V(1) = 10 is lent, V(2) = -30 + 1.05 × 10 = -19.5 is
-- borrowed, V(3) = 25 - 1.1 × 19.5 = 3.55. That is the exact account. In whole amounts the interest of each year is cut downward:
-- 10, then 10 + 0 - 30 = -20, then -20 - 2 + 25 = 3. Both are computed in Case.
use Rattle.std.specs.Prelude.{ℕ, zero, suc, ◌+◌, ◌*◌, ◌^◌, max, ℤ, pos, ◌+ℤ◌, ◌*ℤ◌}
use Rattle.std.specs.Int.Signed.{le_z}
use Rattle.whole.specs.Range.{million}
use Rattle.whole.specs.Floor.{share_of}
use Rattle.whole.specs.Test.{pick}
use Rattle.reckoning.specs.Bound.{h as largestRate, ceiling}

-- the rate of a year that begins with z, of its lending rate l and its borrowing rate b: l where z is 0 or more, else b
unfoldable pub rate_for : (l b z : ℤ) → ℤ
rate_for l b z = pick (le_z (pos 0) z) l b

-- the account after a year that begins with v: v, its interest, and the year's flow f
unfoldable pub next : (l b v f : ℤ) → ℤ
next l b v f = v +ℤ share_of v (rate_for l b v) +ℤ f

-- the same with no cut, in units of which 1,000,000 make one of those of X
unfoldable pub exact_next : (l b X x : ℤ) → ℤ
exact_next l b X x = X *ℤ (pos million +ℤ rate_for l b X) +ℤ x

module _ (lending borrowing : ℕ → ℤ) where
  -- V(t), of the flow f
  unfoldable pub account : (f : ℕ → ℤ) (t : ℕ) → ℤ
  account f zero = pos 0
  account f (suc zero) = f 1
  account f (suc (suc t)) = next (lending (suc (suc t))) (borrowing (suc (suc t))) (account f (suc t)) (f (suc (suc t)))

  -- the exact account, of the flow x in millionths: that of t years is X_t / 10^(6 t)
  unfoldable pub X : (x : ℕ → ℤ) (t : ℕ) → ℤ
  X x zero = pos 0
  X x (suc zero) = x 1
  X x (suc (suc t)) = exact_next (lending (suc (suc t))) (borrowing (suc (suc t))) (X x (suc t)) (x (suc (suc t)) *ℤ pos (10 ^ (6 * suc t)))

  -- h: the largest of all rates of both lists; 0 if N = 1
  unfoldable pub h : (N : ℕ) → ℕ
  h N = max (largestRate lending N) (largestRate borrowing N)

-- g_t, for a largest rate h; g_1 = 1
unfoldable pub g : (h : ℕ) → ℕ → ℕ
g h zero = 0
g h (suc zero) = 1
g h (suc (suc t)) = g h (suc t) + ceiling (g h (suc t) * h) + 2
