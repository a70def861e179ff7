-- Division downward, and the share of an amount (document 01, "The yearly reckoning").
use Rattle.std.specs.Prelude.{ℕ, ◌/◌, ℤ, pos, negsuc, ◌+ℤ◌, ◌*ℤ◌, ◌≤ℤ◌, ◌<ℤ◌}
use Rattle.whole.specs.Range.{million}

-- q is the greatest whole number not above z / m
pub record IsFloor (z : ℤ) (m : ℕ) (q : ℤ) : Type 0 where
  pub low : (q *ℤ pos m) ≤ℤ z
  pub high : z <ℤ ((q +ℤ pos 1) *ℤ pos m)

-- that number: `negsuc a` is -1 - a, whose floor is -1 - a / m
unfoldable pub floor : ℤ → ℕ → ℤ
floor (pos a) m = pos (a / m)
floor (negsuc a) m = negsuc (a / m)

-- share(x, f): the greatest whole number not above x × f / 1,000,000, for x and f of either sign
unfoldable pub share_of : ℤ → ℤ → ℤ
share_of x f = floor (x *ℤ f) million
