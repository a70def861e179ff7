-- What is claimed of the reckoned and the exact fund (document 01, "Bound, form, verdict"), and what the claims rest on.
use Rattle.std.specs.Prelude.{◌≡◌, Bool, true, ℕ, ◌+◌, ◌-◌, ◌*◌, ◌^◌, ◌≤◌, ◌<◌, ℤ, pos, nat_abs, ◌+ℤ◌, ◌-ℤ◌, ◌*ℤ◌, ◌≤ℤ◌, ◌<ℤ◌}
use Rattle.std.specs.Int.Signed.{le_z}
use Rattle.whole.specs.Range.{million}
use Rattle.whole.specs.Floor.{IsFloor}
use Rattle.whole.specs.Sum.{Σℕ}
use Rattle.whole.specs.Test.{all}

-- ---- what they rest on
-- a rollover r, and a pattern i whose rates i_2 to i_N are at most 1,000,000 without their sign
pub record Given (r : ℕ → ℕ) (i : ℕ → ℤ) (N : ℕ) : Type 0 where
  pub years : 1 ≤ N
  pub shares : (d : ℕ) → Σℕ 1 d r ≤ million
  pub rates : (l : ℕ) → l < N - 1 → nat_abs (i (2 + l)) ≤ million

-- the flow f is the exact flow x in whole amounts: 0 ≤ x_k - 10^6 f_k < 10^6
abbrev pub Floors : (f x : ℕ → ℤ) → Type 0
Floors f x = (k : ℕ) → IsFloor (x k) million (f k)

-- z is s millionths in whole amounts: never above, and at most e below
pub record Rounded (e : ℕ) (s z : ℤ) : Type 0 where
  pub low : (z *ℤ pos million) ≤ℤ s
  pub high : s ≤ℤ ((z +ℤ pos e) *ℤ pos million)

-- ---- what is claimed of a number y in amounts, where the exact fund is H / 10^(12 N)
-- the exact fund is never below y, and less than y + b
pub record FromBelow (N : ℕ) (H y : ℤ) (b : ℕ) : Type 0 where
  pub low : (y *ℤ pos (10 ^ (12 * N))) ≤ℤ H
  pub high : H <ℤ ((y +ℤ pos b) *ℤ pos (10 ^ (12 * N)))

-- the exact fund is less than b away from y, on either side
pub record Near (N : ℕ) (H y : ℤ) (b : ℕ) : Type 0 where
  pub low : ((y -ℤ pos b) *ℤ pos (10 ^ (12 * N))) <ℤ H
  pub high : H <ℤ ((y +ℤ pos b) *ℤ pos (10 ^ (12 * N)))

-- none of the rates i_2 to i_N is below zero
unfoldable pub none_negative : (i : ℕ → ℤ) (N : ℕ) → Bool
none_negative i N = all (N - 1) (λ l. le_z (pos 0) (i (2 + l)))

-- the claim by the sign of the rates: less than b away on either side, and from below where no rate of the pattern is below zero
pub record Close (i : ℕ → ℤ) (N : ℕ) (H y : ℤ) (b : ℕ) : Type 0 where
  pub either : Near N H y b
  pub below : none_negative i N ≡ true → FromBelow N H y b
