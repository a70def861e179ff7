-- Document 02, item 7: level rates.
use Rattle.std.specs.Prelude.{◌≡◌, ℕ, ◌-◌, ◌*◌, ◌^◌, ◌≤◌, ℤ, pos, ◌+ℤ◌, ◌*ℤ◌}
use Rattle.std.proofs.Math.IntN.{pow}
use Rattle.whole.specs.Range.{million}
use Rattle.whole.specs.Sum.{Σℕ, Σℤ}
use Rattle.reckoning.specs.Exact.{H}

-- all rates of a pattern, i_2 to i_N, are this one; with N = 1 there are none, and any rate will do
abbrev pub Level : (i : ℕ → ℤ) (N : ℕ) (rate : ℤ) → Type 0
Level i N rate = (k : ℕ) → 2 ≤ k → k ≤ N → i k ≡ rate

-- the sum over the years k of the net flow times (1 + rate)^(N - k), brought to the scale of H: in units of 10^-(12 N), where x_k and each
-- of the N - k factors 1,000,000 + rate count millionths. No rollover is in it.
unfoldable pub level_H : (rate : ℤ) (N : ℕ) (x : ℕ → ℤ) → ℤ
level_H rate N x = Σℤ 1 N (λ k. x k *ℤ pow (pos million +ℤ rate) (N - k) *ℤ pos (10 ^ (12 * N - 6 - 6 * (N - k))))

-- for any number of years, any rollover whose shares come to at most 1,000,000, any rate and any flow: at a level rate H is that sum
pub record LevelEveryYear : Type 0 where
  pub closed : (r : ℕ → ℕ) → ((d : ℕ) → Σℕ 1 d r ≤ million) → (i : ℕ → ℤ) (rate : ℤ) (N : ℕ) → Level i N rate → (x : ℕ → ℤ) → H r i N x ≡ level_H rate N x
