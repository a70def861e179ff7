-- Document 01, "Tilley's exact fund" (document 004, equations 3 and 7), in unbounded whole numbers.
use Rattle.std.specs.Prelude.{ℕ, ◌+◌, ◌-◌, ◌*◌, ◌^◌, ℤ, pos, ◌+ℤ◌, ◌*ℤ◌}
use Rattle.whole.specs.Range.{million}
use Rattle.whole.specs.Sum.{Σℤ}
use Rattle.whole.specs.Course.{course}
use Rattle.reckoning.specs.Reckoning.{w, paid}

-- x_k: the exact flow of year k, in millionths of an amount; c_k, which no allocation changes, is b_k - o_k
unfoldable pub x : (n : ℕ) (a : ℕ → ℕ → ℤ) (c : ℕ → ℤ) (p : ℕ → ℕ) → ℕ → ℤ
x n a c p k = paid n a p k +ℤ pos million *ℤ c k

module _ (r : ℕ → ℕ) (i : ℕ → ℤ) where
  -- C(k, l): what cell l sends into cell k, in units of 10^-12
  unfoldable pub C : ℕ → ℕ → ℤ
  C k l = pos (million * r (k - l)) +ℤ i l *ℤ pos (w r (k - l - 1))

  -- E_k, from the exact flow x and the E before it
  unfoldable pub E_step : (x : ℕ → ℤ) → ℕ → (E : ℕ → ℤ) → ℤ
  E_step x k E = x (k - 1) *ℤ pos (10 ^ (12 * (k - 2))) +ℤ Σℤ 2 (k - 1) (λ l. E l *ℤ C k l *ℤ pos (10 ^ (12 * (k - l - 1))))

  unfoldable pub E : (x : ℕ → ℤ) → ℕ → ℤ
  E x = course (E_step x)

  -- H of a flow: the exact fund is H / 10^(12 N)
  unfoldable pub H : (N : ℕ) → (x : ℕ → ℤ) → ℤ
  H N x = Σℤ 2 (N + 1) (λ k. E x k *ℤ pos (w r (N + 1 - k)) *ℤ pos (10 ^ (12 * (N + 1 - k))))

-- H with s millionths of an amount left at the horizon (document 02, item 6)
unfoldable pub with_left : (N : ℕ) (H s : ℤ) → ℤ
with_left N H s = H +ℤ s *ℤ pos (10 ^ (12 * N - 6))
