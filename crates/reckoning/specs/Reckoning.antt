-- Document 01, "The yearly reckoning". Indices are the paper's: r_1 to r_q, i_2 to i_N, years 1 to N, cells 2 to N + 1.
-- Each letter is a function of its index that is 0 where the plan has no such number.
use Rattle.std.specs.Prelude.{ℕ, ◌+◌, ◌-◌, ℤ, pos, ◌+ℤ◌, ◌*ℤ◌}
use Rattle.whole.specs.Range.{million}
use Rattle.whole.specs.Floor.{floor, share_of}
use Rattle.whole.specs.Sum.{Σℕ, Σℤ}
use Rattle.whole.specs.Course.{course}

-- w(d): 1,000,000 less r_1 to r_d, the part of a cell that is still invested after d years
unfoldable pub w : (r : ℕ → ℕ) → ℕ → ℕ
w r d = million - Σℕ 1 d r

-- the sum over the n instruments j of a_kj × p_j
unfoldable pub paid : (n : ℕ) (a : ℕ → ℕ → ℤ) (p : ℕ → ℕ) → ℕ → ℤ
paid n a p k = Σℤ 1 n (λ j. a k j *ℤ pos (p j))

-- what is left of n instruments at the horizon, in millionths of an amount: the sum over j of cost_j × p_j (document 02, item 6)
unfoldable pub left : (n : ℕ) (cost : ℕ → ℤ) (p : ℕ → ℕ) → ℤ
left n cost p = Σℤ 1 n (λ j. cost j *ℤ pos (p j))

-- the allocation's flow in year k: what it pays, in whole amounts, and c_k, which no allocation changes (b_k - o_k)
unfoldable pub flow : (n : ℕ) (a : ℕ → ℕ → ℤ) (c : ℕ → ℤ) (p : ℕ → ℕ) → ℕ → ℤ
flow n a c p k = floor (paid n a p k) million +ℤ c k

-- what a cell of x sends into a later one: the share r that matures, and interest at the rate i on the share w that was invested
unfoldable pub sent : (x r w i : ℤ) → ℤ
sent x r w i = share_of x r +ℤ share_of (share_of x w) i

module _ (r : ℕ → ℕ) (i : ℕ → ℤ) where
  -- alpha_k, an investment cell, from the flow f of the year before and the cells α before it
  unfoldable pub alpha_step : (f : ℕ → ℤ) → ℕ → (α : ℕ → ℤ) → ℤ
  alpha_step f k α = f (k - 1) +ℤ Σℤ 2 (k - 1) (λ l. sent (α l) (pos (r (k - l))) (pos (w r (k - l - 1))) (i l))

  unfoldable pub alpha : (f : ℕ → ℤ) → ℕ → ℤ
  alpha f = course (alpha_step f)

  -- the fund at the horizon N
  unfoldable pub fund : (N : ℕ) → (f : ℕ → ℤ) → ℤ
  fund N f = Σℤ 2 (N + 1) (λ k. share_of (alpha f k) (pos (w r (N + 1 - k))))
