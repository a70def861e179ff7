-- What is claimed of the cash account and the exact one (document 02, item 4): the theorem, and what it says of an answer.
use Rattle.std.specs.Prelude.{◌≡◌, List, ℕ, ◌+◌, ◌-◌, ◌*◌, ◌^◌, ◌≤◌, ◌<◌, ℤ, pos, ◌+ℤ◌, ◌*ℤ◌, ◌≤ℤ◌, ◌<ℤ◌}
use Rattle.reckoning.specs.Theorem.{Floors}
use Rattle.reckoning.specs.Arrays.{rates_of}
use Rattle.plan.specs.Numbers.{Numbers}
use Rattle.patterns.specs.Pattern.{shared_of, exact_flow_of}
use Rattle.planner.specs.Verdict.{solvent, short}
use Rattle.cash.specs.Answers.{CashAnswer}
use Rattle.cash.specs.Account.{account, X, h, g}

-- an account v in amounts, where the exact account of t years is X / 10^(6 t): the exact one is never below v, and less than v + b
pub record Below (t : ℕ) (X v : ℤ) (b : ℕ) : Type 0 where
  pub low : (v *ℤ pos (10 ^ (6 * t))) ≤ℤ X
  pub high : X <ℤ ((v +ℤ pos b) *ℤ pos (10 ^ (6 * t)))

-- the theorem, for any number of years: where no rate is below zero, and the flow f is the exact flow x in whole amounts, the account is
-- never above the exact one, and lies below it by less than g_N. It asks nothing of the signs of the two accounts: they may be on
-- different sides of zero in any year, and then grow at different rates.
pub record NearEveryYear : Type 0 where
  pub near : (lending borrowing : ℕ → ℤ) (N : ℕ) → 1 ≤ N
      → ((l : ℕ) → l < N - 1 → pos 0 ≤ℤ lending (2 + l)) → ((l : ℕ) → l < N - 1 → pos 0 ≤ℤ borrowing (2 + l))
      → (f x : ℕ → ℤ) → Floors f x
      → Below N (X lending borrowing x N) (account lending borrowing f N) (g (h lending borrowing N) N)

module _ (P : Numbers) (lending borrowing : List ℤ) where
  -- the exact account at the end of year N is this / 10^(6 N): that of the allocation's exact flow
  unfoldable pub exact_account : ℤ
  exact_account = X (rates_of lending) (rates_of borrowing) (exact_flow_of (shared_of P)) P.years

  -- g_N
  unfoldable pub bound_of : ℕ
  bound_of = g (h (rates_of lending) (rates_of borrowing) P.years) P.years

  -- an accepted account is never above the exact one, and lies below it by less than the bound that is answered; where the word is solvent
  -- the exact account is zero or more, where it is short it is below zero
  pub record CashTrue (s : CashAnswer) : Type 0 where
    pub near : s.refusal ≡ 0 → Below P.years exact_account s.account bound_of
    pub bound : s.refusal ≡ 0 → s.bound ≡ pos bound_of
    pub is_solvent : s.refusal ≡ 0 → s.word ≡ solvent → pos 0 ≤ℤ exact_account
    pub is_short : s.refusal ≡ 0 → s.word ≡ short → exact_account <ℤ pos 0
