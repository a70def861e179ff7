-- What the call answers, over a plan's numbers P and the two lists of rates, for good and bad input alike (document 02, item 4).
use Rattle.std.specs.Prelude.{Bool, List, ℕ, ◌+◌, ◌-◌, eqb, length, ℤ, pos}
use Rattle.std.specs.Int.Signed.{le_z}
use Rattle.whole.specs.Range.{limit}
use Rattle.whole.specs.Test.{pick, both, all, is_between, is_within}
use Rattle.reckoning.specs.Arrays.{rates_of}
use Rattle.plan.specs.Numbers.{Numbers}
use Rattle.plan.specs.Refusal.{check, first_of, answer, top, head_refusal, refusal_with}
use Rattle.patterns.specs.Pattern.{shared_of, flow_of}
use Rattle.planner.specs.Verdict.{word_of}
use Rattle.cash.specs.Answers.{CashAnswer}
use Rattle.cash.specs.Account.{account, h, g}

-- what a refusal holds: its number, and zeros
abbrev pub no_cash : ℕ → CashAnswer
no_cash number = record { refusal = number; account = pos 0; bound = pos 0; word = 0 }

-- ---- the checks on the lists, for a plan of N years
-- 5: each list has N - 1 rates, those of years 2 to N
unfoldable pub lengths_refusal : (N : ℕ) → (lending borrowing : List ℤ) → ℕ
lengths_refusal N lending borrowing =
    check (both (eqb (length lending) (N - 1)) (eqb (length borrowing) (N - 1))) 5
    0

module _ (N : ℕ) where
  -- 8: each rate of a list is 0 to 200,000
  unfoldable pub list_ok : (rates : ℕ → ℤ) → Bool
  list_ok rates = all (N - 1) (λ l. is_between (pos 0) (pos top) (rates (2 + l)))

  -- 14: no borrowing rate is below the lending rate of its year
  unfoldable pub is_in_order : (lending borrowing : ℕ → ℤ) → Bool
  is_in_order lending borrowing = all (N - 1) (λ l. le_z (lending (2 + l)) (borrowing (2 + l)))

  unfoldable pub lists_refusal : (lending borrowing : ℕ → ℤ) → ℕ
  lists_refusal lending borrowing =
      check (both (list_ok lending) (list_ok borrowing)) 8
      (check (is_in_order lending borrowing) 14
      0)

-- ---- the reckoning of a flow f over N years
module _ (lending borrowing : ℕ → ℤ) (f : ℕ → ℤ) (N : ℕ) where
  -- check 11 for V(1) to V(N)
  unfoldable pub accounts_fit : Bool
  accounts_fit = all N (λ t. is_within limit (account lending borrowing f (1 + t)))

  -- V(N), g_N, and the word that they make against 0
  unfoldable pub cash_reckoned : CashAnswer
  cash_reckoned =
      let v = account lending borrowing f N in
      let b = pos (g (h lending borrowing N) N) in
      pick accounts_fit
      (record { refusal = 0; account = v; bound = b; word = word_of v b (pos 0) })
      (no_cash 11)

-- ---- the call
-- what is looked at before a rate is: check 3, and the 5 of the lists
unfoldable pub shape_refusal : (P : Numbers) (lending borrowing : List ℤ) → ℕ
shape_refusal P lending borrowing =
    first_of (head_refusal P)
    (lengths_refusal P.years lending borrowing)

module _ (P : Numbers) (lending borrowing : ℕ → ℤ) where
  -- then, check 3 having passed, 6 and 7, 13 and 8 on the patterns, 8 and 14 on the lists, 9
  unfoldable pub numbers_refusal : ℕ
  numbers_refusal = refusal_with P (lists_refusal P.years lending borrowing)

  -- the account of the allocation's flow
  unfoldable pub cash_at : CashAnswer
  cash_at = answer no_cash numbers_refusal (cash_reckoned lending borrowing (flow_of (shared_of P)) P.years)

-- and of both
module _ (P : Numbers) (lending borrowing : List ℤ) where
  unfoldable pub cash_answer : CashAnswer
  cash_answer = answer no_cash (shape_refusal P lending borrowing) (cash_at P (rates_of lending) (rates_of borrowing))
