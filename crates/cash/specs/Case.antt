-- Worked cases of the cash account: what the definitions give beside what they are to give.
use Rattle.std.specs.Prelude.{true, List, [], ◌∷◌, ◌++◌, ℕ, ◌-◌, ℤ, pos, negsuc, replicate, None}
use Rattle.whole.specs.Case.{Case}
use Rattle.whole.specs.Entry.{nth}
use Rattle.reckoning.specs.Arrays.{rates_of}
use Rattle.plan.specs.Held.{no_instrument, no_pattern}
use Rattle.plan.specs.Numbers.{numbers}
use Rattle.plan.specs.Case.{plan_L, renewed, longer}
use Rattle.plan.specs.declared.Plan.{Plan}
use Rattle.planner.specs.Verdict.{solvent, short, close}
use Rattle.cash.specs.Answers.{CashAnswer}
use Rattle.cash.specs.Account.{account, X, g}
use Rattle.cash.specs.Call.{cash_answer}

-- lending at 5 percent and borrowing at 10
abbrev fives : ℕ → ℤ
fives = rates_of (pos 50_000 ∷ pos 50_000 ∷ [])

abbrev tens : ℕ → ℤ
tens = rates_of (pos 100_000 ∷ pos 100_000 ∷ [])

-- document 000's account with the flows 10, -30, 25: 10, -20, 3; the exact one is 10, -19.5, 3.55. The bound of three years at 10 percent
-- is 7: 1, then 1 + 1 + 2, then 4 + 1 + 2.
abbrev lent : ℕ → ℤ
lent = nth (pos 0) (pos 10 ∷ negsuc 29 ∷ pos 25 ∷ [])

abbrev lent_exactly : ℕ → ℤ
lent_exactly = nth (pos 0) (pos 10_000_000 ∷ negsuc 29_999_999 ∷ pos 25_000_000 ∷ [])

unfoldable pub account_cases : List Case
account_cases =
    record { given = account fives tens lent 1; stated = pos 10 }
    ∷ record { given = account fives tens lent 2; stated = negsuc 19 }
    ∷ record { given = account fives tens lent 3; stated = pos 3 }
    ∷ record { given = X fives tens lent_exactly 2; stated = negsuc 19_499_999_999_999 }
    ∷ record { given = X fives tens lent_exactly 3; stated = pos 3_550_000_000_000_000_000 }
    ∷ record { given = pos (g 100_000 1); stated = pos 1 }
    ∷ record { given = pos (g 100_000 2); stated = pos 4 }
    ∷ record { given = pos (g 100_000 3); stated = pos 7 }
    ∷ []

-- the two on different sides of zero: the exact flows 10.5, -11, 0 give 10.5, 0.025, 0.02625, a surplus that is lent, and the flows in
-- whole amounts 10, -1, -2, a deficit that is borrowed
abbrev apart : ℕ → ℤ
apart = nth (pos 0) (pos 10 ∷ negsuc 10 ∷ pos 0 ∷ [])

abbrev apart_exactly : ℕ → ℤ
apart_exactly = nth (pos 0) (pos 10_500_000 ∷ negsuc 10_999_999 ∷ pos 0 ∷ [])

unfoldable pub apart_cases : List Case
apart_cases =
    record { given = account fives tens apart 2; stated = negsuc 0 }
    ∷ record { given = account fives tens apart 3; stated = negsuc 1 }
    ∷ record { given = X fives tens apart_exactly 2; stated = pos 25_000_000_000 }
    ∷ record { given = X fives tens apart_exactly 3; stated = pos 26_250_000_000_000_000 }
    ∷ []

-- the call on L, whose flow is 580000000, -620000000, and on plans of one year, whose lists are empty: with an outflow that is 1 too much,
-- and money already invested
abbrev on_L : (lending borrowing : List ℤ) → CashAnswer
on_L = cash_answer (numbers plan_L)

abbrev on_renewed : (money : ℤ) → CashAnswer
on_renewed money = cash_answer (numbers (renewed (pos 1_080_000_001) true money)) [] []

-- the same outflow, with a cost of 1 on each of two notes, which a fund counts and the account does not; and with one that check 6 refuses
abbrev on_longer : (cost : ℤ) → CashAnswer
on_longer cost = cash_answer (numbers (longer (pos 1_080_000_001) true cost cost)) [] []

-- one payment a year, the same in every year, and an outflow in year 2
unfoldable pub paid_yearly : (years : ℕ) (payment outflow : ℤ) → Plan
paid_yearly years payment outflow = record {
  years = years;
  instruments = 1;
  terms = 1;
  patterns = 1;
  instrument = record { payments = replicate 30 payment } ∷ replicate 15 no_instrument;
  outflows = pos 0 ∷ outflow ∷ replicate 28 (pos 0);
  rollover = 1_000_000 ∷ replicate 29 0;
  pattern = replicate 64 no_pattern;
  allocation = 1_000_000 ∷ replicate 15 0;
  opening = None;
  cost = None;
}

-- 1000000000 in each of two years, at 5 percent: 2050000000 less the outflow, with a bound of 4
abbrev on_two_years : (outflow : ℤ) → CashAnswer
on_two_years outflow = cash_answer (numbers (paid_yearly 2 (pos 1_000_000_000) outflow)) (pos 50_000 ∷ []) (pos 100_000 ∷ [])

-- 20000000000 a year at 20 percent: 969932053790 after 13 years, and past 10^12 after 14
abbrev on_years : (years : ℕ) → CashAnswer
on_years years =
    let rates = replicate (years - 1) (pos 200_000) in
    cash_answer (numbers (paid_yearly years (pos 20_000_000_000) (pos 0))) rates rates

unfoldable pub call_cases : List Case
call_cases =
    record { given = (on_L (pos 60_000 ∷ []) (pos 90_000 ∷ [])).account; stated = negsuc 5_199_999 }
    ∷ record { given = (on_L (pos 60_000 ∷ []) (pos 90_000 ∷ [])).bound; stated = pos 4 }
    ∷ record { given = pos (on_L (pos 60_000 ∷ []) (pos 90_000 ∷ [])).word; stated = pos short }
    ∷ record { given = pos (on_renewed (pos 1)).word; stated = pos solvent }
    ∷ record { given = (on_renewed (pos 0)).account; stated = negsuc 0 }
    ∷ record { given = pos (on_renewed (pos 0)).word; stated = pos short }
    ∷ record { given = (on_longer (pos 1)).account; stated = negsuc 0 }
    ∷ record { given = (on_longer (pos 1)).bound; stated = pos 1 }
    ∷ record { given = pos (on_longer (negsuc 0)).refusal; stated = pos 6 }
    ∷ record { given = pos (on_two_years (pos 2_050_000_000)).word; stated = pos solvent }
    ∷ record { given = pos (on_two_years (pos 2_050_000_001)).word; stated = pos close }
    ∷ record { given = pos (on_two_years (pos 2_050_000_003)).word; stated = pos close }
    ∷ record { given = pos (on_two_years (pos 2_050_000_004)).word; stated = pos short }
    ∷ record { given = (on_years 13).account; stated = pos 969_932_053_790 }
    ∷ record { given = pos (on_years 14).refusal; stated = pos 11 }
    ∷ record { given = (on_years 14).account; stated = pos 0 }
    ∷ []

-- 5 for either list, 8 at both ends of the range, 14 for a borrowing rate one below; equal rates are taken; 8 comes before 14
unfoldable pub refusal_cases : List Case
refusal_cases =
    record { given = pos (on_L [] (pos 90_000 ∷ [])).refusal; stated = pos 5 }
    ∷ record { given = pos (on_L (pos 60_000 ∷ []) (pos 90_000 ∷ pos 90_000 ∷ [])).refusal; stated = pos 5 }
    ∷ record { given = pos (on_L (negsuc 0 ∷ []) (pos 90_000 ∷ [])).refusal; stated = pos 8 }
    ∷ record { given = pos (on_L (pos 60_000 ∷ []) (pos 200_001 ∷ [])).refusal; stated = pos 8 }
    ∷ record { given = pos (on_L (pos 200_001 ∷ []) (pos 200_000 ∷ [])).refusal; stated = pos 8 }
    ∷ record { given = pos (on_L (pos 60_000 ∷ []) (pos 59_999 ∷ [])).refusal; stated = pos 14 }
    ∷ record { given = (on_L (pos 60_000 ∷ []) (pos 59_999 ∷ [])).bound; stated = pos 0 }
    ∷ record { given = pos (on_L (pos 200_000 ∷ []) (pos 200_000 ∷ [])).refusal; stated = pos 0 }
    ∷ []

abbrev pub worked_cases : List Case
worked_cases = account_cases ++ (apart_cases ++ (call_cases ++ refusal_cases))
