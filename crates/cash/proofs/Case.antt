-- The worked cases of the cash account, computed.
use mathlib.Core.Path.{◌≡◌, refl}
use mathlib.Core.Bool.{true}
use mathlib.Core.List.{Memᴰ}
use Rattle.whole.specs.Floor.{floor, share_of}
use Rattle.whole.specs.Sum.{sum, sum_ℕ, largest}
use Rattle.whole.specs.Entry.{nth, cut, entry}
use Rattle.whole.specs.Test.{all, is_between, is_same}
use Rattle.whole.specs.Case.{Case, agree}
use Rattle.whole.proofs.Case.{agree_at, agree_join}
use Rattle.reckoning.specs.Reckoning.{flow, paid}
use Rattle.reckoning.specs.Bound.{h as largestRate, ceiling}
use Rattle.reckoning.specs.Arrays.{rates_of}
use Rattle.plan.specs.Held.{instruments_held, outflows_held, rollover_held, patterns_held, allocation_held, opening_held, cost_held}
use Rattle.plan.specs.Refusal.{head_ok, payments_ok, payments_fit, outflows_ok, opening_ok, cost_ok, amounts_ok, rollover_ok, untils_ok, rates_ok, rates_fit, allocation_ok, head_refusal, amounts_refusal, rates_refusal, allocation_refusal, refusal_with}
use Rattle.plan.specs.Case.{near_L, plan_L, renewed, longer}
use Rattle.patterns.specs.Pattern.{flow_of}
use Rattle.planner.specs.Verdict.{word_of}
use Rattle.cash.specs.Account.{rate_for, next, exact_next, account, X, h, g}
use Rattle.cash.specs.Call.{lengths_refusal, list_ok, is_in_order, lists_refusal, accounts_fit, cash_reckoned, shape_refusal, numbers_refusal, cash_at, cash_answer}
use Rattle.cash.specs.Case.{paid_yearly, account_cases, apart_cases, call_cases, refusal_cases, worked_cases}

accounts_agree : agree account_cases ≡ true
unfolding agree account_cases is_same is_between account X g rate_for next exact_next ceiling floor share_of rates_of nth
accounts_agree = refl

aparts_agree : agree apart_cases ≡ true
unfolding agree apart_cases is_same is_between account X rate_for next exact_next floor share_of rates_of nth
aparts_agree = refl

calls_agree : agree call_cases ≡ true
unfolding agree call_cases is_same is_between account g h largestRate largest rate_for next ceiling floor share_of rates_of nth cash_answer shape_refusal lengths_refusal cash_at numbers_refusal refusal_with lists_refusal
    list_ok is_in_order cash_reckoned accounts_fit word_of all head_refusal amounts_refusal rates_refusal allocation_refusal head_ok payments_ok payments_fit outflows_ok opening_ok cost_ok amounts_ok rollover_ok
    untils_ok rates_ok rates_fit allocation_ok flow_of flow paid instruments_held outflows_held rollover_held patterns_held allocation_held opening_held cost_held sum sum_ℕ cut entry plan_L near_L renewed longer paid_yearly
calls_agree = refl

refusals_agree : agree refusal_cases ≡ true
unfolding agree refusal_cases is_same is_between account g h largestRate largest rate_for next ceiling floor share_of rates_of nth cash_answer shape_refusal lengths_refusal cash_at numbers_refusal refusal_with lists_refusal
    list_ok is_in_order cash_reckoned accounts_fit word_of all head_refusal amounts_refusal rates_refusal allocation_refusal head_ok payments_ok payments_fit outflows_ok opening_ok cost_ok amounts_ok rollover_ok
    untils_ok rates_ok rates_fit allocation_ok flow_of flow paid instruments_held outflows_held rollover_held patterns_held allocation_held opening_held cost_held sum sum_ℕ cut entry plan_L near_L
refusals_agree = refl

-- in every worked case the definitions give what is stated
pub worked : (c : Case) → Memᴰ c worked_cases → c.given ≡ c.stated
worked c = agree_at worked_cases c
    (agree_join account_cases _ accounts_agree
    (agree_join apart_cases _ aparts_agree
    (agree_join call_cases _ calls_agree refusals_agree)))
