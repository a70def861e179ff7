-- The worked cases of the search, computed.
use mathlib.Core.Path.{◌≡◌, refl}
use mathlib.Core.Bool.{true}
use mathlib.Core.List.{Memᴰ}
use Rattle.whole.specs.Floor.{floor, share_of}
use Rattle.whole.specs.Sum.{sum, sum_ℕ, largest}
use Rattle.whole.specs.Course.{course, history}
use Rattle.whole.specs.Entry.{nth, cut, entry}
use Rattle.whole.specs.Table.{table}
use Rattle.whole.specs.Test.{all, is_between, is_same}
use Rattle.whole.specs.Case.{Case, agree}
use Rattle.whole.proofs.Case.{agree_at, agree_join}
use Rattle.reckoning.specs.Reckoning.{w, paid, left, flow, sent, alpha_step, alpha, fund}
use Rattle.reckoning.specs.Bound.{h, ceiling, G, B}
use Rattle.reckoning.specs.Arrays.{alphas_fit, fund_fits}
use Rattle.plan.specs.Held.{instruments_held, outflows_held, rollover_held, patterns_held, allocation_held, opening_held, cost_held}
use Rattle.plan.specs.Refusal.{head_ok, payments_ok, payments_fit, outflows_ok, opening_ok, cost_ok, amounts_ok, rollover_ok, untils_ok, rates_ok, rates_fit, allocation_ok, head_refusal, amounts_refusal, rates_refusal, allocation_refusal, refusal_of}
use Rattle.plan.specs.Case.{near_L, plan_L, renewed, one_year, longer}
use Rattle.patterns.specs.Pattern.{flow_of, exact_left_of, left_of, fund_at, bound_at, flow_fits, coefficients_fit, constant_fits}
use Rattle.planner.specs.Verdict.{word_of, bits_of, row_fits, word_at, pattern_word, verdict_refusal, short_bits, plan_word, verdict_answer}
use Rattle.finder.specs.Grid.{down_from, splits, allocation_of, allocations}
use Rattle.finder.specs.Find.{solvent_with, first_that, is_among, parts_taken, find_refusal, find_answer}
use Rattle.finder.specs.Case.{paid_yearly, grid_cases, find_cases, limit_cases, refusal_cases, worked_cases}

grids_agree : agree grid_cases ≡ true
unfolding agree grid_cases is_same is_between down_from splits allocation_of allocations table
grids_agree = refl

finds_agree : agree find_cases ≡ true
unfolding agree find_cases is_same is_between find_answer find_refusal first_that is_among parts_taken solvent_with allocations down_from splits allocation_of table verdict_answer verdict_refusal plan_word short_bits
    bits_of pattern_word word_at word_of row_fits flow_fits coefficients_fit constant_fits fund_fits alphas_fit fund_at bound_at flow_of fund alpha alpha_step sent flow paid w h ceiling G B floor
    share_of sum sum_ℕ largest course history nth cut entry all refusal_of head_refusal amounts_refusal rates_refusal allocation_refusal head_ok payments_ok payments_fit outflows_ok opening_ok cost_ok
    amounts_ok rollover_ok untils_ok rates_ok rates_fit allocation_ok instruments_held outflows_held rollover_held patterns_held allocation_held opening_held cost_held exact_left_of left_of left plan_L near_L one_year renewed longer
finds_agree = refl

limits_agree : agree limit_cases ≡ true
unfolding agree limit_cases is_same is_between find_answer find_refusal first_that is_among parts_taken solvent_with allocations down_from splits allocation_of table verdict_answer verdict_refusal plan_word short_bits
    bits_of pattern_word word_at word_of row_fits flow_fits coefficients_fit constant_fits fund_fits alphas_fit fund_at bound_at flow_of fund alpha alpha_step sent flow paid w h ceiling G B floor
    share_of sum sum_ℕ largest course history nth cut entry all refusal_of head_refusal amounts_refusal rates_refusal allocation_refusal head_ok payments_ok payments_fit outflows_ok opening_ok cost_ok
    amounts_ok rollover_ok untils_ok rates_ok rates_fit allocation_ok instruments_held outflows_held rollover_held patterns_held allocation_held opening_held cost_held exact_left_of left_of left paid_yearly
limits_agree = refl

refusals_agree : agree refusal_cases ≡ true
unfolding agree refusal_cases is_same is_between find_answer find_refusal first_that is_among parts_taken solvent_with allocations down_from splits allocation_of table verdict_answer verdict_refusal plan_word short_bits
    bits_of pattern_word word_at word_of row_fits flow_fits coefficients_fit constant_fits fund_fits alphas_fit fund_at bound_at flow_of fund alpha alpha_step sent flow paid w h ceiling G B floor
    share_of sum sum_ℕ largest course history nth cut entry all refusal_of head_refusal amounts_refusal rates_refusal allocation_refusal head_ok payments_ok payments_fit outflows_ok opening_ok cost_ok
    amounts_ok rollover_ok untils_ok rates_ok rates_fit allocation_ok instruments_held outflows_held rollover_held patterns_held allocation_held opening_held cost_held exact_left_of left_of left plan_L near_L one_year renewed
refusals_agree = refl

-- in every worked case the definitions give what is stated
pub worked : (c : Case) → Memᴰ c worked_cases → c.given ≡ c.stated
worked c = agree_at worked_cases c
    (agree_join grid_cases _ grids_agree
    (agree_join find_cases _ finds_agree
    (agree_join limit_cases _ limits_agree refusals_agree)))
