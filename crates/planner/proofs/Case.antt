-- The starred cases of document 01, computed: one joint result over their list, and one each over those of money already invested, of the
-- cost at the horizon, of slopes and of level rates.
use mathlib.Core.Path.{◌≡◌, refl}
use mathlib.Core.Bool.{true}
use Prim.Native.Nat.{zero, suc}
use native.Mathlib.Omega.{arith}
use mathlib.Core.List.{Memᴰ}
use lib.IntN.{pos, one, pow}
use Rattle.whole.specs.Floor.{floor, share_of}
use Rattle.whole.specs.Sum.{sum, sum_ℕ, largest}
use Rattle.whole.specs.Course.{course, history}
use Rattle.whole.specs.Entry.{nth, cut, entry}
use Rattle.whole.specs.Test.{all, is_between, is_same}
use Rattle.whole.specs.Case.{Case, agree, share_cases}
use Rattle.whole.proofs.Case.{agree_at, agree_join, shares_agree}
use Rattle.reckoning.specs.Reckoning.{w, paid, left, flow, sent, alpha_step, alpha, fund}
use Rattle.reckoning.specs.Exact.{x, C, E_step, E, H, with_left}
use Rattle.reckoning.specs.Level.{Level, level_H}
use Rattle.reckoning.specs.Bound.{h, ceiling, G, B}
use Rattle.reckoning.specs.Arrays.{alphas_fit, fund_fits, fund_reckoned}
use Rattle.reckoning.specs.Case.{bound_cases, gamma_cases}
use Rattle.reckoning.proofs.Case.{bounds_agree, gammas_agree}
use Rattle.plan.specs.Held.{instruments_held, outflows_held, rollover_held, patterns_held, allocation_held, opening_held, cost_held}
use Rattle.plan.specs.Numbers.{slope, numbers}
use Rattle.plan.specs.Refusal.{head_ok, payments_ok, payments_fit, outflows_ok, opening_ok, cost_ok, amounts_ok, rollover_ok, untils_ok, rates_ok, rates_fit, allocation_ok, head_refusal, amounts_refusal, rates_refusal, allocation_refusal, refusal_of}
use Rattle.plan.specs.Case.{near_L, plan_L, renewed, one_year, longer, far_out, four_years, six_years}
use Rattle.patterns.specs.Pattern.{flow_of, exact_flow_of, exact_left_of, left_of, exact_at, fund_at, bound_at, coefficient_at, constant_at}
use Rattle.planner.specs.Calls.{call_refusal, exact_fund, fund_answer, bound_of}
use Rattle.planner.specs.Level.{level_fund, but_rollover, LevelPair}
use Rattle.planner.specs.Verdict.{word_of, word_at, fund_of, pattern_word}
use Rattle.planner.specs.Case.{fund_cases, word_cases, starred_cases, opening_cases, cost_cases, cost_limits, slope_cases, slope_refusals, after_one, in_thirds, level_cases}

funds_agree : agree fund_cases ≡ true
unfolding agree fund_cases is_same is_between fund_of fund_at flow_of instruments_held outflows_held rollover_held patterns_held allocation_held opening_held cost_held exact_left_of left_of left fund alpha alpha_step sent flow paid w floor
    share_of sum sum_ℕ course history nth cut entry plan_L near_L
funds_agree = refl

words_agree : agree word_cases ≡ true
unfolding agree word_cases is_same is_between pattern_word word_at word_of fund_at bound_at flow_of instruments_held outflows_held rollover_held patterns_held allocation_held opening_held cost_held exact_left_of left_of left fund alpha
    alpha_step sent flow paid w floor share_of h ceiling G B sum sum_ℕ largest course history nth cut entry one_year renewed
words_agree = refl

all_agree : agree starred_cases ≡ true
all_agree =
    agree_join share_cases _ shares_agree
    (agree_join bound_cases _ bounds_agree
    (agree_join gamma_cases _ gammas_agree
    (agree_join fund_cases _ funds_agree words_agree)))

-- in every starred case the definitions give what the paper states
pub starred : (c : Case) → Memᴰ c starred_cases → c.given ≡ c.stated
starred c = agree_at starred_cases c all_agree

openings_agree : agree opening_cases ≡ true
unfolding agree opening_cases is_same is_between pattern_word word_at word_of fund_at bound_at constant_at flow_of exact_flow_of instruments_held outflows_held rollover_held patterns_held
    allocation_held opening_held cost_held exact_left_of left_of left fund alpha alpha_step sent flow x paid w floor share_of h ceiling G B sum sum_ℕ largest course history nth cut entry renewed
openings_agree = refl

-- and in those of money already invested
pub opening_stated : (c : Case) → Memᴰ c opening_cases → c.given ≡ c.stated
opening_stated c = agree_at opening_cases c openings_agree

costs_agree : agree cost_cases ≡ true
unfolding agree cost_cases is_same is_between all pattern_word word_at word_of fund_of fund_at bound_of bound_at exact_fund exact_at with_left H E E_step C coefficient_at constant_at flow_of exact_flow_of instruments_held
    outflows_held rollover_held patterns_held allocation_held opening_held cost_held exact_left_of left_of left fund alpha alpha_step sent flow x paid w floor share_of h ceiling G B refusal_of head_refusal
    amounts_refusal rates_refusal allocation_refusal head_ok payments_ok payments_fit outflows_ok opening_ok cost_ok amounts_ok rollover_ok untils_ok rates_ok rates_fit allocation_ok sum sum_ℕ largest course
    history nth cut entry longer
costs_agree = refl

limits_agree : agree cost_limits ≡ true
unfolding agree cost_limits is_same is_between all fund_answer call_refusal fund_reckoned fund_fits alphas_fit flow_of instruments_held outflows_held rollover_held patterns_held allocation_held opening_held cost_held
    exact_left_of left_of left fund alpha alpha_step sent flow paid w floor share_of refusal_of head_refusal amounts_refusal rates_refusal allocation_refusal head_ok payments_ok payments_fit outflows_ok opening_ok
    cost_ok amounts_ok rollover_ok untils_ok rates_ok rates_fit allocation_ok sum sum_ℕ course history nth cut entry far_out
limits_agree = refl

-- and in those of the cost
pub cost_stated : (c : Case) → Memᴰ c cost_cases → c.given ≡ c.stated
cost_stated c = agree_at cost_cases c costs_agree

pub cost_limited : (c : Case) → Memᴰ c cost_limits → c.given ≡ c.stated
cost_limited c = agree_at cost_limits c limits_agree

slopes_agree : agree slope_cases ≡ true
unfolding agree slope_cases is_same is_between fund_of fund_at flow_of instruments_held outflows_held rollover_held patterns_held allocation_held opening_held cost_held exact_left_of left_of left slope fund alpha alpha_step sent flow
    paid w floor share_of sum sum_ℕ course history nth cut entry four_years
slopes_agree = refl

slope_refusals_agree : agree slope_refusals ≡ true
unfolding agree slope_refusals is_same is_between all instruments_held outflows_held rollover_held patterns_held allocation_held opening_held cost_held slope refusal_of head_refusal amounts_refusal
    rates_refusal allocation_refusal head_ok payments_ok payments_fit outflows_ok opening_ok cost_ok amounts_ok rollover_ok untils_ok rates_ok rates_fit allocation_ok sum_ℕ nth cut entry four_years
slope_refusals_agree = refl

-- and in those of slopes
pub slope_stated : (c : Case) → Memᴰ c slope_cases → c.given ≡ c.stated
slope_stated c = agree_at slope_cases c slopes_agree

pub slope_refused : (c : Case) → Memᴰ c slope_refusals → c.given ≡ c.stated
slope_refused c = agree_at slope_refusals c slope_refusals_agree

levels_agree : agree level_cases ≡ true
unfolding agree level_cases is_same is_between fund_of fund_at bound_of bound_at exact_fund exact_at level_fund level_H with_left H E E_step C flow_of exact_flow_of instruments_held outflows_held rollover_held patterns_held allocation_held opening_held cost_held exact_left_of left_of left slope fund alpha alpha_step sent flow x
    paid w floor share_of h ceiling G B one pow sum sum_ℕ largest course history nth cut entry six_years
levels_agree = refl

-- and in those of level rates
pub level_stated : (c : Case) → Memᴰ c level_cases → c.given ≡ c.stated
level_stated c = agree_at level_cases c levels_agree

-- two of these plans are a pair, with another rollover each, and the fund's call accepts both: what is said of pairs is said of them
others_same : but_rollover (numbers after_one) ≡ but_rollover (numbers in_thirds)
unfolding instruments_held outflows_held patterns_held allocation_held opening_held cost_held six_years
others_same = refl

rates_level : Level ((numbers after_one).i 1) (numbers after_one).years (pos 50_000)
unfolding patterns_held nth cut entry six_years
rates_level zero some few = absurd (omega arith)
rates_level (suc zero) some few = absurd (omega arith)
rates_level (suc (suc zero)) some few = refl
rates_level (suc (suc (suc zero))) some few = refl
rates_level (suc (suc (suc (suc zero)))) some few = refl
rates_level (suc (suc (suc (suc (suc zero))))) some few = refl
rates_level (suc (suc (suc (suc (suc (suc zero)))))) some few = refl
rates_level (suc (suc (suc (suc (suc (suc (suc k))))))) some few = absurd (omega arith)

pub level_pair : LevelPair (numbers after_one) (numbers in_thirds) 1
level_pair = record { others = others_same; rate = pos 50_000; level = rates_level }

pub other_rollover : (numbers after_one).r 1 ≡ (numbers in_thirds).r 1 → ⊥
unfolding rollover_held nth cut entry six_years
other_rollover e = omega arith

pub both_accepted : ((fund_answer (numbers after_one) 1).refusal ≡ 0) × ((fund_answer (numbers in_thirds) 1).refusal ≡ 0)
unfolding is_between all fund_answer call_refusal fund_reckoned fund_fits alphas_fit flow_of instruments_held outflows_held rollover_held patterns_held allocation_held opening_held cost_held exact_left_of left_of left slope fund alpha alpha_step sent flow
    paid w floor share_of refusal_of head_refusal amounts_refusal rates_refusal allocation_refusal head_ok payments_ok payments_fit outflows_ok opening_ok cost_ok amounts_ok rollover_ok untils_ok rates_ok rates_fit allocation_ok sum sum_ℕ course history nth cut entry six_years
both_accepted = (refl, refl)
