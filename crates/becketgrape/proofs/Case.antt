-- The worked cases of what is not held, computed; and the files of arrays that carry numbers where nothing is held.
use mathlib.Core.Path.{◌≡◌, refl}
use mathlib.Core.Bool.{true}
use mathlib.Core.List.{List, [], ◌∷◌, ◌++◌, map, Memᴰ}
use Prim.Native.Nat.{ℕ}
use lib.IntN.{pos, negsuc}
use Rattle.whole.specs.Floor.{floor, share_of}
use Rattle.whole.specs.Sum.{sum, sum_ℕ, largest}
use Rattle.whole.specs.Course.{course, history}
use Rattle.whole.specs.Entry.{nth, cut, entry}
use Rattle.whole.specs.Table.{table}
use Rattle.whole.specs.Test.{all, is_between, is_same}
use Rattle.whole.specs.Case.{Case, agree}
use Rattle.whole.proofs.Case.{agree_at, agree_join}
use Rattle.little_endian.specs.LittleEndian.{bytes_of}
use Rattle.little_endian.specs.TwosComplement.{unsigned_of}
use Rattle.little_endian.specs.Runs.{run}
use Rattle.records.specs.Record.{record_bytes, file_bytes}
use Rattle.reckoning.specs.Reckoning.{w, paid, left, flow, sent, alpha_step, alpha, fund}
use Rattle.reckoning.specs.Bound.{h, ceiling, G, B}
use Rattle.reckoning.specs.Arrays.{alphas_fit, fund_fits, fund_reckoned}
use Rattle.plan.specs.Held.{instruments_held, outflows_held, rollover_held, patterns_held, allocation_held, opening_held, cost_held, held}
use Rattle.plan.specs.Refusal.{head_ok, payments_ok, payments_fit, outflows_ok, opening_ok, cost_ok, amounts_ok, rollover_ok, untils_ok, rates_ok, rates_fit, allocation_ok, head_refusal, amounts_refusal, rates_refusal, allocation_refusal, refusal_of}
use Rattle.plan.specs.Case.{renewed, longer, far_out, sloping}
use Rattle.patterns.specs.Pattern.{flow_of, exact_left_of, left_of, fund_at, bound_at, flow_fits, coefficients_fit, constant_fits}
use Rattle.planner.specs.Calls.{call_refusal, fund_answer, bound_of}
use Rattle.planner.specs.Verdict.{word_of, bits_of, row_fits, word_at, pattern_word, verdict_refusal, short_bits, plan_word, verdict_answer}
use Rattle.finder.specs.Grid.{down_from, splits, allocation_of, allocations}
use Rattle.finder.specs.Find.{solvent_with, first_that, is_among, parts_taken, find_refusal, find_answer}
use Rattle.planfile.specs.Groups.{groups_of, laid}
use Rattle.planfile.specs.Rows.{instrument_rec, pattern_rec}
use Rattle.planfile.specs.Records.{file_from, record_of, file_of}
use Rattle.planfile.proofs.Examples.{renewed_before, opening_two, renewed_rollover, renewed_after, lasting, opening_twice, cost_left, lasting_file, lasting_files, sloping_before, slope_down, sloping_list, sloping_after}
use Rattle.arrays.specs.Arrays.{joined, values_at, of_each, all_counts, all_amounts, all_rates, instruments_of, patterns_of, plan_of_arrays}
use Rattle.arrays.specs.Lent.{Lent, plan_in}
use Rattle.becketgrape.specs.Case.{opened_by, both_by, sloping_by, unheld_openings, unheld_costs, unheld_searches, unheld_cases}

openings_agree : agree unheld_openings ≡ true
unfolding agree unheld_openings is_same is_between all pattern_word word_at word_of fund_at bound_at flow_of instruments_held outflows_held rollover_held patterns_held
    allocation_held opening_held cost_held exact_left_of left_of left fund alpha alpha_step sent flow paid w floor share_of h ceiling G B refusal_of head_refusal
    amounts_refusal rates_refusal allocation_refusal head_ok payments_ok payments_fit outflows_ok opening_ok cost_ok amounts_ok rollover_ok untils_ok rates_ok rates_fit allocation_ok sum sum_ℕ largest course
    history nth cut entry table renewed joined values_at of_each all_counts all_amounts all_rates instruments_of patterns_of plan_of_arrays
openings_agree = refl

costs_agree : agree unheld_costs ≡ true
unfolding agree unheld_costs is_same is_between all pattern_word word_at word_of fund_at bound_of bound_at fund_answer call_refusal fund_reckoned fund_fits alphas_fit flow_of instruments_held outflows_held rollover_held patterns_held
    allocation_held opening_held cost_held exact_left_of left_of left fund alpha alpha_step sent flow paid w floor share_of h ceiling G B refusal_of head_refusal
    amounts_refusal rates_refusal allocation_refusal head_ok payments_ok payments_fit outflows_ok opening_ok cost_ok amounts_ok rollover_ok untils_ok rates_ok rates_fit allocation_ok sum sum_ℕ largest course
    history nth cut entry table longer far_out joined values_at of_each all_counts all_amounts all_rates instruments_of patterns_of plan_of_arrays
costs_agree = refl

searches_agree : agree unheld_searches ≡ true
unfolding agree unheld_searches is_same is_between find_answer find_refusal first_that is_among parts_taken solvent_with allocations down_from splits allocation_of table verdict_answer verdict_refusal plan_word short_bits
    bits_of pattern_word word_at word_of row_fits flow_fits coefficients_fit constant_fits fund_fits alphas_fit fund_at bound_at flow_of fund alpha alpha_step sent flow paid w h ceiling G B floor
    share_of sum sum_ℕ largest course history nth cut entry all refusal_of head_refusal amounts_refusal rates_refusal allocation_refusal head_ok payments_ok payments_fit outflows_ok opening_ok cost_ok
    amounts_ok rollover_ok untils_ok rates_ok rates_fit allocation_ok instruments_held outflows_held rollover_held patterns_held allocation_held opening_held cost_held exact_left_of left_of left longer
    joined values_at of_each all_counts all_amounts all_rates instruments_of patterns_of plan_of_arrays
searches_agree = refl

-- what is not held is not counted, and no check looks at it
pub unheld_stated : (c : Case) → Memᴰ c unheld_cases → c.given ≡ c.stated
unheld_stated c = agree_at unheld_cases c (agree_join unheld_openings _ openings_agree (agree_join unheld_costs unheld_searches costs_agree searches_agree))

-- the file of arrays is written with the record where the count says so, and without where it does not, whatever stands there then
pub unheld_renewed : map (λ opened. file_of (held (plan_in (opened_by opened (renewed (pos 1_080_000_002) true (pos 2)))))) (1 ∷ 0 ∷ [])
    ≡ (renewed_before ++ opening_two ++ renewed_rollover ++ renewed_after) ∷ (renewed_before ++ renewed_rollover ++ renewed_after) ∷ []
unfolding file_of file_from file_bytes record_bytes groups_of laid table record_of instrument_rec pattern_rec nth run bytes_of unsigned_of
    instruments_held outflows_held rollover_held patterns_held allocation_held opening_held entry cut renewed renewed_before opening_two renewed_rollover renewed_after
    joined values_at of_each all_counts all_amounts all_rates instruments_of patterns_of plan_of_arrays
unheld_renewed = refl

-- so it is with both records
pub unheld_lasting : map (λ A. file_of (held (plan_in A)))
    (let p = lasting true (pos 2) true (pos 1_000_000_000) in both_by 0 0 p ∷ both_by 1 0 p ∷ both_by 0 1 p ∷ both_by 1 1 p ∷ [])
    ≡ lasting_files
unfolding file_of file_from file_bytes record_bytes groups_of laid table record_of instrument_rec pattern_rec nth run bytes_of unsigned_of
    instruments_held outflows_held rollover_held patterns_held allocation_held opening_held cost_held entry cut lasting opening_twice cost_left lasting_file
    joined values_at of_each all_counts all_amounts all_rates instruments_of patterns_of plan_of_arrays
unheld_lasting = refl

-- and with the kinds of its patterns, whatever stands there for the other kind
pub unheld_sloping : map (λ other. file_of (held (plan_in (sloping_by other (sloping (pos 65_000) (negsuc 2_499) 2 other))))) (0 ∷ 31 ∷ [])
    ≡ (sloping_before ++ slope_down ++ sloping_list ++ sloping_after) ∷ (sloping_before ++ slope_down ++ sloping_list ++ sloping_after) ∷ []
unfolding file_of file_from file_bytes record_bytes groups_of laid table record_of instrument_rec pattern_rec nth run bytes_of unsigned_of
    instruments_held outflows_held rollover_held patterns_held allocation_held entry cut sloping sloping_before slope_down sloping_list sloping_after
    joined values_at of_each all_counts all_amounts all_rates instruments_of patterns_of plan_of_arrays
unheld_sloping = refl
