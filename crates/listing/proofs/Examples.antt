-- Document 01's case L, computed from the definitions: what its 104 bytes are read as, how that plan is judged, and what is printed.
-- Beside it a refusal's line, and the least number of 64 bits.
use mathlib.Core.Path.{◌≡◌, refl, ap, ◌∙◌}
use mathlib.Core.List.{List, [], ◌∷◌}
use Prim.Native.Nat.{ℕ}
use lib.Count.{ones, ones_in, count_trailing_zeros}
use lib.IntN.{ℤ, pos, negsuc}
use lib.ListN.{get_or, replicate}
use Rattle.whole.specs.Floor.{floor, share_of}
use Rattle.whole.specs.Sum.{sum, sum_ℕ, largest}
use Rattle.whole.specs.Course.{course, history}
use Rattle.whole.specs.Entry.{nth, cut, entry}
use Rattle.whole.specs.Table.{table}
use Rattle.whole.specs.Test.{all, is_between}
use Rattle.reckoning.specs.Reckoning.{w, paid, left, flow, sent, alpha_step, alpha, fund}
use Rattle.reckoning.specs.Bound.{h, ceiling, G, B}
use Rattle.reckoning.specs.Arrays.{alphas_fit, fund_fits}
use Rattle.plan.specs.Held.{no_plan, instruments_held, outflows_held, rollover_held, patterns_held, allocation_held, opening_held, cost_held}
use Rattle.plan.specs.Numbers.{numbers}
use Rattle.plan.specs.Refusal.{answer, head_ok, payments_fit, payments_ok, outflows_ok, opening_ok, cost_ok, amounts_ok, rollover_ok, untils_ok, rates_fit, rates_ok, allocation_ok, head_refusal, amounts_refusal, rates_refusal, allocation_refusal, refusal_of}
use Rattle.plan.specs.declared.Plan.{Plan}
use Rattle.plan.proofs.Checks.{answer_accepted}
use Rattle.patterns.specs.Pattern.{flow_of, exact_left_of, left_of, fund_at, bound_at, coefficient_at, constant_at, flow_fits, coefficients_fit, constant_fits, coefficients_at}
use Rattle.planner.specs.Calls.{bound_of}
use Rattle.planner.specs.Verdict.{
  word_of,
  bits_of,
  no_pattern_row,
  row_fits,
  word_at,
  row_at,
  fund_of,
  pattern_word,
  row_of,
  verdict_refusal,
  short_bits,
  plan_word,
  verdict_answer,
  rows_of,
  judgement_of,
}
use Rattle.planner.specs.Answers.{PatternRow}
use Rattle.planner.specs.Answers.{Judgement}
use Rattle.planfile.specs.Read.{read_refusal, read_answer}
use Rattle.planfile.specs.Answers.{ReadAnswer}
use Rattle.plan.specs.Case.{near_L, plan_L}
use Rattle.planfile.proofs.Examples.{file_L, read_L, refused_near}
use Rattle.listing.specs.Text.{
  digits_in,
  signed_text,
  word_text,
  fields,
  amounts_text,
  line_text,
  lines_text,
  lowest_short,
  last_text,
  refused_text,
  judgement_text,
  plan_text,
  text_of,
}

-- a row of L: B is 8 and Q is -1160000000 in both patterns
unfoldable pub row_L : (word : ℕ) → (fund K₁ K₂ : ℤ) → PatternRow
row_L word z k₁ k₂ =
    record { word = word; fund = z; bound = pos 8; coefficients = k₁ ∷ k₂ ∷ replicate 14 (pos 0); constant = negsuc 1_159_999_999 }

unfoldable pub judgement_L : Judgement
judgement_L = record {
  verdict = record { refusal = 0; words = 2 ∷ 1 ∷ replicate 62 0; short = 1; word = 2 };
  rows =
      row_L 2 (negsuc 5_199_999) (pos 1_144_800_000) (pos 1_164_800_000)
      ∷ row_L 1 (pos 12_200_000) (pos 1_177_200_000) (pos 1_167_200_000)
      ∷ replicate 62 no_pattern_row;
}

unfoldable pub text_L_law : List ℕ
text_L_law =
    -- 1 short -5200000 8 1144800000 1164800000 -1160000000
    49 ∷ 32 ∷ 115 ∷ 104 ∷ 111 ∷ 114 ∷ 116 ∷ 32 ∷ 45 ∷ 53 ∷ 50 ∷ 48 ∷ 48 ∷ 48 ∷ 48 ∷ 48 ∷ 32 ∷ 56 ∷ 32 ∷ 49 ∷ 49 ∷ 52 ∷ 52 ∷ 56 ∷ 48 ∷ 48 ∷ 48 ∷ 48 ∷ 48 ∷ 32 ∷ 49 ∷ 49 ∷ 54 ∷ 52 ∷ 56 ∷ 48 ∷ 48 ∷ 48 ∷ 48 ∷ 48 ∷ 32 ∷ 45 ∷ 49 ∷ 49 ∷ 54 ∷ 48 ∷ 48 ∷ 48 ∷ 48 ∷ 48 ∷ 48 ∷ 48 ∷ 10
    -- 2 solvent 12200000 8 1177200000 1167200000 -1160000000
    ∷ 50 ∷ 32 ∷ 115 ∷ 111 ∷ 108 ∷ 118 ∷ 101 ∷ 110 ∷ 116 ∷ 32 ∷ 49 ∷ 50 ∷ 50 ∷ 48 ∷ 48 ∷ 48 ∷ 48 ∷ 48 ∷ 32 ∷ 56 ∷ 32 ∷ 49 ∷ 49 ∷ 55 ∷ 55 ∷ 50 ∷ 48 ∷ 48 ∷ 48 ∷ 48 ∷ 48 ∷ 32 ∷ 49 ∷ 49 ∷ 54 ∷ 55 ∷ 50 ∷ 48 ∷ 48 ∷ 48 ∷ 48 ∷ 48 ∷ 32 ∷ 45 ∷ 49 ∷ 49 ∷ 54 ∷ 48 ∷ 48 ∷ 48 ∷ 48 ∷ 48 ∷ 48 ∷ 48 ∷ 10
    -- short 1 1
    ∷ 115 ∷ 104 ∷ 111 ∷ 114 ∷ 116 ∷ 32 ∷ 49 ∷ 32 ∷ 49 ∷ 10
    ∷ []

pub text_L : judgement_text 2 2 judgement_L ≡ text_L_law
unfolding judgement_text lines_text line_text amounts_text fields signed_text digits_in word_text last_text lowest_short ones ones_in count_trailing_zeros judgement_L row_L text_L_law
text_L = refl

pub judged_L : judgement_of (numbers plan_L) ≡ judgement_L
unfolding judgement_of verdict_answer verdict_refusal rows_of row_of row_at row_fits fund_of pattern_word word_at short_bits plan_word word_of bits_of
    flow_of fund_at bound_at coefficient_at constant_at flow_fits coefficients_fit constant_fits coefficients_at bound_of
    refusal_of head_refusal amounts_refusal rates_refusal allocation_refusal head_ok payments_ok payments_fit outflows_ok opening_ok cost_ok amounts_ok rollover_ok untils_ok rates_ok rates_fit allocation_ok
    instruments_held outflows_held rollover_held patterns_held allocation_held opening_held cost_held exact_left_of left_of left
    fund_fits alphas_fit fund alpha alpha_step sent flow paid w h ceiling G B floor share_of sum sum_ℕ largest course history nth cut entry table all is_between
    plan_L near_L judgement_L row_L
judged_L = refl

answered_L : read_answer file_L ≡ record { refusal = 0; plan = plan_L }
unfolding read_answer
answered_L =
    let none : read_refusal file_L ≡ 0 = ap (λ (l : List ℕ). get_or l 0 1) refused_near in
    answer_accepted (λ (n : ℕ). record { refusal = n; plan = no_plan }) (read_refusal file_L) _ none ∙ ap (λ (plan : Plan). record { refusal = 0; plan = plan }) read_L

-- from the bytes of the file to the bytes that are printed
pub printed_L : text_of file_L ≡ text_L_law
unfolding text_of plan_L near_L
printed_L =
    ap (λ (a : ReadAnswer). answer refused_text a.refusal (plan_text a.plan)) answered_L
    ∙ ap (judgement_text 2 2) judged_L
    ∙ text_L

-- refused 11
pub refused_11 : refused_text 11 ≡ 114 ∷ 101 ∷ 102 ∷ 117 ∷ 115 ∷ 101 ∷ 100 ∷ 32 ∷ 49 ∷ 49 ∷ 10 ∷ []
unfolding refused_text digits_in
refused_11 = refl

-- -9223372036854775808
pub least_number : signed_text (negsuc 9_223_372_036_854_775_807)
    ≡ 45 ∷ 57 ∷ 50 ∷ 50 ∷ 51 ∷ 51 ∷ 55 ∷ 50 ∷ 48 ∷ 51 ∷ 54 ∷ 56 ∷ 53 ∷ 52 ∷ 55 ∷ 55 ∷ 53 ∷ 56 ∷ 48 ∷ 56 ∷ []
unfolding signed_text digits_in
least_number = refl
