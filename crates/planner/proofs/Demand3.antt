-- Demand 3: the fund and the form that a call answers lie below the exact fund of the plan, by less than their bounds, and the
-- verdict's words are true of it.
use mathlib.Core.Path.{◌≡◌, refl, sym, ap, ◌∙◌, subst}
use mathlib.Core.Bool.{Bool, true, false}
use Prim.Native.Nat.{ℕ, ◌+◌, ◌-◌, ◌*◌, ◌^◌, ◌≤◌}
use native.Mathlib.Omega.{arith}
use borrow.Author.Tests.{eqb-true}
use lib.Count.{count_trailing_zeros}
use lib.Dec.{eqb}
use lib.ListN.{get_or}
use lib.IntN.{ℤ, pos, zero-*ℤ}
use lib.Signed.{◌≤ℤ◌, ◌<ℤ◌}
use Rattle.std.specs.Prelude.{is_some}
use Rattle.whole.specs.Range.{million}
use Rattle.whole.specs.Floor.{floor}
use Rattle.whole.specs.Sum.{Σℕ}
use Rattle.whole.specs.Test.{both}
use Rattle.whole.proofs.Bridge.{whole}
use Rattle.whole.proofs.Range.{within_abs}
use Rattle.whole.proofs.Test.{picked_is, from_yes, all_yes, le_le_Z}
use Rattle.whole.proofs.Table.{table_at}
use Rattle.reckoning.specs.Reckoning.{left}
use Rattle.reckoning.specs.Theorem.{Given, Rounded, FromBelow, none_negative, Close}
use Rattle.reckoning.specs.Answers.{Reckoned}
use Rattle.reckoning.proofs.Pattern.{shares_le}
use Rattle.reckoning.proofs.Theorem.{fund_close, form_close, amounts_close, constant_close, flow_floors, left_rounded, none_rounded, left_parts, exactly_solvent, exactly_short}
use Rattle.plan.specs.Held.{flag, PlainHeld, held}
use Rattle.plan.specs.Numbers.{Numbers, numbers}
use Rattle.plan.specs.Refusal.{refusal_of, Accepted}
use Rattle.plan.specs.declared.Plan.{Plan}
use Rattle.plan.proofs.Checks.{first_none, answer_accepted, not_refused, accepted}
use Rattle.patterns.specs.Pattern.{no_form, shared_of, flow_of, exact_flow_of, exact_left_of, left_of, exact_at, fund_at, bound_at, coefficient_at, constant_at, value_at, coefficients_fit, constant_fits, form_reckoned}
use Rattle.patterns.specs.Answers.{FormAnswer}
use Rattle.patterns.proofs.Held.{terms, rollover_held_law}
use Rattle.patterns.proofs.Reckoned.{reckoned_is}
use Rattle.patterns.proofs.Weighing.{no_left}
use Rattle.planner.specs.Calls.{
  no_fund,
  no_bound,
  call_refusal,
  exact_fund,
  fund_answer,
  bound_of,
  bound_answer,
  form_answer,
}
use Rattle.planner.specs.Verdict.{
  solvent,
  short,
  bits_of,
  plan_word_of,
  no_verdict,
  word_at,
  row_at,
  fund_of,
  pattern_word,
  row_of,
  verdict_refusal,
  short_bits,
  plan_word,
  verdict_answer,
}
use Rattle.planner.specs.Demand3.{FundNear, FormNear, ShortPattern, VerdictTrue}
use Rattle.planner.specs.Plain.{PlainFlow, PlainHorizon, Plain}
use Rattle.planner.specs.Alike.{Alike}
use Rattle.planner.specs.Answers.{VerdictAnswer}
use Rattle.planner.proofs.Answers.{refused_none, called}
use Rattle.planner.proofs.Bits.{Lowest, bits_lowest}
use Rattle.planner.proofs.VerdictLaws.{verdict_by, word_solvent, word_short, plan_solvent, plan_short}
use Rattle.planner.proofs.Plain.{flow_plan, horizon_plan, plain_plan}
use Rattle.planner.proofs.Alike.{alike}

module _ (plan : Plan) (t : ℕ) where
  abbrev P : Numbers
  P = numbers plan

  -- ---- what the theorem says of an accepted plan
  module _ (ok : Accepted P) where
    pub given : Given P.r (P.i t) P.years
    given = record {
      years = ok.head.years_some;
      shares = λ d. subst (λ (r : ℕ → ℕ). Σℕ 1 d r ≤ million) (rollover_held_law plan ok) (shares_le (terms plan ok) d);
      rates = λ l b. within_abs {z = P.i t (2 + l)} (omega (whole, ok.rates t (2 + l)));
    }

    -- the fund with B, and the form's value with 2 B + 1, whatever the signs of the rates
    -- what is left is cut by less than one amount where the cost is held, and is nothing where it is not
    left_cut : Rounded (flag P.costed) (exact_left_of (shared_of P)) (left_of (shared_of P))
    unfolding exact_left_of left_of
    left_cut = go P.costed refl
      where
        go : (costed : Bool) → P.costed ≡ costed → Rounded (flag costed) (left P.instruments P.cost P.p) (floor (left P.instruments P.cost P.p) million)
        go true e = left_rounded _
        go false e = rw (no_left P.instruments P.p (ok.uncosted e)) none_rounded

    pub pattern_fund_close : Close (P.i t) P.years (exact_fund P t) (fund_of P t) (bound_of P t)
    unfolding exact_fund exact_at exact_flow_of flow_of fund_of fund_at bound_of bound_at
    pattern_fund_close = fund_close given _ _ (flow_floors P.instruments P.a (shared_of P).constant_flow P.p) left_cut

    pub pattern_form_close : Close (P.i t) P.years (exact_fund P t) (value_at (shared_of P) (P.i t)) (2 * bound_of P t + 1)
    unfolding exact_fund exact_at exact_flow_of exact_left_of value_at coefficient_at constant_at bound_of bound_at
    pattern_form_close =
        let e = flag P.costed in
        form_close P.instruments P.p ok.allocation (λ j. amounts_close given e (λ k. P.a k j) (P.cost j)) (constant_close given e (shared_of P).constant_flow)
        (left_parts P.r (P.i t) P.years P.instruments P.a (shared_of P).constant_flow P.cost P.p)

    -- check 8 takes no rate below zero, so both are from below
    none_negative_law : none_negative (P.i t) P.years ≡ true
    unfolding none_negative
    none_negative_law = all_yes (P.years - 1) _ (λ l b. le_le_Z (pos 0) (P.i t (2 + l)) (ok.rates t (2 + l)).low)

    pub fund_below : FromBelow P.years (exact_fund P t) (fund_of P t) (bound_of P t)
    fund_below = pattern_fund_close.below none_negative_law

    form_below : FromBelow P.years (exact_fund P t) (value_at (shared_of P) (P.i t)) (2 * bound_of P t + 1)
    form_below = pattern_form_close.below none_negative_law

  -- ---- the bound's call answers B where the plan and the pattern are not refused
  pub bound_is : call_refusal P t ≡ 0 → bound_answer P t ≡ record { refusal = 0; bound = pos (bound_of P t) }
  unfolding bound_answer
  bound_is = answer_accepted no_bound (call_refusal P t) _

  -- ---- the fund
  module _ (e : (fund_answer P t).refusal ≡ 0) where
    pub fund_called : call_refusal P t ≡ 0
    unfolding fund_answer
    fund_called = not_refused no_fund _ (λ (s : Reckoned). s.refusal) (λ n. refl) _ e

    fund_is : (fund_answer P t).fund ≡ fund_of P t
    unfolding fund_answer fund_of fund_at
    fund_is = reckoned_is P.r (P.i t) (flow_of (shared_of P)) P.years (left_of (shared_of P)) (answer_accepted no_fund (call_refusal P t) _ fund_called) e

  pub fund_near : FundNear P t (fund_answer P t)
  fund_near = record { near = λ e. rw (fund_is e) (fund_below (called plan t (fund_called e)).plan_ok); bound = λ e. bound_is (fund_called e) }

  -- ---- the form
  module _ (e : (form_answer P t).refusal ≡ 0) where
    form_called : call_refusal P t ≡ 0
    unfolding form_answer
    form_called = not_refused no_form _ (λ (s : FormAnswer). s.refusal) (λ n. refl) _ e

    form_is : (form_answer P t).value ≡ value_at (shared_of P) (P.i t)
    unfolding form_answer form_reckoned
    form_is = ap (λ (s : FormAnswer). s.value) (picked_is (λ (s : FormAnswer). s.refusal) _ _ refl (λ z. omega arith) (both (coefficients_fit (shared_of P) (P.i t)) (constant_fits (shared_of P) (P.i t))) (form_answer P t)
        (answer_accepted no_form (call_refusal P t) _ form_called) e)

  pub form_near : FormNear P t (form_answer P t)
  form_near = record { near = λ e. rw (form_is e) (form_below (called plan t (form_called e)).plan_ok); bound = λ e. bound_is (form_called e) }

  -- ---- an answer, and with it what it means
  pub form_answered : {s : FormAnswer} → s ≡ form_answer P t → (s ≡ form_answer P t) × FormNear P t s
  form_answered e = (e, subst (FormNear P t) (sym e) form_near)

-- ---- the verdict
module _ (plan : Plan) where
  abbrev m : ℕ
  m = plan.patterns

  -- the word of pattern 1 + t, and whether it is short
  abbrev word : (t : ℕ) → ℕ
  word t = pattern_word (numbers plan) (1 + t)

  abbrev is_short_law : (t : ℕ) → Bool
  is_short_law t = eqb (word t) short

  module _ (e : (verdict_answer (numbers plan)).refusal ≡ 0) where
    verdict_called : verdict_refusal (numbers plan) ≡ 0
    unfolding verdict_answer
    verdict_called = not_refused no_verdict _ (λ (s : VerdictAnswer). s.refusal) (λ n. refl) _ e

    pub verdict_accepted : Accepted (numbers plan)
    unfolding verdict_refusal
    verdict_accepted = accepted plan (first_none (refusal_of (numbers plan)) _ verdict_called)

    verdict_is : verdict_answer (numbers plan) ≡ verdict_by m word
    unfolding verdict_answer short_bits plan_word
    verdict_is = answer_accepted no_verdict (verdict_refusal (numbers plan)) _ verdict_called

    plan_word_is : (verdict_answer (numbers plan)).word ≡ plan_word_of m word (bits_of m is_short_law)
    plan_word_is = ap (λ (s : VerdictAnswer). s.word) verdict_is

    -- what its word says of one pattern
    module _ (t : ℕ) (some : 1 ≤ t) (few : t ≤ m) where
      word_is : word (t - 1) ≡ pattern_word (numbers plan) t
      word_is = let s : 1 + (t - 1) ≡ t = omega arith in ap (pattern_word (numbers plan)) s

      word_at_law : get_or (verdict_answer (numbers plan)).words (t - 1) 0 ≡ pattern_word (numbers plan) t
      word_at_law =
          ap (λ (s : VerdictAnswer). get_or s.words (t - 1) 0) verdict_is
          ∙ table_at 64 m word 0 0 (t - 1) (omega arith) verdict_accepted.head.patterns_few ∙ word_is

      solvent_fund : pattern_word (numbers plan) t ≡ solvent → pos 0 ≤ℤ exact_fund (numbers plan) t
      unfolding pattern_word word_at fund_of bound_of
      solvent_fund h = subst (λ (z : ℤ). z ≤ℤ exact_fund (numbers plan) t) (zero-*ℤ (pos (10 ^ (12 * plan.years)))) (exactly_solvent (pos 0) (fund_below plan t verdict_accepted) (word_solvent _ _ _ h))

      short_fund : pattern_word (numbers plan) t ≡ short → exact_fund (numbers plan) t <ℤ pos 0
      unfolding pattern_word word_at fund_of bound_of
      short_fund h = subst (λ (z : ℤ). exact_fund (numbers plan) t <ℤ z) (zero-*ℤ (pos (10 ^ (12 * plan.years)))) (exactly_short (pos 0) (pattern_fund_close plan t verdict_accepted).either (word_short _ _ _ h))

      -- the row's fund, and its bound
      pub row_near : FromBelow plan.years (exact_fund (numbers plan) t) (row_of (numbers plan) t).fund (bound_of (numbers plan) t)
      unfolding row_of row_at fund_of
      row_near = fund_below plan t verdict_accepted

      pub row_bound : bound_answer (numbers plan) t ≡ record { refusal = 0; bound = (row_of (numbers plan) t).bound }
      unfolding row_of row_at bound_of verdict_refusal
      row_bound =
          bound_is plan t
          (sym (refused_none (numbers plan) t (first_none (refusal_of (numbers plan)) _ verdict_called) (from_yes 1 m t some few)))

      all_solvent : (verdict_answer (numbers plan)).word ≡ solvent → pattern_word (numbers plan) t ≡ solvent
      all_solvent h = sym word_is ∙ plan_solvent m word (bits_of m is_short_law) (sym plan_word_is ∙ h) (t - 1) (omega arith)

    -- the lowest bit that is set is that of a short pattern
    some_short : (verdict_answer (numbers plan)).word ≡ short → ShortPattern (numbers plan)
    some_short h =
        let t = count_trailing_zeros m (bits_of m is_short_law) in
        let lowest : Lowest m is_short_law t = bits_lowest m m is_short_law (omega arith) (plan_short m word (bits_of m is_short_law) (sym plan_word_is ∙ h)) in
        let few : 1 + t ≤ m = omega (arith, lowest.few) in
        record { pattern = 1 + t; some = omega arith; few = few; below = short_fund (1 + t) (omega arith) few (eqb-true _ _ lowest.holds) }

  pub verdict_true : VerdictTrue (numbers plan) (verdict_answer (numbers plan))
  verdict_true = record {
    pattern_solvent = λ e t some few h. solvent_fund e t some few (sym (word_at_law e t some few) ∙ h);
    pattern_short = λ e t some few h. short_fund e t some few (sym (word_at_law e t some few) ∙ h);
    plan_solvent = λ e h t some few. solvent_fund e t some few (all_solvent e t some few h);
    plan_short = some_short;
  }

  pub verdict_answered : {s : VerdictAnswer} → s ≡ verdict_answer (numbers plan) → (s ≡ verdict_answer (numbers plan)) × (VerdictTrue (numbers plan) s × ((is_some plan.opening ≡ false → PlainFlow (numbers plan)) × ((is_some plan.cost ≡ false → PlainHorizon (numbers plan)) × ((PlainHeld (held plan) → Plain (held plan)) × Alike (held plan)))))
  verdict_answered e = (e, (subst (VerdictTrue (numbers plan)) (sym e) verdict_true, (flow_plan plan, (horizon_plan plan, (plain_plan plan, alike (held plan))))))
