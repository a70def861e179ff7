-- What the tests of the plan's arrays say of its numbers, and what a plan has that is not refused.
use mathlib.Core.Path.{◌≡◌, refl, sym, ap, ◌∙◌, subst}
use mathlib.Core.Bool.{Bool, true, false}
use mathlib.Core.List.{List, [], ◌∷◌}
use Prim.Native.Nat.{ℕ, zero, suc, ◌+◌, ◌-◌, ◌≤◌, ◌<◌}
use native.Mathlib.Omega.{arith}
use borrow.Author.Tests.{eqb-true, eq-eqb}
use lib.Dec.{eqb}
use lib.ListN.{length, get_or, get_or-eq_default, take}
use Rattle.std.proofs.lemmas.List.{get_or-take}
use Rattle.std.proofs.lemmas.List.Sums.{sum_by-cons}
use Rattle.std.specs.Bool.{MatchBool}
use Rattle.std.specs.List.{AllWithin, HoldsAt}
use mathlib.Core.Logic.{⊎_elim}
use Rattle.whole.proofs.Laws.{ℕ_cases}
use lib.IntN.{ℤ, pos, neg_ℤ}
use Rattle.std.specs.Prelude.{is_some, sum}
use Rattle.whole.specs.Range.{million, Between, Within}
use Rattle.whole.specs.Sum.{sum_ℕ}
use Rattle.whole.specs.Test.{pick, all, is_from, is_between, is_within}
use Rattle.whole.proofs.Bridge.{whole}
use Rattle.whole.specs.Entry.{entry}
use Rattle.whole.proofs.Entry.{entry_each, entry_own}
use Rattle.whole.proofs.Table.{table_at}
use Rattle.whole.proofs.Sum.{sum_ℕ_none, sum_ℕ_first, sum_ℕ_const, Σℕ_from}
use Rattle.whole.proofs.Test.{false_true, both_first, both_second, all_yes, all_at, all_cong, between_fact, between_yes, from_low, from_high, from_yes, pick_few}
use Rattle.plan.specs.Held.{HeldInstrument, Held, instrument_held, is_slope, row_until, pattern_held, amounts_in, missing_pattern, outflows_held, opening_held, cost_held, SlopeTyped, Typed}
use Rattle.plan.specs.Numbers.{Numbers, rate_in, rate_of, until_of, payments_meant, rates_meant, meaning, numbers}
use Rattle.plan.specs.Refusal.{
  check,
  first_of,
  answer,
  most,
  top,
  head_ok,
  payments_fit,
  payments_ok,
  outflows_ok,
  opening_ok,
  cost_ok,
  amounts_ok,
  rollover_ok,
  untils_ok,
  rates_fit,
  rates_ok,
  allocation_ok,
  head_refusal,
  amounts_refusal,
  rates_refusal,
  allocation_refusal,
  refusal_of,
  refusal_with,
  Head,
  Accepted,
}
use Rattle.plan.specs.declared.Instrument.{Instrument}
use Rattle.plan.specs.declared.Pattern.{Pattern}
use Rattle.plan.specs.declared.Plan.{Plan}
use Rattle.plan.proofs.All.{all_first}
use Rattle.plan.proofs.Held.{instrument_is, pattern_is, outflow_is, opening_is, cost_is, cost_none, rollover_is, rollover_past, allocation_is, payment_is, rate_is, until_is, instrument_each, pattern_each}

-- ---- each test of an array is the test of the numbers that stand there
-- each of some amounts lies between two bounds
abbrev pub all_in : (low high : ℤ) → List ℤ → Bool
all_in low high xs = all (length xs) (λ k. is_between low high (get_or xs k (pos 0)))

-- each of the first n, where 0 does too
pub first_in : (low high : ℤ) (n : ℕ) (xs : List ℤ) → Between low high (pos 0) → all_in low high (take n xs) ≡ all n (λ k. is_between low high (get_or xs k (pos 0)))
first_in low high n xs h = all_first xs (pos 0) n (is_between low high) (between_yes _ _ _ h)

-- so does what there is none of
pub none_in : (b n : ℕ) → all n (λ k. is_between (pos 0) (pos b) (get_or [] k (pos 0))) ≡ true
none_in b n = all_yes n _ (λ k l. between_yes _ _ _ (omega whole))

-- the sum of the first n shares
sum_first : (n : ℕ) (xs : List ℕ) → sum (take n xs) ≡ sum_ℕ n (λ k. get_or xs k 0)
sum_first zero xs = sym (sum_ℕ_none _)
sum_first (suc n) [] = sym (sum_ℕ_const (suc n) 0 ∙ omega arith)
sum_first (suc n) (x ∷ xs) = sum_by-cons (λ y. y) x (take n xs) ∙ ap (λ (s : ℕ). x + s) (sum_first n xs) ∙ sym (sum_ℕ_first n (λ k. get_or (x ∷ xs) k 0))

-- what an instrument pays, the rates of a pattern, and T where it is a slope
abbrev pub payments_tested : (years : ℕ) → Instrument → Bool
payments_tested years row = all_in (pos 0) (pos most) (take years (payments_meant years (instrument_held years row)))

abbrev pub rates_tested : (years : ℕ) → Pattern → Bool
rates_tested years row = all_in (pos 0) (pos top) (take (years - 1) (rates_meant years (pattern_held years row)))

abbrev pub until_tested : Pattern → Bool
until_tested row = is_from 1 30 (pick (is_slope row) (row_until row) 1)

-- the first n rows of an array pass
abbrev pub rows_pass : {A : Type 0} → A → (A → Bool) → List A → Bool
rows_pass d p rows = all (length rows) (λ k. p (get_or rows k d))

-- where money already invested pays nothing, it has passed
pub opening_passes : (P : Numbers) → ((k : ℕ) → P.b k ≡ pos 0) → opening_ok P ≡ true
unfolding opening_ok
opening_passes P none = all_yes P.years _ (λ k l. between_yes _ _ _ (rw (none (1 + k)) (omega whole)))

-- so has a cost of nothing
pub cost_passes : (P : Numbers) → ((j : ℕ) → P.cost j ≡ pos 0) → cost_ok P ≡ true
unfolding cost_ok
cost_passes P none = all_yes P.instruments _ (λ j l. between_yes _ _ _ (rw (none (1 + j)) (omega whole)))

-- and where no pattern is a slope, T is 1
pub untils_none : (H : Held) → ((t : ℕ) → (H.pattern t).sloped ≡ false) → untils_ok (meaning H) ≡ true
unfolding untils_ok
untils_none H none = all_yes H.shape.patterns _ (λ t h. rw (none (1 + t)))

module _ (plan : Plan) where
  -- what an instrument pays fills an array
  payments_row : (years : ℕ) (row : Instrument) → years ≤ 30 → payments_tested years row ≡ all years (λ k. is_between (pos 0) (pos most) ((instrument_held years row).payment (1 + k)))
  payments_row years row few =
      first_in (pos 0) (pos most) years _ (omega whole)
      ∙ all_cong years _ _ (λ k l. ap (is_between (pos 0) (pos most)) (table_at 30 years (λ k. (instrument_held years row).payment (1 + k)) (pos 0) (pos 0) k l few))

  pub payments_ok_law : plan.years ≤ 30 → rows_pass (record { payments = [] }) (payments_tested plan.years) (take plan.instruments plan.instrument) ≡ payments_ok (numbers plan)
  unfolding payments_ok payments_fit
  payments_ok_law few =
      all_first plan.instrument _ plan.instruments (payments_tested plan.years) (payments_row plan.years (record { payments = [] }) few ∙ all_yes plan.years _ (λ k l. between_yes _ _ _ (entry_each (pos 0) plan.years _ (Between (pos 0) (pos most)) (omega whole) (λ k l. omega whole) (1 + k))))
      ∙ all_cong plan.instruments _ _ (λ j h.
      payments_row plan.years _ few
      ∙ all_cong plan.years _ _ (λ k l. ap (λ (a : HeldInstrument). is_between (pos 0) (pos most) (a.payment (1 + k))) (sym (instrument_is plan j h))))

  -- the rates of a pattern fill an array
  rates_row : (years : ℕ) (row : Pattern) → years ≤ 30 → rates_tested years row ≡ all (years - 1) (λ l. is_between (pos 0) (pos top) (rate_in (pattern_held years row) l))
  rates_row years row few =
      first_in (pos 0) (pos top) (years - 1) _ (omega whole)
      ∙ all_cong (years - 1) _ _ (λ l k. ap (is_between (pos 0) (pos top)) (table_at 30 (years - 1) (rate_in (pattern_held years row)) (pos 0) (pos 0) l k (omega arith)))

  pub rates_ok_law : plan.years ≤ 30 → rows_pass missing_pattern (rates_tested plan.years) (take plan.patterns plan.pattern) ≡ rates_ok (numbers plan)
  unfolding rates_ok rates_fit
  rates_ok_law few =
      all_first plan.pattern _ plan.patterns (rates_tested plan.years) (rates_row plan.years missing_pattern few ∙ all_yes (plan.years - 1) _ (λ l k. between_yes _ _ _ (entry_each (pos 0) (plan.years - 1) _ (Between (pos 0) (pos top)) (omega whole) (λ l k. omega whole) (1 + l))))
      ∙ all_cong plan.patterns _ _ (λ t h.
      rates_row plan.years _ few
      ∙ all_cong (plan.years - 1) _ _ (λ l k. ap (is_between (pos 0) (pos top)) (sym (rate_is plan t l h k))))

  -- T of a pattern is looked at where it is a slope
  pub untils_ok_law : rows_pass missing_pattern until_tested (take plan.patterns plan.pattern) ≡ untils_ok (numbers plan)
  unfolding untils_ok
  untils_ok_law = all_first plan.pattern _ plan.patterns until_tested refl ∙ all_cong plan.patterns _ _ (λ t h. ap (is_from 1 30) (sym (until_is plan t h)))

  -- and a row that passes has the widths of its types
  pub typed_from : (r : Bool) → MatchBool r (AllWithin (λ row. (until_tested row ≡ true) × SlopeTyped row) (take plan.patterns plan.pattern) 0 (length (take plan.patterns plan.pattern)))
      ((k : ℕ) × (k < length (take plan.patterns plan.pattern)) × HoldsAt (λ row. until_tested row ≡ false) (take plan.patterns plan.pattern) k)
      → r ≡ true → Typed plan
  typed_from false h e t l = absurd (false_true e)
  typed_from true h e t l =
      let rows = take plan.patterns plan.pattern in
      subst SlopeTyped (get_or-take plan.patterns plan.pattern t missing_pattern l)
      (⊎_elim (λ (i : t < length rows). (h t missing_pattern (omega arith) i).1)
      (λ (i : length rows ≤ t). subst SlopeTyped (sym (get_or-eq_default rows missing_pattern i)) (record { start = omega whole; step = omega whole }))
      (ℕ_cases t (length rows)))

  pub outflows_ok_law : all_in (neg_ℤ (pos most)) (pos most) (take plan.years plan.outflows) ≡ outflows_ok (numbers plan)
  unfolding outflows_ok
  outflows_ok_law = first_in _ _ plan.years plan.outflows (omega whole) ∙ all_cong plan.years _ _ (λ k l. ap (is_within most) (sym (outflow_is plan k l)))

  pub opening_ok_law : all plan.years (λ k. is_between (pos 0) (pos most) (get_or (amounts_in plan.opening) k (pos 0))) ≡ opening_ok (numbers plan)
  unfolding opening_ok
  opening_ok_law = all_cong plan.years _ _ (λ k l. ap (is_between (pos 0) (pos most)) (sym (opening_is plan k l)))

  pub cost_ok_law : all plan.instruments (λ j. is_between (pos 0) (pos most) (get_or (amounts_in plan.cost) j (pos 0))) ≡ cost_ok (numbers plan)
  unfolding cost_ok
  cost_ok_law = all_cong plan.instruments _ _ (λ j l. ap (is_between (pos 0) (pos most)) (sym (cost_is plan j l)))

  pub rollover_ok_law : eqb (sum (take plan.terms plan.rollover)) million ≡ rollover_ok (numbers plan)
  unfolding rollover_ok
  rollover_ok_law = ap (λ (s : ℕ). eqb s million) (sum_first plan.terms plan.rollover ∙ sym (Σℕ_from 1 plan.terms plan.terms (numbers plan).r _ (omega arith) (rollover_is plan)))

  pub allocation_ok_law : eqb (sum (take plan.instruments plan.allocation)) million ≡ allocation_ok (numbers plan)
  unfolding allocation_ok
  allocation_ok_law = ap (λ (s : ℕ). eqb s million) (sum_first plan.instruments plan.allocation ∙ sym (Σℕ_from 1 plan.instruments plan.instruments (numbers plan).p _ (omega arith) (allocation_is plan)))

-- ---- checks that are passed
pub check_true : (b : Bool) (number rest : ℕ) → 0 < number → check b number rest ≡ 0 → b ≡ true
check_true true number rest h e = refl
check_true false number rest h e = absurd (omega arith)

pub check_rest : (b : Bool) (number rest : ℕ) → 0 < number → check b number rest ≡ 0 → rest ≡ 0
check_rest true number rest h e = e
check_rest false number rest h e = absurd (omega arith)

-- ---- refusals one after the other, and the answer behind them
pub first_some : (a b : ℕ) → (a ≡ 0 → ⊥) → first_of a b ≡ a
first_some zero b h = absurd (h refl)
first_some (suc a) b h = refl

pub first_none : (a b : ℕ) → first_of a b ≡ 0 → a ≡ 0
first_none zero b e = refl
first_none (suc a) b e = e

pub first_next : (a b : ℕ) → first_of a b ≡ 0 → b ≡ 0
first_next zero b e = e
first_next (suc a) b e = absurd (omega arith)

pub answer_refused : {A : Type 0} (refused : ℕ → A) (number : ℕ) (accepted : A) → (number ≡ 0 → ⊥) → answer refused number accepted ≡ refused number
answer_refused refused zero accepted h = absurd (h refl)
answer_refused refused (suc n) accepted h = refl

pub answer_accepted : {A : Type 0} (refused : ℕ → A) (number : ℕ) (accepted : A) → number ≡ 0 → answer refused number accepted ≡ accepted
answer_accepted refused zero accepted e = refl
answer_accepted refused (suc n) accepted e = absurd (omega arith)

-- an answer that has no number of a refusal was not refused
pub not_refused : {A : Type 0} (refused : ℕ → A) (number : ℕ) (refusal : A → ℕ) → ((n : ℕ) → refusal (refused n) ≡ n) → (accepted : A)
    → refusal (answer refused number accepted) ≡ 0 → number ≡ 0
not_refused refused zero refusal same accepted e = refl
not_refused refused (suc n) refusal same accepted e = sym (same (suc n)) ∙ e

-- check 3 is the same of a plan and of a shape with its counts
pub head_is : (P : Numbers) → head_ok P ≡ true → Head P
unfolding head_ok
head_is P e =
    let years = both_first _ _ e in
    let e₁ = both_second (is_from 1 30 P.years) _ e in
    let instruments = both_first _ _ e₁ in
    let e₂ = both_second (is_from 1 16 P.instruments) _ e₁ in
    let terms = both_first _ _ e₂ in
    let patterns = both_second (is_from 1 30 P.terms) _ e₂ in
    record {
      years_some = from_low 1 30 P.years years;
      years_few = from_high 1 30 P.years years;
      instruments_some = from_low 1 16 P.instruments instruments;
      instruments_few = from_high 1 16 P.instruments instruments;
      terms_some = from_low 1 30 P.terms terms;
      terms_few = from_high 1 30 P.terms terms;
      patterns_some = from_low 1 64 P.patterns patterns;
      patterns_few = from_high 1 64 P.patterns patterns;
    }

-- ---- what checks 6 and 8 say of each entry, and so of every index: what lies outside is 0
module _ (plan : Plan) where
  payment_each : payments_ok (numbers plan) ≡ true → (k j : ℕ) → Between (pos 0) (pos most) ((numbers plan).a k j)
  unfolding payments_ok payments_fit
  payment_each e k j =
      instrument_each plan (λ a. Between (pos 0) (pos most) (a.payment k)) (omega whole)
      (λ j h. entry_each (pos 0) plan.years _ (Between (pos 0) (pos most)) (omega whole)
      (λ k l. rw (← payment_is plan j k h l) (between_fact _ _ _ (all_at plan.years _ k l (all_at plan.instruments _ j h e)))) k) j

  outflow_each : outflows_ok (numbers plan) ≡ true → (k : ℕ) → Within most ((numbers plan).o k)
  unfolding outflows_ok outflows_held
  outflow_each e = entry_each _ _ _ (Within most) (omega whole) (λ k l. rw (← outflow_is plan k l) (between_fact _ _ _ (all_at plan.years _ k l e)))

  -- amounts of which all n are held or none
  held_each : (is_held : Bool) (n : ℕ) (f : ℕ → ℤ) → all n (λ k. is_between (pos 0) (pos most) (entry (pos 0) (pick is_held n 0) f (1 + k))) ≡ true
      → (k : ℕ) → Between (pos 0) (pos most) (entry (pos 0) (pick is_held n 0) f k)
  held_each is_held n f e k =
      subst (λ (b : ℕ → ℤ). Between (pos 0) (pos most) (b k)) (sym (entry_own (pos 0) (pick is_held n 0) f))
      (entry_each (pos 0) (pick is_held n 0) _ (Between (pos 0) (pos most)) (omega whole)
      (λ k l. between_fact _ _ _ (all_at n _ k (omega (arith, l, pick_few is_held n)) e)) k)

  opening_each : opening_ok (numbers plan) ≡ true → (k : ℕ) → Between (pos 0) (pos most) ((numbers plan).b k)
  unfolding opening_ok opening_held
  opening_each = held_each (is_some plan.opening) plan.years _

  cost_each : cost_ok (numbers plan) ≡ true → (j : ℕ) → Between (pos 0) (pos most) ((numbers plan).cost j)
  unfolding cost_ok cost_held
  cost_each = held_each (is_some plan.cost) plan.instruments _

  rate_each : rates_ok (numbers plan) ≡ true → (t l : ℕ) → Between (pos 0) (pos top) ((numbers plan).i t l)
  unfolding rates_ok rates_fit
  rate_each e t l =
      pattern_each plan (λ i. Between (pos 0) (pos top) (rate_of plan.years i l))
      (entry_each (pos 0) (plan.years - 1) _ (Between (pos 0) (pos top)) (omega whole) (λ l k. omega whole) (l - 1))
      (λ t h. entry_each (pos 0) (plan.years - 1) _ (Between (pos 0) (pos top)) (omega whole)
      (λ l k. rw (← rate_is plan t l h k) (between_fact _ _ _ (all_at (plan.years - 1) _ l k (all_at plan.patterns _ t h e)))) (l - 1)) t

  -- where a pattern is outside m it is no slope, so T is 1
  until_each : untils_ok (numbers plan) ≡ true → (t : ℕ) → (1 ≤ (numbers plan).T t) × ((numbers plan).T t ≤ 30)
  unfolding untils_ok
  until_each e =
      pattern_each plan (λ i. (1 ≤ until_of i) × (until_of i ≤ 30)) (omega arith, omega arith)
      (λ t h. let f = all_at plan.patterns _ t h e in
      rw (← ap until_of (pattern_is plan t h)) (from_low 1 30 ((numbers plan).T (1 + t)) f, from_high 1 30 ((numbers plan).T (1 + t)) f))

-- a head that passed
head_ok_yes : {P : Numbers} → Head P → head_ok P ≡ true
unfolding head_ok
head_ok_yes {P} h =
    rw (from_yes 1 30 P.years h.years_some h.years_few, from_yes 1 16 P.instruments h.instruments_some h.instruments_few, from_yes 1 30 P.terms h.terms_some h.terms_few, from_yes 1 64 P.patterns h.patterns_some h.patterns_few)

-- what is left to check then
pub after_head : {P : Numbers} → Head P → (lists : ℕ) → refusal_with P lists ≡ first_of (amounts_refusal P) (first_of (rates_refusal P) (first_of lists (allocation_refusal P)))
unfolding refusal_with head_refusal
after_head h lists = rw (head_ok_yes h)

-- what each part of the refusal says where it is none
pub head_passed : (P : Numbers) → head_refusal P ≡ 0 → Head P
unfolding head_refusal
head_passed P e = head_is P (check_true (head_ok P) 3 0 (omega arith) e)

-- a plan that is not refused has passed every check
pub accepted : (plan : Plan) → refusal_of (numbers plan) ≡ 0 → Accepted (numbers plan)
unfolding refusal_of amounts_refusal rates_refusal allocation_refusal amounts_ok rollover_ok allocation_ok
accepted plan e =
    let P = numbers plan in
    let e₆ = first_next (head_refusal P) _ e in
    let amounts = first_none (amounts_refusal P) _ e₆ in
    let e₈ = first_next (amounts_refusal P) _ e₆ in
    let both₆ = check_true (amounts_ok P) 6 _ (omega arith) amounts in
    let flows₆ = both_second (payments_ok P) _ both₆ in
    let held₆ = both_second (outflows_ok P) _ flows₆ in
    let e₇ = check_rest (amounts_ok P) 6 _ (omega arith) amounts in
    let e₁₃ = first_none (rates_refusal P) _ e₈ in
    let untils = until_each plan (check_true (untils_ok P) 13 _ (omega arith) e₁₃) in
    record {
      head = head_passed P (first_none (head_refusal P) _ e);
      payments = payment_each plan (both_first _ _ both₆);
      outflows = outflow_each plan (both_first _ _ flows₆);
      opening = opening_each plan (both_first _ _ held₆);
      cost = cost_each plan (both_second (opening_ok P) _ held₆);
      uncosted = cost_none plan;
      rollover = eqb-true _ _ (check_true (rollover_ok P) 7 0 (omega arith) e₇);
      rollover_past = rollover_past plan;
      until_some = λ t. (untils t).0;
      until_few = λ t. (untils t).1;
      rates = rate_each plan (check_true (rates_ok P) 8 0 (omega arith) (check_rest (untils_ok P) 13 _ (omega arith) e₁₃));
      allocation = eqb-true _ _ (check_true (allocation_ok P) 9 0 (omega arith) (first_next (rates_refusal P) _ e₈));
    }

-- a call with lists that is not refused: neither are its lists, nor the plan
pub lists_pass : (P : Numbers) (lists : ℕ) → refusal_with P lists ≡ 0 → lists ≡ 0
unfolding refusal_with
lists_pass P lists e = first_none lists _ (first_next (rates_refusal P) _ (first_next (amounts_refusal P) _ (first_next (head_refusal P) _ e)))

pub plan_passes : (P : Numbers) (lists : ℕ) → refusal_with P lists ≡ 0 → refusal_of P ≡ 0
unfolding refusal_with refusal_of
plan_passes P lists e = rw (lists_pass P lists e) at e

-- and what has all that is not refused
module _ {P : Numbers} (ok : Accepted P) where
  payments_pass : payments_ok P ≡ true
  unfolding payments_ok payments_fit
  payments_pass = all_yes P.instruments _ (λ j l. all_yes P.years _ (λ k m. between_yes _ _ _ (ok.payments (1 + k) (1 + j))))

  outflows_pass : outflows_ok P ≡ true
  unfolding outflows_ok
  outflows_pass = all_yes P.years _ (λ k l. between_yes _ _ _ (ok.outflows (1 + k)))

  opening_pass : opening_ok P ≡ true
  unfolding opening_ok
  opening_pass = all_yes P.years _ (λ k l. between_yes _ _ _ (ok.opening (1 + k)))

  cost_pass : cost_ok P ≡ true
  unfolding cost_ok
  cost_pass = all_yes P.instruments _ (λ j l. between_yes _ _ _ (ok.cost (1 + j)))

  untils_pass : untils_ok P ≡ true
  unfolding untils_ok
  untils_pass = all_yes P.patterns _ (λ t h. from_yes 1 30 (P.T (1 + t)) (ok.until_some (1 + t)) (ok.until_few (1 + t)))

  rates_pass : rates_ok P ≡ true
  unfolding rates_ok rates_fit
  rates_pass = all_yes P.patterns _ (λ t h. all_yes (P.years - 1) _ (λ l k. between_yes _ _ _ (ok.rates (1 + t) (2 + l))))

  pub accepted_none : refusal_of P ≡ 0
  unfolding refusal_of head_refusal amounts_refusal rates_refusal allocation_refusal amounts_ok rollover_ok allocation_ok
  accepted_none = rw (head_ok_yes ok.head, payments_pass, outflows_pass, opening_pass, cost_pass, eq-eqb _ _ ok.rollover, untils_pass, rates_pass, eq-eqb _ _ ok.allocation)
