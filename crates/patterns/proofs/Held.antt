-- The arrays that the code prepares hold the numbers of an accepted plan: read by the papers' index, each is the plan's own
-- function, and the core takes them.
use mathlib.Core.Path.{◌≡◌, refl, sym, ap, ap₂, ◌∙◌, subst, fun_ext}
use mathlib.Core.Logic.{⊎_elim}
use mathlib.Core.List.{List, []}
use Prim.Native.Nat.{ℕ, zero, suc, ◌+◌, ◌-◌, ◌≤◌, ◌<◌}
use native.Mathlib.Nat.{le_of_eq}
use native.Mathlib.Omega.{arith}
use lib.ListN.{get_or, replicate, get_or-replicate}
use mir.Syntax.{w64}
use mir.Val.{SFits}
use lib.IntN.{ℤ, pos, nat_abs, ◌-ℤ◌}
use Rattle.whole.specs.Range.{million, limit, Between, Within}
use Rattle.whole.specs.Table.{table}
use Rattle.whole.specs.Entry.{nth, entry}
use Rattle.whole.proofs.Bridge.{whole}
use Rattle.whole.proofs.Laws.{ℕ_cases}
use Rattle.whole.proofs.Range.{within_more, within_sub, within_pos, within_fits}
use Rattle.whole.proofs.Sum.{Σℕ_from, sum_ℕ_one}
use Rattle.whole.proofs.Table.{table_at, table_past, table_each, table_cong}
use Rattle.whole.proofs.Entry.{entry_in, entry_past, entry_zero, entry_beyond, entry_cong, table_held}
use Rattle.reckoning.specs.Arrays.{shares_of, rates_of, amounts_of, Terms, Rates, Amounts}
use Rattle.plan.specs.Held.{HeldInstrument, unheld_instrument, instrument_held, instrument_at, pattern_held, pattern_at, amounts_in, allocation_held, cost_held, held}
use Rattle.plan.specs.Numbers.{Numbers, rate_in, payments_meant, rates_meant, numbers}
use Rattle.plan.specs.Refusal.{most, Accepted}
use Rattle.plan.specs.declared.Plan.{Plan}
use Rattle.plan.proofs.Held.{instrument_is, outflow_is, opening_is, allocation_is, payment_before, payment_past, outflow_before, outflow_past, opening_before, opening_past, cost_is, rollover_before, rate_is, tidy_held}
use Rattle.patterns.specs.Pattern.{shared_of, flow_of}
use Rattle.patterns.specs.Prepared.{Prepared, Parts}
use Rattle.patterns.specs.Arrays.{rollover_array, rates_array, constant_array, payments_row, payments_rows, IsOf, parts_of, shared_in, shared_with, Allocated}
use Rattle.patterns.specs.declared.common.Common.{Common}
use Rattle.patterns.proofs.Weighing.{parts_table}
use Rattle.patterns.proofs.Flows.{flow_most, flow_none, flow_held_law}

-- ---- the payments and the flow of Q
module _ {P : Numbers} (ok : Accepted P) where
  payment_within : (k j : ℕ) → Within most (P.a k j)
  payment_within k j = omega (whole, ok.payments k j)

  pub constant_within : (k : ℕ) → Within (most + most) ((shared_of P).constant_flow k)
  constant_within k = let money : Within most (P.b k) = omega (whole, ok.opening k) in within_sub money (ok.outflows k)

-- the flow of Q is 0 before year 1 and past year N
constant_before : (plan : Plan) → (shared_of (numbers plan)).constant_flow 0 ≡ pos 0
constant_before plan = ap₂ ◌-ℤ◌ (opening_before plan) (outflow_before plan)

constant_past : (plan : Plan) (k : ℕ) → plan.years < k → (shared_of (numbers plan)).constant_flow k ≡ pos 0
constant_past plan k l = ap₂ ◌-ℤ◌ (opening_past plan k l) (outflow_past plan k l)

-- a function of an entry
entry_of : {A B : Type 0} (g : A → B) (z : A) (n : ℕ) (f : ℕ → A) (j : ℕ) → entry (g z) n (λ j. g (f j)) j ≡ g (entry z n f j)
unfolding entry
entry_of g z n f zero = refl
entry_of g z n f (suc j) = ⊎_elim
    (λ (l : j < n). entry_in (g z) n (λ j. g (f j)) j l ∙ sym (ap g (entry_in z n f j l)))
    (λ (l : n ≤ j). entry_past (g z) n (λ j. g (f j)) j l ∙ sym (ap g (entry_past z n f j l)))
    (ℕ_cases j n)

-- the rates that a pattern means
pub rates_array_law : (plan : Plan) (t : ℕ) → t < plan.patterns → rates_meant plan.years (pattern_held plan.years (pattern_at plan t)) ≡ rates_array (numbers plan) (1 + t)
unfolding rates_array
rates_array_law plan t h = table_cong 30 (plan.years - 1) _ _ (pos 0) (λ l k. sym (rate_is plan t l h k))

-- the payments that an instrument means
pub payments_row_law : (plan : Plan) (j : ℕ) → j < plan.instruments → payments_meant plan.years (instrument_held plan.years (instrument_at plan j)) ≡ payments_row (numbers plan) j
unfolding payments_row
payments_row_law plan j h = table_cong 30 plan.years _ _ (pos 0) (λ k l. ap (λ (a : HeldInstrument). a.payment (1 + k)) (sym (instrument_is plan j h)))

-- zeros fit
pub no_amounts : Amounts (replicate 30 (pos 0))
no_amounts = record { amount = λ k h. rw (get_or-replicate 30 k (pos 0) (pos 0) h) (within_pos (omega arith)) }

-- the flow of Q in year 1 + k: what money already invested pays, where it is held, less the outflow
module _ (plan : Plan) (ok : Accepted (numbers plan)) (k : ℕ) (h : k < plan.years) where
  pub constant_is : get_or (amounts_in plan.opening) k (pos 0) -ℤ get_or plan.outflows k (pos 0) ≡ (shared_of (numbers plan)).constant_flow (1 + k)
  constant_is = sym (ap₂ ◌-ℤ◌ (opening_is plan k h) (outflow_is plan k h))

  pub outflow_fits : SFits w64 (get_or plan.outflows k (pos 0))
  outflow_fits = rw (← outflow_is plan k h) (within_fits (omega arith) (ok.outflows (1 + k)))

  pub constant_fits_law : SFits w64 (get_or (amounts_in plan.opening) k (pos 0) -ℤ get_or plan.outflows k (pos 0))
  constant_fits_law = rw constant_is (within_fits (omega arith) (constant_within ok (1 + k)))

module _ (plan : Plan) (ok : Accepted (numbers plan)) where
  abbrev P : Numbers
  P = numbers plan

  -- ---- what each array is by the papers' index
  pub rollover_held_law : shares_of (rollover_array P) ≡ P.r
  unfolding shares_of rollover_array
  rollover_held_law = fun_ext (λ d. ap nat_abs (table_held (pos 0) (λ d. pos (P.r d)) ok.head.terms_few (ap pos (rollover_before plan)) (λ d l. ap pos (ok.rollover_past d l)) d))

  pub rates_held : (t : ℕ) → rates_of (rates_array P t) ≡ P.i t
  unfolding rates_of rates_array
  rates_held t =
      let n = plan.years - 1 in
      let rate : ℕ → ℤ = entry (pos 0) n (rate_in ((held plan).pattern t)) in
      let same : (l : ℕ) → 2 + l - 1 ≡ 1 + l = λ l. omega arith in
      fun_ext (λ l.
      ap (λ (v : List ℤ). nth (pos 0) v (l - 1)) (table_cong 30 n _ (λ l. rate (1 + l)) (pos 0) (λ l b. ap rate (same l)))
      ∙ table_held (pos 0) rate {m = 30} (omega (arith, ok.head.years_few)) (entry_zero (pos 0) n _) (entry_beyond (pos 0) n _) (l - 1))

  constant_held : amounts_of (constant_array P) ≡ (shared_of P).constant_flow
  unfolding amounts_of constant_array
  constant_held = fun_ext (table_held (pos 0) (shared_of P).constant_flow ok.head.years_few (constant_before plan) (constant_past plan))

  -- the row of one instrument
  pub row_is : (j : ℕ) → j < plan.instruments → get_or (payments_rows P) j [] ≡ payments_row P j
  unfolding payments_rows
  row_is j h = table_at 16 plan.instruments (payments_row P) _ [] j h ok.head.instruments_few

  pub row_past : (j : ℕ) → plan.instruments ≤ j → j < 16 → get_or (payments_rows P) j [] ≡ replicate 30 (pos 0)
  unfolding payments_rows
  row_past = table_past 16 plan.instruments (payments_row P) _ []

  row_held : (j : ℕ) → j < plan.instruments → amounts_of (get_or (payments_rows P) j []) ≡ (λ k. P.a k (1 + j))
  unfolding amounts_of payments_row
  row_held j h = rw (row_is j h) (fun_ext (table_held (pos 0) (λ k. P.a k (1 + j)) ok.head.years_few (payment_before plan (1 + j)) (λ k l. payment_past plan k (1 + j) l)))

  payments_held : (λ k. entry (pos 0) plan.instruments (λ j. amounts_of (get_or (payments_rows P) j []) k)) ≡ P.a
  payments_held = fun_ext (λ k. fun_ext (λ j.
      entry_cong (pos 0) plan.instruments _ (λ j. P.a k (1 + j)) (λ j h. ap (λ (f : ℕ → ℤ). f k) (row_held j h)) j
      ∙ entry_of (λ (a : HeldInstrument). a.payment k) unheld_instrument plan.instruments (λ j. (held plan).instrument (1 + j)) j
      ∙ ap (λ (f : ℕ → HeldInstrument). (f j).payment k) (sym (tidy_held plan ok.head).instrument)))

  -- what is shared, with any shares
  pub shared_held : {c : Common} → IsOf plan c → (shares : List ℕ) → shared_in c shares ≡ shared_with P (parts_of plan.instruments shares)
  unfolding cost_held
  shared_held e shares = rw (e.years, e.rollover, e.instruments, e.payments, e.constant, e.cost, payments_held, constant_held, rollover_held_law)

  -- ---- and their ranges
  pub terms : Terms plan.terms (rollover_array P)
  unfolding rollover_array
  terms = record {
    few = ok.head.terms_few;
    part = table_each (Between (pos 0) (pos million)) 30 plan.terms (λ d. pos (P.r (1 + d))) (pos 0) (pos 0) ok.head.terms_few (omega whole)
        (λ d l. omega (whole, sum_ℕ_one (suc plan.terms - 1) (λ d. P.r (1 + d)) d (omega arith), ok.rollover));
    sum = rw rollover_held_law ok.rollover;
    past = rw rollover_held_law ok.rollover_past;
  }

  pub rates : (t : ℕ) → Rates (rates_array P t)
  unfolding rates_array
  rates t = record {
    rate = table_each (Within million) 30 (plan.years - 1) (λ l. P.i t (2 + l)) (pos 0) (pos 0) (omega (arith, ok.head.years_few)) (omega whole)
        (λ l h. omega (whole, ok.rates t (2 + l)));
  }

  amounts : (f : ℕ → ℤ) → ((k : ℕ) → Within limit (f k)) → Amounts (table 30 plan.years f (pos 0))
  amounts f within = record { amount = table_each (Within limit) 30 plan.years f (pos 0) (pos 0) ok.head.years_few (omega whole) (λ k h. within k) }

  pub payments_fit : (j : ℕ) → Amounts (payments_row P j)
  unfolding payments_row
  payments_fit j = amounts (λ k. P.a (1 + k) (1 + j)) (λ k. within_more (omega arith) (payment_within ok (1 + k) (1 + j)))

  pub constant_fit : Amounts (constant_array P)
  unfolding constant_array
  constant_fit = amounts (λ k. (shared_of P).constant_flow (1 + k)) (λ k. within_more (omega arith) (constant_within ok (1 + k)))

  -- ---- the allocation
  pub parts : Parts 16 (table 16 plan.instruments (λ j. get_or plan.allocation j 0) 0)
  parts = parts_table plan.instruments (λ j. get_or plan.allocation j 0) ok.head.instruments_few
      (le_of_eq (sym (Σℕ_from 1 plan.instruments plan.instruments P.p _ (omega arith) (allocation_is plan)) ∙ ok.allocation))

  pub parts_held : parts_of plan.instruments (table 16 plan.instruments (λ j. get_or plan.allocation j 0) 0) ≡ P.p
  unfolding allocation_held
  parts_held = fun_ext (entry_cong 0 plan.instruments _ _ (λ j h. table_at 16 plan.instruments (λ j. get_or plan.allocation j 0) 0 0 j h ok.head.instruments_few))

  -- ---- all of it
  pub prepared : Prepared plan.instruments (payments_rows P) plan.cost
  prepared = record {
    few = ok.head.instruments_few;
    payments = λ j h. rw (row_is j h) (payments_fit j);
    costs = λ j h. within_more (omega arith) (subst (Within most) (cost_is plan j h) (omega (whole, ok.cost (1 + j))));
  }

  -- with any parts of at most 1,000,000 together
  module _ {c : Common} (e : IsOf plan c) (shares : List ℕ) (parts : Parts c.instruments shares) where
    abbrev n : ℕ
    n = c.instruments

    row : (j : ℕ) → j < n → amounts_of (get_or c.payments j []) ≡ (λ k. P.a k (1 + j))
    row j h = rw e.payments (row_held j (omega (arith, h, e.instruments)))

    money : amounts_of c.constant.amounts ≡ (shared_of P).constant_flow
    money = rw e.constant constant_held

    pub allocated : Allocated c shares
    unfolding flow_of
    allocated = record {
      parts = parts;
      flow = λ k. flow_most n c.payments (amounts_of c.constant.amounts) shares parts k (λ j h. rw (row j h) (payment_within ok k (1 + j))) (rw money (constant_within ok k));
      flow_held = flow_held_law c shares (λ k l. flow_none n c.payments (amounts_of c.constant.amounts) shares k
          (λ j h. rw (row j h) (payment_past plan k (1 + j) (omega (arith, l, e.years)))) (rw money (constant_past plan k (omega (arith, l, e.years)))));
    }
