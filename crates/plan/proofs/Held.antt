-- Where what a plan holds stands in its arrays, and that the plan of what is held holds just that.
use mathlib.Core.Path.{◌≡◌, refl, sym, ap, ◌∙◌, fun_ext}
use mathlib.Core.Bool.{Bool, true, false}
use mathlib.Core.List.{List, []}
use Rattle.std.specs.Prelude.{Option, Some, None, is_some}
use Prim.Native.Nat.{ℕ, ◌+◌, ◌-◌, ◌≤◌, ◌<◌}
use native.Mathlib.Omega.{arith}
use lib.IntN.{ℤ, pos}
use lib.ListN.{get_or}
use Rattle.whole.specs.Test.{pick}
use Rattle.whole.specs.Entry.{entry}
use Rattle.whole.specs.Table.{table}
use Rattle.whole.proofs.Entry.{entry_at, entry_zero, entry_beyond, entry_empty, entry_each, entry_cong, entry_own, entry_none}
use Rattle.whole.proofs.Table.{table_at}
use Rattle.whole.proofs.Test.{pick_few}
use Rattle.plan.specs.declared.Pattern.{Pattern}
use Rattle.plan.specs.declared.Pattern.TheVariants.{Rates, Slope}
use Rattle.plan.specs.declared.Plan.{Plan}
use Rattle.plan.specs.Held.{
  HeldInstrument,
  HeldPattern,
  Held,
  openings,
  costs,
  rates_listed,
  unheld_instrument,
  unheld_pattern,
  instrument_held,
  is_slope,
  row_rates,
  row_start,
  row_step,
  row_until,
  pattern_held,
  amounts_in,
  shape_of,
  instrument_at,
  pattern_at,
  instruments_held,
  outflows_held,
  rollover_held,
  patterns_held,
  allocation_held,
  opening_held,
  cost_held,
  held,
  no_instrument,
  no_pattern,
  instrument_from,
  pattern_from,
  plan_from,
}
use Rattle.plan.specs.Numbers.{slope, rate_in, rate_of, until_of, numbers}
use Rattle.plan.specs.Refusal.{Head}

-- amounts of which all n are held or none: each is the amount, which is 0 where none is held
pub held_at : (kind : Option (List ℤ)) (n k : ℕ) → k < n
    → entry (pos 0) (pick (is_some kind) n 0) (λ k. get_or (amounts_in kind) k (pos 0)) (1 + k) ≡ get_or (amounts_in kind) k (pos 0)
held_at (Some amounts) n k h = entry_at (pos 0) n (λ k. get_or amounts k (pos 0)) k h
held_at None n k h = entry_empty (pos 0) (λ k. get_or [] k (pos 0)) (1 + k)

-- the rate of a pattern in year 2 + l
pub rate_at : (N : ℕ) (i : HeldPattern) (l : ℕ) → l < N - 1 → rate_of N i (2 + l) ≡ rate_in i l
rate_at N i l h = let e : 2 + l - 1 ≡ 1 + l = omega arith in rw e (entry_at (pos 0) (N - 1) (rate_in i) l h)

-- as its row has it
pub rate_row : (N : ℕ) (row : Pattern) (l : ℕ) → l < N - 1
    → rate_in (pattern_held N row) l ≡ pick (is_slope row) (slope (row_start row) (row_step row) (row_until row) (2 + l)) (get_or (row_rates row) l (pos 0))
rate_row N (Rates rates) l h = entry_at (pos 0) (N - 1) (λ l. get_or rates l (pos 0)) l h
rate_row N (Slope start step until) l h = refl

-- ---- where it stands
module _ (plan : Plan) where
  pub instrument_is : (j : ℕ) → j < plan.instruments → (held plan).instrument (1 + j) ≡ instrument_held plan.years (instrument_at plan j)
  unfolding instruments_held
  instrument_is = entry_at unheld_instrument plan.instruments (λ j. instrument_held plan.years (instrument_at plan j))

  pub pattern_is : (t : ℕ) → t < plan.patterns → (held plan).pattern (1 + t) ≡ pattern_held plan.years (pattern_at plan t)
  unfolding patterns_held
  pattern_is = entry_at unheld_pattern plan.patterns (λ t. pattern_held plan.years (pattern_at plan t))

  pub outflow_is : (k : ℕ) → k < plan.years → (numbers plan).o (1 + k) ≡ get_or plan.outflows k (pos 0)
  unfolding outflows_held
  outflow_is = entry_at (pos 0) plan.years (λ k. get_or plan.outflows k (pos 0))

  pub rollover_is : (d : ℕ) → d < plan.terms → (numbers plan).r (1 + d) ≡ get_or plan.rollover d 0
  unfolding rollover_held
  rollover_is = entry_at 0 plan.terms (λ d. get_or plan.rollover d 0)

  pub allocation_is : (j : ℕ) → j < plan.instruments → (numbers plan).p (1 + j) ≡ get_or plan.allocation j 0
  unfolding allocation_held
  allocation_is = entry_at 0 plan.instruments (λ j. get_or plan.allocation j 0)

  pub payment_is : (j k : ℕ) → j < plan.instruments → k < plan.years → (numbers plan).a (1 + k) (1 + j) ≡ get_or (instrument_at plan j).payments k (pos 0)
  payment_is j k h l =
      ap (λ (a : HeldInstrument). a.payment (1 + k)) (instrument_is j h)
      ∙ entry_at (pos 0) plan.years (λ k. get_or (instrument_at plan j).payments k (pos 0)) k l

  pub rate_is : (t l : ℕ) → t < plan.patterns → l < plan.years - 1 → (numbers plan).i (1 + t) (2 + l) ≡ rate_in (pattern_held plan.years (pattern_at plan t)) l
  rate_is t l h k = rate_at plan.years ((held plan).pattern (1 + t)) l k ∙ ap (λ (i : HeldPattern). rate_in i l) (pattern_is t h)

  pub until_is : (t : ℕ) → t < plan.patterns → (numbers plan).T (1 + t) ≡ pick (is_slope (pattern_at plan t)) (row_until (pattern_at plan t)) 1
  until_is t h = ap until_of (pattern_is t h)

  pub opening_is : (k : ℕ) → k < plan.years → (numbers plan).b (1 + k) ≡ get_or (amounts_in plan.opening) k (pos 0)
  unfolding opening_held
  opening_is = held_at plan.opening plan.years

  pub cost_is : (j : ℕ) → j < plan.instruments → (numbers plan).cost (1 + j) ≡ get_or (amounts_in plan.cost) j (pos 0)
  unfolding cost_held
  cost_is = held_at plan.cost plan.instruments

  -- ---- and where nothing does
  -- what holds of nothing and of every row of the plan holds at every index
  pub instrument_each : (Q : HeldInstrument → Type 0) → Q unheld_instrument → ((j : ℕ) → j < plan.instruments → Q (instrument_held plan.years (instrument_at plan j)))
      → (j : ℕ) → Q ((held plan).instrument j)
  unfolding instruments_held
  instrument_each Q none some = entry_each unheld_instrument plan.instruments _ Q none some

  pub pattern_each : (Q : HeldPattern → Type 0) → Q unheld_pattern → ((t : ℕ) → t < plan.patterns → Q (pattern_held plan.years (pattern_at plan t)))
      → (t : ℕ) → Q ((held plan).pattern t)
  unfolding patterns_held
  pattern_each Q none some = entry_each unheld_pattern plan.patterns _ Q none some

  -- money already invested that is not held pays nothing
  pub opening_none : is_some plan.opening ≡ false → (k : ℕ) → (numbers plan).b k ≡ pos 0
  unfolding opening_held
  opening_none e = rw e (entry_empty (pos 0) (λ k. get_or (amounts_in plan.opening) k (pos 0)))

  -- a cost that is not held is none
  pub cost_none : is_some plan.cost ≡ false → (j : ℕ) → (numbers plan).cost j ≡ pos 0
  unfolding cost_held
  cost_none e = rw e (entry_empty (pos 0) (λ j. get_or (amounts_in plan.cost) j (pos 0)))

  -- in year 0 nothing is paid and nothing goes out, nor past the last year
  pub payment_before : (j : ℕ) → (numbers plan).a 0 j ≡ pos 0
  payment_before = instrument_each (λ a. a.payment 0 ≡ pos 0) refl (λ j h. entry_zero (pos 0) plan.years _)

  pub payment_past : (k j : ℕ) → plan.years < k → (numbers plan).a k j ≡ pos 0
  payment_past k j h = instrument_each (λ a. a.payment k ≡ pos 0) refl (λ j l. entry_beyond (pos 0) plan.years _ k h) j

  pub outflow_before : (numbers plan).o 0 ≡ pos 0
  unfolding outflows_held
  outflow_before = entry_zero (pos 0) plan.years _

  pub outflow_past : (k : ℕ) → plan.years < k → (numbers plan).o k ≡ pos 0
  unfolding outflows_held
  outflow_past = entry_beyond (pos 0) plan.years _

  pub opening_before : (numbers plan).b 0 ≡ pos 0
  unfolding opening_held
  opening_before = entry_zero (pos 0) (openings (shape_of plan)) _

  pub opening_past : (k : ℕ) → plan.years < k → (numbers plan).b k ≡ pos 0
  unfolding opening_held
  opening_past k h = entry_beyond (pos 0) (openings (shape_of plan)) _ k (omega (arith, h, pick_few (is_some plan.opening) plan.years))

  -- there is no cost past the last instrument
  pub cost_past : (j : ℕ) → plan.instruments < j → (numbers plan).cost j ≡ pos 0
  unfolding cost_held
  cost_past j h = entry_beyond (pos 0) (costs (shape_of plan)) _ j (omega (arith, h, pick_few (is_some plan.cost) plan.instruments))

  -- no share is rolled over before the first term, nor past the last
  pub rollover_before : (numbers plan).r 0 ≡ 0
  unfolding rollover_held
  rollover_before = entry_zero 0 plan.terms _

  pub rollover_past : (d : ℕ) → plan.terms < d → (numbers plan).r d ≡ 0
  unfolding rollover_held
  rollover_past = entry_beyond 0 plan.terms _

-- ---- the plan of what is held holds just that
-- a pattern that lists its rates has no slope, and a slope lists none
pub record TidyPattern (N : ℕ) (i : HeldPattern) : Type 0 where
  pub rate : i.rate ≡ entry (pos 0) (rates_listed N i.sloped) (λ l. i.rate (1 + l))
  pub start : i.start ≡ pick i.sloped i.start (pos 0)
  pub step : i.step ≡ pick i.sloped i.step (pos 0)
  pub until : i.until ≡ pick i.sloped i.until 0

pub tidy_none : (N : ℕ) → TidyPattern N unheld_pattern
tidy_none N = record { rate = entry_none (pos 0) (N - 1); start = refl; step = refl; until = refl }

-- T of such a pattern is small where check 13 takes it, and 0 where it is not looked at
pub until_small : {N : ℕ} {i : HeldPattern} → TidyPattern N i → until_of i ≤ 30 → i.until ≤ 30
until_small {i = i} tidy few = go i.sloped i.until tidy.until few
  where
    go : (b : Bool) (n : ℕ) → n ≡ pick b n 0 → pick b n 1 ≤ 30 → n ≤ 30
    go true n e h = h
    go false n e h = omega arith

tidy_row : (N : ℕ) (row : Pattern) → TidyPattern N (pattern_held N row)
tidy_row N (Rates rates) = record { rate = entry_own (pos 0) (N - 1) _; start = refl; step = refl; until = refl }
tidy_row N (Slope start step until) = record { rate = entry_own (pos 0) 0 _; start = refl; step = refl; until = refl }

-- what is held lies within N, n, q and m, and these within the arrays
pub record Tidy (H : Held) : Type 0 where
  pub years_few : H.shape.years ≤ 30
  pub instruments_few : H.shape.instruments ≤ 16
  pub terms_few : H.shape.terms ≤ 30
  pub patterns_few : H.shape.patterns ≤ 64
  pub instrument : H.instrument ≡ entry unheld_instrument H.shape.instruments (λ j. H.instrument (1 + j))
  pub payment : (j : ℕ) → (H.instrument j).payment ≡ entry (pos 0) H.shape.years (λ k. (H.instrument j).payment (1 + k))
  pub outflow : H.outflow ≡ entry (pos 0) H.shape.years (λ k. H.outflow (1 + k))
  pub rollover : H.rollover ≡ entry 0 H.shape.terms (λ d. H.rollover (1 + d))
  pub pattern : H.pattern ≡ entry unheld_pattern H.shape.patterns (λ t. H.pattern (1 + t))
  pub rates : (t : ℕ) → TidyPattern H.shape.years (H.pattern t)
  pub allocation : H.allocation ≡ entry 0 H.shape.instruments (λ j. H.allocation (1 + j))
  pub opening : H.opening ≡ entry (pos 0) (openings H.shape) (λ k. H.opening (1 + k))
  pub cost : H.cost ≡ entry (pos 0) (costs H.shape) (λ j. H.cost (1 + j))

-- what a plan holds does
pub tidy_held : (plan : Plan) → Head (numbers plan) → Tidy (held plan)
unfolding instruments_held outflows_held rollover_held patterns_held allocation_held opening_held cost_held
tidy_held plan h = record {
  years_few = h.years_few;
  instruments_few = h.instruments_few;
  terms_few = h.terms_few;
  patterns_few = h.patterns_few;
  instrument = entry_own unheld_instrument plan.instruments _;
  payment = instrument_each plan (λ a. a.payment ≡ entry (pos 0) plan.years (λ k. a.payment (1 + k))) (entry_none (pos 0) plan.years) (λ j l. entry_own (pos 0) plan.years _);
  outflow = entry_own (pos 0) plan.years _;
  rollover = entry_own 0 plan.terms _;
  pattern = entry_own unheld_pattern plan.patterns _;
  rates = pattern_each plan (TidyPattern plan.years) (tidy_none plan.years) (λ t l. tidy_row plan.years (pattern_at plan t));
  allocation = entry_own 0 plan.instruments _;
  opening = entry_own (pos 0) (openings (shape_of plan)) _;
  cost = entry_own (pos 0) (costs (shape_of plan)) _;
}

-- amounts that are held or not are so, and those that are held are an array that is filled with f
kind_some : (is_held : Bool) (amounts : List ℤ) → is_some (pick is_held (Some amounts) None) ≡ is_held
kind_some true amounts = refl
kind_some false amounts = refl

-- the first n of an array that is filled with f are those of f
entry_table : {A : Type 0} (z d e : A) (m n : ℕ) (f : ℕ → A) → n ≤ m → entry z n (λ k. get_or (table m n f d) k e) ≡ entry z n f
entry_table z d e m n f few = fun_ext (entry_cong z n _ f (λ k l. table_at m n f d e k l few))

kind_from : (is_held : Bool) (m n : ℕ) (f : ℕ → ℤ) → n ≤ m
    → (let kind = pick is_held (Some (table m n f (pos 0))) None in entry (pos 0) (pick (is_some kind) n 0) (λ k. get_or (amounts_in kind) k (pos 0)))
    ≡ entry (pos 0) (pick is_held n 0) f
kind_from true m n f few = entry_table (pos 0) (pos 0) (pos 0) m n f few
kind_from false m n f few = fun_ext (λ k. entry_empty (pos 0) (λ k. get_or [] k (pos 0)) k ∙ sym (entry_empty (pos 0) f k))

pattern_from_law : (N : ℕ) (i : HeldPattern) → N ≤ 30 → TidyPattern N i → pattern_held N (pattern_from N i) ≡ i
pattern_from_law N i few tidy = go i.sloped i.rate i.start i.step i.until tidy
  where
    go : (sloped : Bool) (rate : ℕ → ℤ) (start step : ℤ) (until : ℕ)
        → (let i : HeldPattern = record { sloped = sloped; rate = rate; start = start; step = step; until = until } in TidyPattern N i → pattern_held N (pattern_from N i) ≡ i)
    go true rate start step until tidy =
        let none = λ (k : ℕ). entry_empty (pos 0) (λ l. get_or [] l (pos 0)) k ∙ sym (entry_empty (pos 0) (λ l. rate (1 + l)) k) in
        ap (λ (f : ℕ → ℤ). record { sloped = true; rate = f; start = start; step = step; until = until }) (fun_ext none ∙ sym tidy.rate)
    go false rate start step until tidy =
        rw (tidy.start, tidy.step, tidy.until)
        (ap (λ (f : ℕ → ℤ). record { sloped = false; rate = f; start = pos 0; step = pos 0; until = 0 })
        (entry_table (pos 0) (pos 0) (pos 0) 30 (N - 1) (λ l. rate (1 + l)) (omega arith) ∙ sym tidy.rate))

module _ (H : Held) (tidy : Tidy H) where
  same_instruments : instruments_held (plan_from H) ≡ H.instrument
  unfolding instruments_held plan_from
  same_instruments =
      fun_ext (entry_cong unheld_instrument H.shape.instruments _ (λ j. H.instrument (1 + j)) (λ j l.
      ap (instrument_held H.shape.years) (table_at 16 H.shape.instruments (λ j. instrument_from H.shape.years (H.instrument (1 + j))) no_instrument _ j l tidy.instruments_few)
      ∙ ap (λ (f : ℕ → ℤ). record { payment = f }) (entry_table (pos 0) (pos 0) (pos 0) 30 H.shape.years _ tidy.years_few ∙ sym (tidy.payment (1 + j)))))
      ∙ sym tidy.instrument

  same_patterns : patterns_held (plan_from H) ≡ H.pattern
  unfolding patterns_held plan_from
  same_patterns =
      fun_ext (entry_cong unheld_pattern H.shape.patterns _ (λ t. H.pattern (1 + t)) (λ t l.
      ap (pattern_held H.shape.years) (table_at 64 H.shape.patterns (λ t. pattern_from H.shape.years (H.pattern (1 + t))) no_pattern _ t l tidy.patterns_few)
      ∙ pattern_from_law H.shape.years (H.pattern (1 + t)) tidy.years_few (tidy.rates (1 + t))))
      ∙ sym tidy.pattern

  same_outflows : outflows_held (plan_from H) ≡ H.outflow
  unfolding outflows_held plan_from
  same_outflows = entry_table (pos 0) (pos 0) (pos 0) 30 H.shape.years _ tidy.years_few ∙ sym tidy.outflow

  same_rollover : rollover_held (plan_from H) ≡ H.rollover
  unfolding rollover_held plan_from
  same_rollover = entry_table 0 0 0 30 H.shape.terms _ tidy.terms_few ∙ sym tidy.rollover

  same_allocation : allocation_held (plan_from H) ≡ H.allocation
  unfolding allocation_held plan_from
  same_allocation = entry_table 0 0 0 16 H.shape.instruments _ tidy.instruments_few ∙ sym tidy.allocation

  same_opening : opening_held (plan_from H) ≡ H.opening
  unfolding opening_held plan_from
  same_opening = kind_from H.shape.opened 30 H.shape.years (λ k. H.opening (1 + k)) tidy.years_few ∙ sym tidy.opening

  same_cost : cost_held (plan_from H) ≡ H.cost
  unfolding cost_held plan_from
  same_cost = kind_from H.shape.costed 16 H.shape.instruments (λ j. H.cost (1 + j)) tidy.instruments_few ∙ sym tidy.cost

  same_shape : shape_of (plan_from H) ≡ H.shape
  unfolding plan_from
  same_shape = rw (kind_some H.shape.opened (table 30 H.shape.years (λ k. H.opening (1 + k)) (pos 0)), kind_some H.shape.costed (table 16 H.shape.instruments (λ j. H.cost (1 + j)) (pos 0)))

  pub held_from : held (plan_from H) ≡ H
  unfolding plan_from
  held_from = rw (same_shape, same_instruments, same_outflows, same_rollover, same_patterns, same_allocation, same_opening, same_cost)
