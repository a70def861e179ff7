-- The arrays of a plan hold that plan.
use mathlib.Core.Path.{◌≡◌, refl, sym, ap, ◌∙◌}
use mathlib.Core.Bool.{Bool, true, false}
use mathlib.Core.Logic.{⊎_elim}
use mathlib.Core.List.{List, [], ◌∷◌, ◌++◌}
use Prim.Native.Nat.{ℕ, zero, suc, ◌+◌, ◌-◌, ◌*◌, ◌≤◌, ◌<◌}
use native.Mathlib.Nat.{not-suc-le-zero}
use native.Mathlib.Omega.{arith}
use borrow.Author.Tests.{lt-ltb}
use lib.ListN.{length, get_or, drop, replicate, length-append, length-drop, length-replicate, get_or-append}
use lib.Seq.{take_all, take_at, take-append-le, drop_at, drop-append-le, get_or-append-add, ext_get_or}
use lib.Dec.{ltb}
use lib.IntN.{ℤ, pos}
use Rattle.std.specs.Bool.{then_some}
use Rattle.std.specs.Prelude.{Option, Some, None, is_some, unwrap_or}
use Rattle.whole.specs.Table.{table}
use Rattle.whole.specs.Test.{pick}
use Rattle.whole.proofs.Laws.{ℕ_cases}
use Rattle.whole.proofs.Table.{length_table, table_at, table_each}
use Rattle.plan.specs.declared.Instrument.{Instrument}
use Rattle.plan.specs.declared.Pattern.{Pattern}
use Rattle.plan.specs.declared.Pattern.TheVariants.{Rates, Slope}
use Rattle.plan.specs.declared.Plan.{Plan}
use Rattle.plan.specs.Held.{HeldPattern, Held, flag, is_slope, row_start, row_step, row_until, instrument_at, pattern_at, missing_pattern, no_instrument, no_pattern, pattern_from, plan_from}
use Rattle.plan.specs.Numbers.{meaning}
use Rattle.plan.specs.Refusal.{Head}
use Rattle.arrays.specs.Arrays.{joined, values_at, outflows_from, opening_from, cost_from, allocation_from, sloped_from, until_from, costed_from, start_from, step_from, rates_in, of_each, sloped_of, untils_of, starts_of, steps_of, opening_in, cost_in, head_counts, all_counts, all_amounts, all_shares, all_rates, instruments_of, byte_of, pattern_of, patterns_of, plan_of_arrays}
use Rattle.arrays.proofs.Copying.{length_each}

-- ---- parts
module _ {A : Type 0} where
  -- of the first of two lists, and the second
  part_first : (xs ys : List A) (at n : ℕ) → at + n ≤ length xs → values_at (xs ++ ys) at n ≡ values_at xs at n
  unfolding values_at
  part_first xs ys at n h = rw (drop-append-le at xs ys (omega arith)) (take-append-le n (drop at xs) ys (simp length-drop (omega arith)))

  part_second : (xs ys : List A) (at n : ℕ) → length xs ≡ at → length ys ≡ n → values_at (xs ++ ys) at n ≡ ys
  unfolding values_at
  part_second xs ys at n before few = rw (drop_at xs ys at before) (take_all n ys (omega arith))

  -- of rows of thirty that are joined: row j stands from place 30 j on
  module _ (row : ℕ → List A) where
    length_joined : (n : ℕ) → ((j : ℕ) → j < n → length (row j) ≡ 30) → length (joined n row) ≡ 30 * n
    unfolding joined
    length_joined zero long = refl
    length_joined (suc n) long =
        length-append (joined n row) (row n) ∙ omega (arith, length_joined n (λ j h. long j (omega arith)), long n (omega arith))

    part_joined : (n : ℕ) → ((j : ℕ) → j < n → length (row j) ≡ 30) → (j : ℕ) → j < n → values_at (joined n row) (30 * j) 30 ≡ row j
    unfolding joined
    part_joined zero long j h = absurd (not-suc-le-zero h)
    part_joined (suc n) long j h =
        let before : length (joined n row) ≡ 30 * n = length_joined n (λ i k. long i (omega arith)) in
        ⊎_elim
        (λ (l : j < n). part_first (joined n row) (row n) (30 * j) 30 (omega arith) ∙ part_joined n (λ i k. long i (omega arith)) j l)
        (λ (l : n ≤ j). let e : j ≡ n = omega arith in rw e (part_second (joined n row) (row n) (30 * n) 30 before (long n (omega arith))))
        (ℕ_cases j n)

-- what is made of each of 64 patterns
module _ {A : Type 0} (f : Pattern → A) (none : A) (rows : List Pattern) where
  -- stands in its order after what is before it
  each_last : (xs : List A) (at t : ℕ) → length xs ≡ at → t < 64 → get_or (xs ++ of_each f none rows) (at + t) none ≡ f (get_or rows t missing_pattern)
  unfolding of_each
  each_last xs at t before h = rw (← before) (get_or-append-add xs (of_each f none rows) t none ∙ table_at 64 64 _ none none t h (omega arith))

  -- whatever comes after it
  each_at : (xs ys : List A) (at t : ℕ) → length xs ≡ at → t < 64 → get_or ((xs ++ of_each f none rows) ++ ys) (at + t) none ≡ f (get_or rows t missing_pattern)
  each_at xs ys at t before h =
      get_or-append (xs ++ of_each f none rows) ys none (at + t) (rw (length-append xs (of_each f none rows)) (omega (arith, before, length_each f none rows))) ∙ each_last xs at t before h

-- rows made of the parts of xs, each of which is what the row had
rows_again : {A R : Type 0} (make : List A → R) (none : R) (n : ℕ) (rows : List R) (xs : List A) → length rows ≡ n
    → ((j : ℕ) → j < n → make (values_at xs (30 * j) 30) ≡ get_or rows j (make [])) → table n n (λ j. make (values_at xs (30 * j) 30)) none ≡ rows
rows_again make none n rows xs count same =
    let few = length_table n n (λ j. make (values_at xs (30 * j) 30)) none (omega arith) in
    ext_get_or (make []) _ rows (few ∙ sym count) (λ j l. let h : j < n = omega (arith, few) in table_at n n _ none (make []) j h (omega arith) ∙ same j h)

-- what is held where its flag is 1, and a pattern made of its own numbers
held_again : {A : Type 0} (none : A) (x : Option A) → then_some (ltb 0 (flag (is_some x))) (unwrap_or x none) ≡ x
held_again none None = refl
held_again none (Some x) = refl

row_again : (row : Pattern) → row_until row < 256 → pick (ltb 0 (flag (is_slope row))) (Slope (row_start row) (row_step row) (byte_of (row_until row))) (Rates (rates_in row)) ≡ row
row_again (Rates rates) few = refl
row_again (Slope start step until) few = rw (lt-ltb until 256 few) refl

-- ---- a plan whose arrays have their lengths, and each T of which is a byte
pub record SizedRow (row : Pattern) : Type 0 where
  pub rates : length (rates_in row) ≡ 30
  pub until : row_until row < 256

pub record Sized (p : Plan) : Type 0 where
  pub instruments : length p.instrument ≡ 16
  pub payments : (j : ℕ) → j < 16 → length (instrument_at p j).payments ≡ 30
  pub outflows : length p.outflows ≡ 30
  pub rollover : length p.rollover ≡ 30
  pub patterns : length p.pattern ≡ 64
  pub rows : (t : ℕ) → t < 64 → SizedRow (pattern_at p t)
  pub allocation : length p.allocation ≡ 16
  pub opening : length (opening_in p) ≡ 30
  pub cost : length (cost_in p) ≡ 16

module _ (p : Plan) (s : Sized p) where
  abbrev paid : (j : ℕ) → List ℤ
  paid j = (instrument_at p j).payments

  paid_long : length (joined 16 paid) ≡ outflows_from
  paid_long = length_joined paid 16 s.payments

  -- the amounts before the money already invested
  abbrev flows : List ℤ
  flows = joined 16 paid ++ p.outflows

  flows_long : length flows ≡ opening_from
  flows_long = length-append (joined 16 paid) p.outflows ∙ omega (arith, paid_long, s.outflows)

  -- and those before the cost
  abbrev invested : List ℤ
  invested = flows ++ opening_in p

  invested_long : length invested ≡ cost_from
  invested_long = length-append flows (opening_in p) ∙ omega (arith, flows_long, s.opening)

  instruments_again : instruments_of (all_amounts p) ≡ p.instrument
  unfolding instruments_of all_amounts
  instruments_again =
      rows_again (λ (l : List ℤ). record { payments = l }) no_instrument 16 p.instrument _ s.instruments
      (λ j h. ap (λ (l : List ℤ). record { payments = l })
      (part_first invested (cost_in p) (30 * j) 30 (omega (arith, invested_long))
      ∙ part_first flows (opening_in p) (30 * j) 30 (omega (arith, flows_long))
      ∙ part_first (joined 16 paid) p.outflows (30 * j) 30 (omega (arith, paid_long)) ∙ part_joined paid 16 s.payments j h))

  outflows_again : values_at (all_amounts p) outflows_from 30 ≡ p.outflows
  unfolding all_amounts
  outflows_again =
      part_first invested (cost_in p) outflows_from 30 (omega (arith, invested_long))
      ∙ part_first flows (opening_in p) outflows_from 30 (omega (arith, flows_long))
      ∙ part_second (joined 16 paid) p.outflows outflows_from 30 paid_long s.outflows

  opening_again : values_at (all_amounts p) opening_from 30 ≡ opening_in p
  unfolding all_amounts
  opening_again =
      part_first invested (cost_in p) opening_from 30 (omega (arith, invested_long)) ∙ part_second flows (opening_in p) opening_from 30 flows_long s.opening

  cost_again : values_at (all_amounts p) cost_from 16 ≡ cost_in p
  unfolding all_amounts
  cost_again = part_second invested (cost_in p) cost_from 16 invested_long s.cost

  -- the counts before T and before the last, and the rates before the starts and before the steps
  abbrev listed : (t : ℕ) → List ℤ
  listed t = rates_in (pattern_at p t)

  listed_long : length (joined 64 listed) ≡ start_from
  listed_long = length_joined listed 64 (λ t h. (s.rows t h).rates)

  abbrev headed : List ℕ
  headed = head_counts p ++ sloped_of p.pattern

  headed_long : length headed ≡ until_from
  headed_long = length-append (head_counts p) (sloped_of p.pattern) ∙ omega (arith, length_each (λ row. flag (is_slope row)) 0 p.pattern)

  abbrev counted : List ℕ
  counted = headed ++ untils_of p.pattern

  counted_long : length counted ≡ costed_from
  counted_long = length-append headed (untils_of p.pattern) ∙ omega (arith, headed_long, length_each row_until 0 p.pattern)

  count_first : (k : ℕ) → k < costed_from → get_or (all_counts p) k 0 ≡ get_or counted k 0
  unfolding all_counts
  count_first k h = get_or-append counted (flag (is_some p.cost) ∷ []) 0 k (omega (arith, counted_long))

  costed_again : get_or (all_counts p) costed_from 0 ≡ flag (is_some p.cost)
  unfolding all_counts
  costed_again =
      let last = flag (is_some p.cost) ∷ [] in
      let e : costed_from ≡ length counted + 0 = omega (arith, counted_long) in
      ap (λ (k : ℕ). get_or (counted ++ last) k 0) e ∙ get_or-append-add counted last 0 0

  abbrev started : List ℤ
  started = joined 64 listed ++ starts_of p.pattern

  started_long : length started ≡ step_from
  started_long = length-append (joined 64 listed) (starts_of p.pattern) ∙ omega (arith, listed_long, length_each row_start (pos 0) p.pattern)

  pattern_again : (t : ℕ) → t < 64 → pattern_of (all_counts p) (all_rates p) t ≡ pattern_at p t
  unfolding all_rates
  pattern_again t h =
      rw (
        part_first started (steps_of p.pattern) (30 * t) 30 (omega (arith, started_long)),
        part_first (joined 64 listed) (starts_of p.pattern) (30 * t) 30 (omega (arith, listed_long)),
        part_joined listed 64 (λ t h. (s.rows t h).rates) t h,
        each_at row_start (pos 0) p.pattern (joined 64 listed) (steps_of p.pattern) start_from t listed_long h,
        each_last row_step (pos 0) p.pattern started step_from t started_long h,
        count_first (sloped_from + t) (omega arith),
        count_first (until_from + t) (omega arith),
        each_at (λ row. flag (is_slope row)) 0 p.pattern (head_counts p) (untils_of p.pattern) sloped_from t refl h,
        each_last row_until 0 p.pattern headed until_from t headed_long h,
      )
      (row_again (pattern_at p t) (s.rows t h).until)

  patterns_again : patterns_of (all_counts p) (all_rates p) ≡ p.pattern
  unfolding patterns_of
  patterns_again =
      let few = length_table 64 64 (pattern_of (all_counts p) (all_rates p)) no_pattern (omega arith) in
      ext_get_or missing_pattern _ p.pattern (few ∙ sym s.patterns)
      (λ t l. let h : t < 64 = omega (arith, few) in table_at 64 64 _ no_pattern missing_pattern t h (omega arith) ∙ pattern_again t h)

  pub plan_again : plan_of_arrays (all_counts p) (all_amounts p) (all_shares p) (all_rates p) ≡ p
  unfolding plan_of_arrays values_at all_counts
  plan_again =
      rw (instruments_again, outflows_again, opening_again, cost_again, patterns_again, costed_again, held_again (replicate 30 (pos 0)) p.opening, held_again (replicate 16 (pos 0)) p.cost)
      (rw (take_at p.rollover p.allocation 30 s.rollover, part_second p.rollover p.allocation allocation_from 16 s.rollover s.allocation))

-- the plan of what is held is such a plan
row_from : (N : ℕ) (i : HeldPattern) → N ≤ 30 → i.until < 256 → SizedRow (pattern_from N i)
row_from N i few small = go i.sloped
  where
    go : (sloped : Bool) → SizedRow (pick sloped (Slope i.start i.step i.until) (Rates (table 30 (N - 1) (λ l. i.rate (1 + l)) (pos 0))))
    go true = record { rates = length-replicate 30 (pos 0); until = small }
    go false = record { rates = length_table 30 _ _ _ (omega (arith, few)); until = omega arith }

held_from : (held : Bool) (m n : ℕ) (f : ℕ → ℤ) → n ≤ m → length (unwrap_or (pick held (Some (table m n f (pos 0))) None) (replicate m (pos 0))) ≡ m
held_from true m n f few = length_table m n f (pos 0) few
held_from false m n f few = length-replicate m (pos 0)

pub sized_from : (H : Held) → Head (meaning H) → ((t : ℕ) → (H.pattern t).until < 256) → Sized (plan_from H)
unfolding plan_from
sized_from H few small = record {
  instruments = length_table 16 _ _ _ few.instruments_few;
  payments =
      table_each (λ (r : Instrument). length r.payments ≡ 30) 16 _ _ _ _ few.instruments_few refl (λ j h. length_table 30 _ _ _ few.years_few);
  outflows = length_table 30 _ _ _ few.years_few;
  rollover = length_table 30 _ _ _ few.terms_few;
  patterns = length_table 64 _ _ _ few.patterns_few;
  rows =
      table_each SizedRow 64 _ _ _ _ few.patterns_few (record { rates = refl; until = omega arith }) (λ t h. row_from H.shape.years (H.pattern (1 + t)) few.years_few (small (1 + t)));
  allocation = length_table 16 _ _ _ few.instruments_few;
  opening = held_from H.shape.opened 30 H.shape.years _ few.years_few;
  cost = held_from H.shape.costed 16 H.shape.instruments _ few.instruments_few;
}

pub from_again : (H : Held) → Head (meaning H) → ((t : ℕ) → (H.pattern t).until < 256) → let p = plan_from H in plan_of_arrays (all_counts p) (all_amounts p) (all_shares p) (all_rates p) ≡ p
from_again H few small = plan_again (plan_from H) (sized_from H few small)
