-- A plan in four plain arrays, one for each width of number, as programs in C lend them. The parts of a plan stand in them one after the
-- other, and so do the rows of a table.
use Rattle.std.specs.Bool.{then_some}
use Rattle.std.specs.Prelude.{is_some, unwrap_or, List, [], ◌∷◌, ◌++◌, replicate, ℕ, zero, suc, ◌+◌, ◌*◌, ltb, ℤ, pos, get_or, take, drop}
use Rattle.whole.specs.Test.{pick}
use Rattle.whole.specs.Table.{table}
use Rattle.reckoning.specs.declared.Row.{Row}
use Rattle.plan.specs.declared.Instrument.{Instrument}
use Rattle.plan.specs.declared.Pattern.{Pattern}
use Rattle.plan.specs.declared.Pattern.TheVariants.{Rates, Slope}
use Rattle.plan.specs.declared.Plan.{Plan}
use Rattle.plan.specs.Held.{flag, is_slope, row_start, row_step, row_until, instrument_at, pattern_at, missing_pattern, no_instrument, no_pattern}

module _ {A : Type 0} where
  -- n rows, one after the other
  unfoldable pub joined : (n : ℕ) → (row : ℕ → List A) → List A
  joined zero row = []
  joined (suc n) row = joined n row ++ row n

  -- n values from place `at` on
  unfoldable pub values_at : List A → (at n : ℕ) → List A
  values_at xs at n = take n (drop at xs)

-- ---- the arrays of a plan
-- where the outflows, the money already invested and the cost that is left at the horizon begin among the amounts, the allocation among the
-- shares, which patterns are slopes and their T among the counts, where it stands there whether such a cost is held, and where the starts and
-- the steps of slopes begin among the rates
abbrev pub outflows_from : ℕ
outflows_from = 480

abbrev pub opening_from : ℕ
opening_from = 510

abbrev pub cost_from : ℕ
cost_from = 540

abbrev pub allocation_from : ℕ
allocation_from = 30

abbrev pub sloped_from : ℕ
sloped_from = 5

abbrev pub until_from : ℕ
until_from = 69

abbrev pub costed_from : ℕ
costed_from = 133

abbrev pub start_from : ℕ
start_from = 1_920

abbrev pub step_from : ℕ
step_from = 1_984

-- the rates that a pattern lists, and zeros of a slope
abbrev pub rates_in : Pattern → List ℤ
rates_in (Rates rates) = rates
rates_in (Slope start step until) = replicate 30 (pos 0)

-- something of each of 64 patterns
unfoldable pub of_each : {A : Type 0} → (f : Pattern → A) → (none : A) → List Pattern → List A
of_each f none rows = table 64 64 (λ t. f (get_or rows t missing_pattern)) none

abbrev pub sloped_of : List Pattern → List ℕ
sloped_of = of_each (λ row. flag (is_slope row)) 0

abbrev pub untils_of : List Pattern → List ℕ
untils_of = of_each row_until 0

abbrev pub starts_of : List Pattern → List ℤ
starts_of = of_each row_start (pos 0)

abbrev pub steps_of : List Pattern → List ℤ
steps_of = of_each row_step (pos 0)

-- N, n, q and m, whether money already invested is held, which patterns are slopes, T of each, and whether the cost that is left at the
-- horizon is held
abbrev pub head_counts : Plan → List ℕ
head_counts plan = plan.years ∷ plan.instruments ∷ plan.terms ∷ plan.patterns ∷ flag (is_some plan.opening) ∷ []

unfoldable pub all_counts : Plan → List ℕ
all_counts plan = ((head_counts plan ++ sloped_of plan.pattern) ++ untils_of plan.pattern) ++ flag (is_some plan.cost) ∷ []

-- the money already invested and the cost that is left at the horizon, and zeros where a plan holds none
abbrev pub opening_in : Plan → List ℤ
opening_in plan = unwrap_or plan.opening (replicate 30 (pos 0))

abbrev pub cost_in : Plan → List ℤ
cost_in plan = unwrap_or plan.cost (replicate 16 (pos 0))

-- the payments of the 16 instruments, then the outflows, then the money already invested, then the cost that is left at the horizon
unfoldable pub all_amounts : Plan → List ℤ
all_amounts plan = ((joined 16 (λ j. (instrument_at plan j).payments) ++ plan.outflows) ++ opening_in plan) ++ cost_in plan

-- the rollover, then the allocation
abbrev pub all_shares : Plan → List ℕ
all_shares plan = plan.rollover ++ plan.allocation

-- the rates of the 64 patterns, then the start of each, then the step of each
unfoldable pub all_rates : Plan → List ℤ
all_rates plan = (joined 64 (λ t. rates_in (pattern_at plan t)) ++ starts_of plan.pattern) ++ steps_of plan.pattern

-- the 30 rows of a table of gammas
unfoldable pub all_gammas : List Row → List ℤ
all_gammas rows = joined 30 (λ j. (get_or rows j (record { values = [] })).values)

-- ---- the plan that such arrays hold
-- its instruments, and its patterns
unfoldable pub instruments_of : (amounts : List ℤ) → List Instrument
instruments_of amounts = table 16 16 (λ j. record { payments = values_at amounts (30 * j) 30 }) no_instrument

-- a number that no byte has is taken as 0, which is no T either
abbrev pub byte_of : ℕ → ℕ
byte_of n = pick (ltb n 256) n 0

abbrev pub pattern_of : (counts : List ℕ) (rates : List ℤ) (t : ℕ) → Pattern
pattern_of counts rates t =
    pick (ltb 0 (get_or counts (sloped_from + t) 0))
    (Slope (get_or rates (start_from + t) (pos 0)) (get_or rates (step_from + t) (pos 0)) (byte_of (get_or counts (until_from + t) 0)))
    (Rates (values_at rates (30 * t) 30))

unfoldable pub patterns_of : (counts : List ℕ) (rates : List ℤ) → List Pattern
patterns_of counts rates = table 64 64 (pattern_of counts rates) no_pattern

-- the whole plan; any number but 0 says that money already invested is held, or the cost that is left at the horizon, or that a pattern is
-- a slope
unfoldable pub plan_of_arrays : (counts : List ℕ) → (amounts : List ℤ) → (shares : List ℕ) → (rates : List ℤ) → Plan
plan_of_arrays counts amounts shares rates = record {
  years = get_or counts 0 0;
  instruments = get_or counts 1 0;
  terms = get_or counts 2 0;
  patterns = get_or counts 3 0;
  instrument = instruments_of amounts;
  outflows = values_at amounts outflows_from 30;
  rollover = values_at shares 0 30;
  pattern = patterns_of counts rates;
  allocation = values_at shares allocation_from 16;
  opening = then_some (ltb 0 (get_or counts 4 0)) (values_at amounts opening_from 30);
  cost = then_some (ltb 0 (get_or counts costed_from 0)) (values_at amounts cost_from 16);
}
