-- What a plan or a file holds, as it was typed: numbers by document 01's indices, each 0 outside N, n, q and m, and 0 for a kind that is
-- not held. `held` says it of a plan held as values; what an array has past these counts, or for a kind that is not held, plays no part.
-- `plan_from` is the plan that holds just this, with zeros elsewhere.
use Rattle.std.specs.Prelude.{◌≡◌, Bool, true, false, List, [], ℕ, ◌+◌, ◌-◌, ◌<◌, get_or, replicate, ℤ, pos, negsuc, Option, Some, None, is_some}
use Rattle.whole.specs.Range.{Between}
use Rattle.whole.specs.Test.{pick}
use Rattle.whole.specs.Entry.{entry}
use Rattle.whole.specs.Table.{table}
use Rattle.plan.specs.declared.Shape.{Shape}
use Rattle.plan.specs.declared.Instrument.{Instrument}
use Rattle.plan.specs.declared.Pattern.{Pattern}
use Rattle.plan.specs.declared.Pattern.TheVariants.{Rates, Slope}
use Rattle.plan.specs.declared.Plan.{Plan}

-- an instrument: what it pays in year k
pub record HeldInstrument : Type 0 where
  pub payment : (k : ℕ) → ℤ

-- a pattern: its rates, of which the first is that of year 2; or, where it is a slope (document 02, item 2), its start i_0, its step d
-- and T, the year from which on it is level
pub record HeldPattern : Type 0 where
  pub sloped : Bool
  pub rate : (l : ℕ) → ℤ
  pub start : ℤ
  pub step : ℤ
  pub until : ℕ

pub record Held : Type 0 where
  pub shape : Shape
  pub instrument : (j : ℕ) → HeldInstrument
  pub outflow : (k : ℕ) → ℤ
  pub rollover : (d : ℕ) → ℕ
  pub pattern : (t : ℕ) → HeldPattern
  pub allocation : (j : ℕ) → ℕ
  pub opening : (k : ℕ) → ℤ
  pub cost : (j : ℕ) → ℤ

-- nothing is held that document 01 does not know: no money already invested, no cost at the horizon, and no slope
pub record PlainHeld (H : Held) : Type 0 where
  pub opened : H.shape.opened ≡ false
  pub costed : H.shape.costed ≡ false
  pub sloped : (t : ℕ) → (H.pattern t).sloped ≡ false

-- 1 where a kind is held, 0 where it is not: how many records it has
abbrev pub flag : Bool → ℕ
flag is_held = pick is_held 1 0

-- for how many years money already invested is held (document 02, item 1): all N, or none
abbrev pub openings : Shape → ℕ
openings h = pick h.opened h.years 0

-- of how many instruments the cost that is left at the horizon is held (document 02, item 6): of all n, or of none
abbrev pub costs : Shape → ℕ
costs h = pick h.costed h.instruments 0

-- how many rates a pattern lists over N years: those of years 2 to N, or none where it is a slope
abbrev pub rates_listed : (N : ℕ) → (sloped : Bool) → ℕ
rates_listed N sloped = pick sloped 0 (N - 1)

-- what is outside n and m
abbrev pub unheld_instrument : HeldInstrument
unheld_instrument = record { payment = λ k. pos 0 }

abbrev pub unheld_pattern : HeldPattern
unheld_pattern = record { sloped = false; rate = λ l. pos 0; start = pos 0; step = pos 0; until = 0 }

-- ---- of a plan
-- one row over N years
abbrev pub instrument_held : (N : ℕ) → Instrument → HeldInstrument
instrument_held N row = record { payment = entry (pos 0) N (λ k. get_or row.payments k (pos 0)) }

-- what a pattern carries of either kind: the rates that it lists, none where it is a slope, and the start, the step and T of a slope,
-- each 0 where it is none
abbrev pub is_slope : Pattern → Bool
is_slope (Rates rates) = false
is_slope (Slope start step until) = true

abbrev pub row_rates : Pattern → List ℤ
row_rates (Rates rates) = rates
row_rates (Slope start step until) = []

abbrev pub row_start : Pattern → ℤ
row_start (Rates rates) = pos 0
row_start (Slope start step until) = start

abbrev pub row_step : Pattern → ℤ
row_step (Rates rates) = pos 0
row_step (Slope start step until) = step

abbrev pub row_until : Pattern → ℕ
row_until (Rates rates) = 0
row_until (Slope start step until) = until

abbrev pub pattern_held : (N : ℕ) → Pattern → HeldPattern
pattern_held N row = record {
  sloped = is_slope row;
  rate = entry (pos 0) (rates_listed N (is_slope row)) (λ l. get_or (row_rates row) l (pos 0));
  start = row_start row;
  step = row_step row;
  until = row_until row;
}

-- what is read past the end of an array of patterns
abbrev pub missing_pattern : Pattern
missing_pattern = Rates []

-- the amounts of a kind, none where it is not held
abbrev pub amounts_in : Option (List ℤ) → List ℤ
amounts_in None = []
amounts_in (Some amounts) = amounts

module _ (plan : Plan) where
  abbrev pub shape_of : Shape
  shape_of = record {
    years = plan.years;
    instruments = plan.instruments;
    terms = plan.terms;
    patterns = plan.patterns;
    opened = is_some plan.opening;
    costed = is_some plan.cost;
  }

  -- row j of the instruments and row t of the patterns, counted from 0
  abbrev pub instrument_at : (j : ℕ) → Instrument
  instrument_at j = get_or plan.instrument j (record { payments = [] })

  abbrev pub pattern_at : (t : ℕ) → Pattern
  pattern_at t = get_or plan.pattern t missing_pattern

  unfoldable pub instruments_held : (j : ℕ) → HeldInstrument
  instruments_held = entry unheld_instrument plan.instruments (λ j. instrument_held plan.years (instrument_at j))

  unfoldable pub outflows_held : (k : ℕ) → ℤ
  outflows_held = entry (pos 0) plan.years (λ k. get_or plan.outflows k (pos 0))

  unfoldable pub rollover_held : (d : ℕ) → ℕ
  rollover_held = entry 0 plan.terms (λ d. get_or plan.rollover d 0)

  unfoldable pub patterns_held : (t : ℕ) → HeldPattern
  patterns_held = entry unheld_pattern plan.patterns (λ t. pattern_held plan.years (pattern_at t))

  unfoldable pub allocation_held : (j : ℕ) → ℕ
  allocation_held = entry 0 plan.instruments (λ j. get_or plan.allocation j 0)

  unfoldable pub opening_held : (k : ℕ) → ℤ
  opening_held = entry (pos 0) (openings shape_of) (λ k. get_or (amounts_in plan.opening) k (pos 0))

  unfoldable pub cost_held : (j : ℕ) → ℤ
  cost_held = entry (pos 0) (costs shape_of) (λ j. get_or (amounts_in plan.cost) j (pos 0))

  abbrev pub held : Held
  held = record {
    shape = shape_of;
    instrument = instruments_held;
    outflow = outflows_held;
    rollover = rollover_held;
    pattern = patterns_held;
    allocation = allocation_held;
    opening = opening_held;
    cost = cost_held;
  }

-- a pattern's types say that a start and a step have 32 bits; no check does
pub record SlopeTyped (row : Pattern) : Type 0 where
  pub start : Between (negsuc 2_147_483_647) (pos 2_147_483_647) (row_start row)
  pub step : Between (negsuc 2_147_483_647) (pos 2_147_483_647) (row_step row)

-- those of a plan's patterns
abbrev pub Typed : Plan → Type 0
Typed plan = (t : ℕ) → t < plan.patterns → SlopeTyped (pattern_at plan t)

-- ---- the plan of what is held
-- nothing held
abbrev pub no_instrument : Instrument
no_instrument = record { payments = replicate 30 (pos 0) }

abbrev pub no_pattern : Pattern
no_pattern = Rates (replicate 30 (pos 0))

abbrev pub no_plan : Plan
no_plan = record {
  years = 0;
  instruments = 0;
  terms = 0;
  patterns = 0;
  instrument = replicate 16 no_instrument;
  outflows = replicate 30 (pos 0);
  rollover = replicate 30 0;
  pattern = replicate 64 no_pattern;
  allocation = replicate 16 0;
  opening = None;
  cost = None;
}

-- one row of it
abbrev pub instrument_from : (N : ℕ) → HeldInstrument → Instrument
instrument_from N a = record { payments = table 30 N (λ k. a.payment (1 + k)) (pos 0) }

abbrev pub pattern_from : (N : ℕ) → HeldPattern → Pattern
pattern_from N i = pick i.sloped (Slope i.start i.step i.until) (Rates (table 30 (N - 1) (λ l. i.rate (1 + l)) (pos 0)))

unfoldable pub plan_from : Held → Plan
plan_from H =
    let h = H.shape in
    record {
      years = h.years;
      instruments = h.instruments;
      terms = h.terms;
      patterns = h.patterns;
      instrument = table 16 h.instruments (λ j. instrument_from h.years (H.instrument (1 + j))) no_instrument;
      outflows = table 30 h.years (λ k. H.outflow (1 + k)) (pos 0);
      rollover = table 30 h.terms (λ d. H.rollover (1 + d)) 0;
      pattern = table 64 h.patterns (λ t. pattern_from h.years (H.pattern (1 + t))) no_pattern;
      allocation = table 16 h.instruments (λ j. H.allocation (1 + j)) 0;
      opening = pick h.opened (Some (table 30 h.years (λ k. H.opening (1 + k)) (pos 0))) None;
      cost = pick h.costed (Some (table 16 h.instruments (λ j. H.cost (1 + j)) (pos 0))) None;
    }
