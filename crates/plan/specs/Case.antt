-- The plans of the worked cases: L and its neighbours, the plans of one year, those of four with one pattern, those of three with a slope and
-- a list, those of fourteen that come near the limit, and those of six at several rollovers.
use Rattle.std.specs.Prelude.{Bool, false, List, [], ◌∷◌, ◌++◌, ℕ, ◌-◌, replicate, ℤ, pos, Option, Some, None}
use Rattle.whole.specs.Test.{pick}
use Rattle.plan.specs.declared.Instrument.{Instrument}
use Rattle.plan.specs.declared.Pattern.{Pattern}
use Rattle.plan.specs.declared.Pattern.TheVariants.{Rates, Slope}
use Rattle.plan.specs.declared.Plan.{Plan}
use Rattle.plan.specs.Held.{no_instrument, no_pattern}

-- a pattern that lists these rates, and one that is a slope
abbrev pub listed : List ℤ → Pattern
listed = Rates

abbrev pub stepped : (start step : ℤ) (until : ℕ) → Pattern
stepped = Slope

-- amounts that are held or not
abbrev kept : Bool → List ℤ → Option (List ℤ)
kept is_held amounts = pick is_held (Some amounts) None

-- L, but for the share that is rolled over in the first term and the rate of the first pattern
unfoldable pub near_L : (share : ℕ) (rate : ℤ) → Plan
near_L share rate = record {
  years = 2;
  instruments = 2;
  terms = 1;
  patterns = 2;
  instrument =
      record { payments = pos 1_080_000_000 ∷ replicate 29 (pos 0) }
      ∷ record { payments = pos 80_000_000 ∷ pos 1_080_000_000 ∷ replicate 28 (pos 0) }
      ∷ replicate 14 no_instrument;
  outflows = pos 0 ∷ pos 1_160_000_000 ∷ replicate 28 (pos 0);
  rollover = share ∷ replicate 29 0;
  pattern = listed (rate ∷ replicate 29 (pos 0)) ∷ listed (pos 90_000 ∷ replicate 29 (pos 0)) ∷ replicate 62 no_pattern;
  allocation = 500_000 ∷ 500_000 ∷ replicate 14 0;
  opening = None;
  cost = None;
}

unfoldable pub plan_L : Plan
plan_L = near_L 1_000_000 (pos 60_000)

-- one year, one payment of 1080000000, an outflow, and money already invested, held or not
unfoldable pub renewed : (outflow : ℤ) (opened : Bool) (money : ℤ) → Plan
renewed outflow opened money = record {
  years = 1;
  instruments = 1;
  terms = 1;
  patterns = 1;
  instrument = record { payments = pos 1_080_000_000 ∷ replicate 29 (pos 0) } ∷ replicate 15 no_instrument;
  outflows = outflow ∷ replicate 29 (pos 0);
  rollover = 1_000_000 ∷ replicate 29 0;
  pattern = replicate 64 no_pattern;
  allocation = 1_000_000 ∷ replicate 15 0;
  opening = kept opened (money ∷ replicate 29 (pos 0));
  cost = None;
}

-- without such money
unfoldable pub one_year : (outflow : ℤ) → Plan
one_year outflow = renewed outflow false (pos 0)

-- one year, two notes that pay 1080000000 each, half of either, an outflow, and the cost of each that is left at the horizon, held or not
unfoldable pub longer : (outflow : ℤ) (costed : Bool) (first second : ℤ) → Plan
longer outflow costed first second =
    let note : Instrument = record { payments = pos 1_080_000_000 ∷ replicate 29 (pos 0) } in
    record {
      years = 1;
      instruments = 2;
      terms = 1;
      patterns = 1;
      instrument = note ∷ note ∷ replicate 14 no_instrument;
      outflows = outflow ∷ replicate 29 (pos 0);
      rollover = 1_000_000 ∷ replicate 29 0;
      pattern = replicate 64 no_pattern;
      allocation = 500_000 ∷ 500_000 ∷ replicate 14 0;
      opening = None;
      cost = kept costed (first ∷ second ∷ replicate 14 (pos 0));
    }

-- fourteen years at 20 percent, in which nothing that is invested matures: a note that pays nothing, an outflow in each of thirteen years and
-- another in the last, and the cost of the note
unfoldable pub far_out : (outflow last : ℤ) (costed : Bool) (cost : ℤ) → Plan
far_out outflow last costed cost = record {
  years = 14;
  instruments = 1;
  terms = 30;
  patterns = 1;
  instrument = replicate 16 no_instrument;
  outflows = replicate 13 outflow ++ (last ∷ replicate 16 (pos 0));
  rollover = replicate 29 0 ++ (1_000_000 ∷ []);
  pattern = listed (replicate 30 (pos 200_000)) ∷ replicate 63 no_pattern;
  allocation = 1_000_000 ∷ replicate 15 0;
  opening = None;
  cost = kept costed (cost ∷ replicate 15 (pos 0));
}

-- four years, 1000000000 in the first, all of it rolled over every year, and this pattern
unfoldable pub four_years : Pattern → Plan
four_years row = record {
  years = 4;
  instruments = 1;
  terms = 1;
  patterns = 1;
  instrument = record { payments = pos 1_000_000_000 ∷ replicate 29 (pos 0) } ∷ replicate 15 no_instrument;
  outflows = replicate 30 (pos 0);
  rollover = 1_000_000 ∷ replicate 29 0;
  pattern = row ∷ replicate 63 no_pattern;
  allocation = 1_000_000 ∷ replicate 15 0;
  opening = None;
  cost = None;
}

-- three years, one payment of 1080000000, and two patterns: a slope, and a list of 60000 and 90000; and what stands past them
unfoldable pub sloping : (start step : ℤ) (until other : ℕ) → Plan
sloping start step until other = record {
  years = 3;
  instruments = 1;
  terms = 1;
  patterns = 2;
  instrument = record { payments = pos 1_080_000_000 ∷ replicate 29 (pos 0) } ∷ replicate 15 no_instrument;
  outflows = replicate 30 (pos 0);
  rollover = 1_000_000 ∷ replicate 29 0;
  pattern =
      stepped start step until
      ∷ listed (pos 60_000 ∷ pos 90_000 ∷ replicate 28 (pos other))
      ∷ replicate 62 no_pattern;
  allocation = 1_000_000 ∷ replicate 15 0;
  opening = None;
  cost = None;
}

-- six years, a note of three and one of six, half in either, bills that rise by 4 percent a year, a level pattern of 50000, one that rises from
-- there, a rollover of so many terms, and the cost of each note, held or not (examples/level_one_year.txt is one of these)
unfoldable pub six_years : (terms : ℕ) (shares : List ℕ) (costed : Bool) (cost : ℤ) → Plan
six_years terms shares costed cost = record {
  years = 6;
  instruments = 2;
  terms = terms;
  patterns = 2;
  instrument =
      record { payments = pos 47_500_000 ∷ pos 47_500_000 ∷ pos 1_047_500_000 ∷ replicate 27 (pos 0) }
      ∷ record { payments = replicate 5 (pos 52_500_000) ++ (pos 1_052_500_000 ∷ replicate 24 (pos 0)) } ∷ replicate 14 no_instrument;
  outflows = pos 179_000_000 ∷ pos 186_160_000 ∷ pos 193_606_400 ∷ pos 201_350_656 ∷ pos 209_404_682 ∷ pos 217_780_869 ∷ replicate 24 (pos 0);
  rollover = shares ++ replicate (30 - terms) 0;
  pattern = listed (replicate 5 (pos 50_000) ++ replicate 25 (pos 0)) ∷ stepped (pos 50_000) (pos 5_000) 4 ∷ replicate 62 no_pattern;
  allocation = 500_000 ∷ 500_000 ∷ replicate 14 0;
  opening = None;
  cost = kept costed (cost ∷ cost ∷ replicate 14 (pos 0));
}
