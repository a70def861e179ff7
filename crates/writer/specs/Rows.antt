-- The bytes and the records of what a plan holds in its arrays, and the kind of each record.
use Rattle.std.specs.Prelude.{List, [], ◌∷◌, ℕ, ℤ, get_or, map, eqb, Option, Some, None}
use Rattle.whole.specs.Table.{table}
use Rattle.whole.specs.Test.{pick}
use Rattle.little_endian.specs.TwosComplement.{unsigned_of}
use Rattle.little_endian.specs.Runs.{run}
use Rattle.records.specs.Record.{Rec}
use Rattle.plan.specs.declared.Instrument.{Instrument}
use Rattle.plan.specs.declared.Pattern.{Pattern}
use Rattle.plan.specs.declared.Pattern.TheVariants.{Rates, Slope}
use Rattle.plan.specs.Held.{instrument_held, pattern_held, missing_pattern}
use Rattle.planfile.specs.Groups.{Spot, none}
use Rattle.planfile.specs.Rows.{rec, instrument_rec, pattern_rec}

-- the first n numbers of a list, of w bytes each, one after the other
abbrev pub numbers_bytes : {A : Type 0} → (w : ℕ) → (bits : A → ℕ) → (n : ℕ) → List A → List ℕ
numbers_bytes w bits n xs = run w n (λ k. get_or (map bits xs) k 0)

-- the records of the first n instruments and of the first m patterns, over N years
abbrev pub instrument_recs : (N n : ℕ) → List Instrument → List Rec
instrument_recs N n rows = table n n (λ j. instrument_rec N (instrument_held N (get_or rows j (record { payments = [] })))) none

abbrev pub pattern_recs : (N m : ℕ) → List Pattern → List Rec
pattern_recs N m rows = table m m (λ t. pattern_rec N (pattern_held N (get_or rows t missing_pattern))) none

-- the record of the first n amounts of a kind that may be absent
abbrev pub optional_recs : (kind n : ℕ) → Option (List ℤ) → List Rec
optional_recs kind n None = []
optional_recs kind n (Some amounts) = rec kind (numbers_bytes 8 (unsigned_of 8) n amounts) ∷ []

-- the kind of a pattern's record: 8 where it is a slope, 5 where it lists its rates
abbrev pub pattern_kind : Pattern → ℕ
pattern_kind (Rates rates) = 5
pattern_kind (Slope start step until) = 8

-- that of the record at a spot: a pattern's goes by its row, every other is its role
abbrev pub kind_at : (rows : List Pattern) → Spot → ℕ
kind_at rows s = pick (eqb s.role 5) (pattern_kind (get_or rows s.index missing_pattern)) s.role
