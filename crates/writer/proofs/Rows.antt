-- The laws of what is written of an array.
use mathlib.Core.Path.{◌≡◌, refl, sym, ap, ◌∙◌}
use mathlib.Core.List.{List, [], ◌∷◌, ◌++◌, map}
use Prim.Native.Nat.{ℕ, ◌+◌, ◌-◌, ◌<◌}
use native.Mathlib.Nat.{mod-eq_of_lt}
use native.Mathlib.Omega.{arith}
use lib.IntN.{ℤ, pos}
use lib.ListN.{length, get_or, take}
use Rattle.std.proofs.lemmas.List.{get_or-take, take-map}
use Rattle.std.proofs.Math.ListN.{get_or-map}
use Rattle.whole.specs.Entry.{entry}
use Rattle.whole.proofs.Table.{table_cong}
use Rattle.whole.proofs.Entry.{entry_at}
use Rattle.little_endian.specs.LittleEndian.{bytes_of}
use Rattle.little_endian.specs.Runs.{run}
use Rattle.little_endian.proofs.Runs.{run_cong}
use Rattle.little_endian.specs.TwosComplement.{unsigned_of}
use Rattle.records.specs.Record.{record_bytes}
use Rattle.plan.specs.declared.Instrument.{Instrument}
use Rattle.plan.specs.declared.Pattern.{Pattern}
use Rattle.plan.specs.declared.Pattern.TheVariants.{Rates, Slope}
use Rattle.plan.specs.declared.Shape.{Shape}
use Rattle.plan.specs.Held.{instrument_held, pattern_held, missing_pattern}
use Rattle.planfile.specs.Groups.{none}
use Rattle.planfile.specs.Rows.{rec, head_rec, instrument_rec, pattern_rec}
use Rattle.planfile.specs.Reading.{InRange}
use Rattle.writer.specs.Rows.{numbers_bytes, instrument_recs, pattern_recs}

-- ---- the first n of an array, which has so many
pub numbers_part : {A : Type 0} (w : ℕ) (bits : A → ℕ) (n : ℕ) (xs : List A) → length (take n xs) ≡ n
    → numbers_bytes w bits (length (take n xs)) (take n xs) ≡ numbers_bytes w bits n xs
numbers_part w bits n xs e =
    rw e (run_cong w n _ _ (λ k i. ap (λ (ys : List ℕ). get_or ys k 0) (sym (take-map bits n xs)) ∙ get_or-take n (map bits xs) k 0 i))

pub record_part : {A : Type 0} (kind w : ℕ) (bits : A → ℕ) (n : ℕ) (xs : List A) → length (take n xs) ≡ n
    → record_bytes (rec kind (numbers_bytes w bits (length (take n xs)) (take n xs))) ≡ record_bytes (rec kind (numbers_bytes w bits n xs))
record_part kind w bits n xs e = ap (λ (body : List ℕ). record_bytes (rec kind body)) (numbers_part w bits n xs e)

pub instruments_part : (N n : ℕ) (rows : List Instrument) → length (take n rows) ≡ n
    → instrument_recs N (length (take n rows)) (take n rows) ≡ instrument_recs N n rows
instruments_part N n rows e =
    rw e (table_cong n n _ _ none (λ j l. ap (λ (row : Instrument). instrument_rec N (instrument_held N row)) (get_or-take n rows j (record { payments = [] }) l)))

pub patterns_part : (N m : ℕ) (rows : List Pattern) → length (take m rows) ≡ m → pattern_recs N (length (take m rows)) (take m rows) ≡ pattern_recs N m rows
patterns_part N m rows e =
    rw e (table_cong m m _ _ none (λ t l. ap (λ (row : Pattern). pattern_rec N (pattern_held N row)) (get_or-take m rows t missing_pattern l)))

-- ---- a record's bytes
-- by the papers' index
pub numbers_by : {A : Type 0} (z : A) (w : ℕ) (bits : A → ℕ) (n : ℕ) (xs : List A) → bits z ≡ 0
    → numbers_bytes w bits n xs ≡ run w n (λ k. bits (entry z n (λ k. get_or xs k z) (1 + k)))
numbers_by z w bits n xs e =
    run_cong w n _ _ (λ k i.
    ap (get_or (map bits xs) k) (sym e) ∙ get_or-map bits xs k z ∙ ap bits (sym (entry_at z n (λ k. get_or xs k z) k i)))

-- a head's: N, n, q and m, a byte each
four_bytes : {a b c d : ℕ} → a < 256 → b < 256 → c < 256 → d < 256
    → numbers_bytes 1 (λ x. x) 4 (a ∷ b ∷ c ∷ d ∷ []) ≡ a ∷ b ∷ c ∷ d ∷ []
unfolding run bytes_of
four_bytes ha hb hc hd = rw (mod-eq_of_lt ha, mod-eq_of_lt hb, mod-eq_of_lt hc, mod-eq_of_lt hd)

pub head_written : (h : Shape) → InRange h
    → record_bytes (rec 1 (numbers_bytes 1 (λ x. x) 4 (h.years ∷ h.instruments ∷ h.terms ∷ h.patterns ∷ []))) ≡ record_bytes (head_rec h)
head_written h r = ap (λ (body : List ℕ). record_bytes (rec 1 body)) (four_bytes (omega arith) (omega arith) (omega arith) (omega arith))

-- an instrument's
pub instrument_written : (N : ℕ) (row : Instrument) → length (take N row.payments) ≡ N
    → record_bytes (rec 2 (numbers_bytes 8 (unsigned_of 8) (length (take N row.payments)) (take N row.payments)))
    ≡ record_bytes (instrument_rec N (instrument_held N row))
unfolding instrument_rec unsigned_of
instrument_written N row e =
    record_part 2 8 (unsigned_of 8) N row.payments e
    ∙ ap (λ (body : List ℕ). record_bytes (rec 2 body)) (numbers_by (pos 0) 8 (unsigned_of 8) N row.payments refl)

-- a pattern's, which lists its rates or is a slope
pub rates_written : (N : ℕ) {row : Pattern} {rates : List ℤ} → row ≡ Rates rates → length (take (N - 1) rates) ≡ N - 1
    → record_bytes (rec 5 (numbers_bytes 4 (unsigned_of 4) (length (take (N - 1) rates)) (take (N - 1) rates)))
    ≡ record_bytes (pattern_rec N (pattern_held N row))
unfolding pattern_rec unsigned_of
rates_written N {rates = rates} e l =
    record_part 5 4 (unsigned_of 4) (N - 1) rates l
    ∙ rw e (ap (λ (body : List ℕ). record_bytes (rec 5 body)) (numbers_by (pos 0) 4 (unsigned_of 4) (N - 1) rates refl))

pub slope_written : (N : ℕ) {row : Pattern} {start step : ℤ} {until : ℕ} → row ≡ Slope start step until → until < 256
    → record_bytes (rec 8 (bytes_of 4 (unsigned_of 4 start) ++ (bytes_of 4 (unsigned_of 4 step) ++ bytes_of 1 until))) ≡ record_bytes (pattern_rec N (pattern_held N row))
unfolding pattern_rec bytes_of
slope_written N e h = rw (e, mod-eq_of_lt h)
