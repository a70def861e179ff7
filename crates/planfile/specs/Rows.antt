-- What stands in one record. A body is a run of numbers of one width, but for a slope's: amounts are signed, of 8 bytes each, rates are
-- signed, of 4, shares are unsigned, of 4.
use Rattle.std.specs.Prelude.{List, [], ◌∷◌, ◌++◌, ℕ, ◌+◌, ◌-◌, eqb, ℤ, pos, get_or}
use Rattle.whole.specs.Test.{pick}
use Rattle.whole.specs.Entry.{entry}
use Rattle.little_endian.specs.LittleEndian.{bytes_of}
use Rattle.little_endian.specs.TwosComplement.{signed_of, unsigned_of}
use Rattle.little_endian.specs.Runs.{run, number_at}
use Rattle.records.specs.Record.{Rec}
use Rattle.plan.specs.declared.Shape.{Shape}
use Rattle.plan.specs.Held.{HeldInstrument, HeldPattern, rates_listed}

abbrev pub rec : (kind : ℕ) → (body : List ℕ) → Rec
rec kind body = record { kind = kind; body = body }

-- ---- n numbers by the papers' index: read from a body, and the body that says them
-- signed, of w bytes each
abbrev pub signed_in : (w n : ℕ) → Rec → (k : ℕ) → ℤ
signed_in w n r = entry (pos 0) n (λ k. signed_of w (number_at w r.body k))

abbrev pub signed_bytes : (w n : ℕ) → (f : ℕ → ℤ) → List ℕ
signed_bytes w n f = run w n (λ k. unsigned_of w (f (1 + k)))

-- amounts, rates, shares
abbrev pub amounts_in : (n : ℕ) → Rec → (k : ℕ) → ℤ
amounts_in = signed_in 8

abbrev pub amounts_bytes : (n : ℕ) → (f : ℕ → ℤ) → List ℕ
amounts_bytes = signed_bytes 8

abbrev pub rates_in : (n : ℕ) → Rec → (k : ℕ) → ℤ
rates_in = signed_in 4

abbrev pub rates_bytes : (n : ℕ) → (f : ℕ → ℤ) → List ℕ
rates_bytes = signed_bytes 4

abbrev pub shares_in : (n : ℕ) → Rec → (k : ℕ) → ℕ
shares_in n r = entry 0 n (number_at 4 r.body)

abbrev pub shares_bytes : (n : ℕ) → (f : ℕ → ℕ) → List ℕ
shares_bytes n f = run 4 n (λ k. f (1 + k))

-- ---- the head: N, n, q and m, a byte each
abbrev pub head_rec : Shape → Rec
head_rec h = rec 1 (h.years ∷ h.instruments ∷ h.terms ∷ h.patterns ∷ [])

-- ---- an instrument over N years
unfoldable pub instrument_in : (N : ℕ) → Rec → HeldInstrument
instrument_in N r = record { payment = amounts_in N r }

unfoldable pub instrument_rec : (N : ℕ) → HeldInstrument → Rec
instrument_rec N a = rec 2 (amounts_bytes N a.payment)

-- ---- a pattern over N years: its rates, of which the first is that of year 2; or a slope (document 02, item 2), its start and its step,
-- signed, of 4 bytes each, and T, of one
unfoldable pub pattern_in : (N : ℕ) → Rec → HeldPattern
pattern_in N r =
    let sloped = eqb r.kind 8 in
    record {
      sloped = sloped;
      rate = rates_in (rates_listed N sloped) r;
      start = pick sloped (signed_of 4 (number_at 4 r.body 0)) (pos 0);
      step = pick sloped (signed_of 4 (number_at 4 r.body 1)) (pos 0);
      until = pick sloped (get_or r.body 8 0) 0;
    }

abbrev pub slope_bytes : (start step : ℤ) (until : ℕ) → List ℕ
slope_bytes start step until = bytes_of 4 (unsigned_of 4 start) ++ bytes_of 4 (unsigned_of 4 step) ++ until ∷ []

unfoldable pub pattern_rec : (N : ℕ) → HeldPattern → Rec
pattern_rec N i = pick i.sloped
    (rec 8 (slope_bytes i.start i.step i.until))
    (rec 5 (rates_bytes (N - 1) i.rate))
