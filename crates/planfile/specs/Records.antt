-- What is held and the records by role: each says the other. A body's place is that of its role in the groups.
use Rattle.std.specs.Prelude.{List, [], ◌∷◌, ℕ, ◌+◌}
use Rattle.whole.specs.Entry.{nth, entry}
use Rattle.records.specs.Record.{Rec, file_bytes}
use Rattle.records.specs.Cursor.{kind_at, body_at}
use Rattle.plan.specs.declared.Shape.{Shape}
use Rattle.plan.specs.Held.{Held, openings, costs, unheld_instrument, unheld_pattern}
use Rattle.planfile.specs.Groups.{groups_of, place_of, none, laid}
use Rattle.planfile.specs.Rows.{rec, amounts_in, amounts_bytes, shares_in, shares_bytes, head_rec, instrument_in, instrument_rec, pattern_in, pattern_rec}
use Rattle.planfile.specs.Checks.{shape_in}

-- ---- a file and its records by role
-- record j of a role in a file of this shape
unfoldable pub record_in : List ℕ → Shape → (role j : ℕ) → Rec
record_in s h role j = rec (kind_at s (place_of (groups_of h) role j)) (body_at s (place_of (groups_of h) role j))

-- the file of this shape whose record j of a role is f role j
unfoldable pub file_from : Shape → (f : (role j : ℕ) → Rec) → List ℕ
file_from h f = file_bytes (laid (groups_of h) f)

-- ---- what is held and its records by role
-- what a file of this shape holds whose record j of a role is g role j
unfoldable pub held_of : Shape → (g : (role j : ℕ) → Rec) → Held
held_of h g = record {
  shape = h;
  instrument = entry unheld_instrument h.instruments (λ j. instrument_in h.years (g 2 j));
  outflow = amounts_in h.years (g 3 0);
  rollover = shares_in h.terms (g 4 0);
  pattern = entry unheld_pattern h.patterns (λ t. pattern_in h.years (g 5 t));
  allocation = shares_in h.instruments (g 6 0);
  opening = amounts_in (openings h) (g 7 0);
  cost = amounts_in (costs h) (g 9 0);
}

-- record j of a role, from role 1 on; 8 is none, since a slope stands where role 5 does
unfoldable pub record_of : Held → (role j : ℕ) → Rec
record_of H role j =
    let h = H.shape in
    nth none
    (head_rec h
    ∷ instrument_rec h.years (H.instrument (1 + j))
    ∷ rec 3 (amounts_bytes h.years H.outflow)
    ∷ rec 4 (shares_bytes h.terms H.rollover)
    ∷ pattern_rec h.years (H.pattern (1 + j))
    ∷ rec 6 (shares_bytes h.instruments H.allocation)
    ∷ rec 7 (amounts_bytes h.years H.opening)
    ∷ none
    ∷ rec 9 (amounts_bytes h.instruments H.cost)
    ∷ [])
    role

-- ---- what a file holds, and the file of what is held
unfoldable pub held_in : List ℕ → Held
held_in s = held_of (shape_in s) (record_in s (shape_in s))

unfoldable pub file_of : Held → List ℕ
file_of H = file_from H.shape (record_of H)
