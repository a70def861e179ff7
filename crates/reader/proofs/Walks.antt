-- What a walk over the records of a file finds: at record t it stands at that record's place, and gives that record.
use mathlib.Core.Path.{◌≡◌, refl, sym, ap, ◌∙◌}
use mathlib.Core.Bool.{Bool, true, false}
use mathlib.Core.List.{List, [], ◌∷◌}
use mathlib.Core.Logic.{⊎_elim}
use Prim.Native.Nat.{ℕ, ◌+◌, ◌-◌, ◌≤◌, ◌<◌}
use native.Mathlib.Nat.{add-zero, zero-add}
use native.Mathlib.Omega.{arith}
use borrow.Author.Tests.{leb-true, eq-eqb, ne_eqb}
use lib.Dec.{leb, eqb}
use lib.ListN.{length, take, drop}
use denote.Ref.{Bor}
use Rattle.std.specs.Prelude.{Option, Some, None, Result, Ok, Err}
use Rattle.std.specs.Iterator.{Yields, YieldsThen}
use Rattle.std.specs.Result.{result_ok}
use Rattle.whole.proofs.Laws.{ℕ_cases}
use Rattle.whole.proofs.Test.{both_second}
use Rattle.little_endian.specs.LittleEndian.{le_at}
use Rattle.records.specs.declared.Record.{Record}
use Rattle.records.specs.Cursor.{size_from, end_from, whole_at, next_at, place, kind_at, body_at}
use Rattle.records.proofs.Cursor.{place_more, none_later, whole_end, next_stop, rest_whole, rest_next, rest_stop}
use Rattle.plan.specs.declared.Shape.{Shape}
use Rattle.planfile.specs.Kinds.{role_of, size_of}
use Rattle.planfile.specs.Checks.{has_role, size_ok}
use Rattle.reader.specs.declared.Entry.{Entry}
use Rattle.reader.specs.declared.Walk.{Walk}
use Rattle.reader.specs.Reading.{Gives, GivesEntry}

-- ---- the record at a place, as the cursor finds it
pub record Found (s : List ℕ) (at : ℕ) (r : Record) : Type 0 where
  pub whole : whole_at s at ≡ true
  pub kind : r.kind ≡ le_at 2 (at + 2) s
  pub start : r.start ≡ at + 4
  pub end : r.end ≡ end_from s at
  pub fits : r.end ≤ length s

module _ (s : List ℕ) (at : ℕ) {next : Result Record ℕ} (e : next ≡ next_at s at) where
  pub found : {r : Record} → Some r ≡ result_ok next → Found s at r
  unfolding next_at whole_at
  found {r} o = go (whole_at s at) refl
    where
      go : (b : Bool) → whole_at s at ≡ b → Found s at r
      go true w =
          let i : next ≡ Ok (record { kind = le_at 2 (at + 2) s; start = at + 4; end = end_from s at }) = e ∙ rw w in
          let n : Some r ≡ Some (record { kind = le_at 2 (at + 2) s; start = at + 4; end = end_from s at }) = o ∙ ap result_ok i in
          let x : r ≡ record { kind = le_at 2 (at + 2) s; start = at + 4; end = end_from s at } = cc in
          let f : end_from s at ≤ length s = leb-true _ _ (both_second (leb (at + 4) (length s)) _ w) in
          rw x (record { whole = w; kind = refl; start = refl; end = refl; fits = f })
      go false w =
          let i : next ≡ Err (length s - at) = e ∙ rw w in
          let n : Some r ≡ None = o ∙ ap result_ok i in
          absurd cc

  pub not_found : None ≡ result_ok next → whole_at s at ≡ false
  unfolding next_at
  not_found o = go (whole_at s at) refl
    where
      go : (b : Bool) → whole_at s at ≡ b → whole_at s at ≡ false
      go true w =
          let i : next ≡ Ok (record { kind = le_at 2 (at + 2) s; start = at + 4; end = end_from s at }) = e ∙ rw w in
          let n : ◌≡◌ {A = Option Record} None (Some (record { kind = le_at 2 (at + 2) s; start = at + 4; end = end_from s at })) = o ∙ ap result_ok i in
          absurd cc
      go false w = w

-- its body is the part from its start to its end
pub part_found : {s : List ℕ} {at : ℕ} {r : Record} → Found s at r → take (r.end - r.start) (drop r.start s) ≡ take (size_from s at) (drop (at + 4) s)
part_found {s} {at} {r} f =
    let d : r.end - r.start ≡ size_from s at = omega (arith, f.start, f.end) in
    rw (d, f.start)

-- ---- a walk at record t, and the record that it gives there
pub record IsAt (s : List ℕ) (t : ℕ) (walk : Walk) : Type 0 where
  pub file : walk.file.now ≡ s
  pub at : walk.at ≡ place s t

pub record Stands (s : List ℕ) (t : ℕ) (entry : Entry) : Type 0 where
  pub whole : whole_at s (place s t) ≡ true
  pub kind : entry.kind ≡ kind_at s t
  pub body : entry.body.now ≡ body_at s t
  pub end : entry.end ≡ place s (t + 1)

module _ {s : List ℕ} {t : ℕ} {walk : Walk} (a : IsAt s t walk) where
  pub stands : {entry : Entry} {later : Walk} → Gives walk entry later → Stands s t entry
  unfolding kind_at body_at
  stands g = record {
    whole = rw (← a.at, ← a.file) g.whole;
    kind = g.kind ∙ rw (a.file, a.at);
    body = g.body ∙ rw (a.file, a.at);
    end = g.end ∙ rw (a.file, a.at, place_more s t);
  }

  pub goes_on : {entry : Entry} {later : Walk} → Gives walk entry later → IsAt s (t + 1) later
  goes_on g = record { file = rw g.file a.file; at = g.at ∙ rw (a.file, a.at, place_more s t) }

  pub goes_to : {entry : Entry} {later : Walk} {n : ℕ} → Gives walk entry later → n ≡ t + 1 → IsAt s n later
  goes_to g e = rw e (goes_on g)

  pub stops : whole_at walk.file.now walk.at ≡ false → whole_at s (place s t) ≡ false
  stops h = rw (← a.at, ← a.file) h

-- the walk over all of a file
pub front : {walk : Walk} {file : Bor (List ℕ)} → walk ≡ record { file = file; at = 0 } → IsAt file.now 0 walk
unfolding place
front e = rw e (record { file = refl; at = refl })

-- after some records
pub walked : {s : List ℕ} (t : ℕ) {walk later : Walk} (xs : List Entry) → IsAt s t walk → Yields GivesEntry walk xs later → IsAt s (t + length xs) later
walked t [] a y = rw (add-zero, ← y) a
walked t (x ∷ xs) a y = let n : t + length (x ∷ xs) ≡ t + 1 + length xs = omega arith in rw n (walked (t + 1) xs (goes_on a y.1) y.2)

-- a record that comes after so many, and none that does
module _ {s : List ℕ} {walk : Walk} (xs : List Entry) (a : IsAt s 0 walk) where
  pub nth_stands : {entry : Entry} {later : Walk} {t : ℕ} → YieldsThen GivesEntry walk xs (Some entry) later → length xs ≡ t → Stands s t entry
  nth_stands y e = rw (← e) (stands (rw zero-add at (walked 0 xs a y.1)) y.2)

  pub nth_stops : {later : Walk} {t : ℕ} → YieldsThen GivesEntry walk xs None later → length xs ≤ t → whole_at s (place s t) ≡ false
  nth_stops {t = t} y few = none_later s (length xs) t few (stops (rw zero-add at (walked 0 xs a y.1)) y.2.0)

-- ---- what the checks ask of record t
module _ {s : List ℕ} {t : ℕ} {entry : Entry} (f : Stands s t entry) where
  pub role_stands : (role : ℕ) → has_role s t role ≡ eqb (role_of entry.kind) role
  unfolding has_role
  role_stands role = rw (f.whole, f.kind)

  pub size_stands : (h : Shape) → size_ok s h t ≡ eqb (length entry.body.now) (size_of h entry.kind)
  unfolding size_ok
  size_stands h = rw (f.kind, f.body)

-- ---- check 2: whole records up to a place, and the rest
module _ {s : List ℕ} {at : ℕ} (walk : Walk) (file : walk.file.now ≡ s) (place : walk.at ≡ at) where
  pub rest_goes : {entry : Entry} {later : Walk} → Gives walk entry later → (entry.end ≤ length s) × (rest_whole s at ≡ rest_whole s entry.end)
  rest_goes {entry} g =
      let w : whole_at s at ≡ true = rw (← place, ← file) g.whole in
      let e : entry.end ≡ end_from s at = g.end ∙ rw (file, place) in
      let f : end_from s at ≤ length s = whole_end s at w in
      rw e (f, rest_next s at (omega arith) w)

  -- where no whole record stands, the rest is whole just where nothing is left
  pub rest_ends : whole_at walk.file.now walk.at ≡ false → at ≤ length s → rest_whole s at ≡ eqb at (length s)
  rest_ends h few =
      let w : whole_at s at ≡ false = rw (← place, ← file) h in
      rest_stop s at (length s - at) (next_stop s at w)
      ∙ ⊎_elim
      (λ (l : at < length s). ne_eqb _ _ (λ e. omega arith) ∙ sym (ne_eqb at (length s) (λ e. omega arith)))
      (λ (l : length s ≤ at). eq-eqb _ _ (omega arith) ∙ sym (eq-eqb at (length s) (omega arith)))
      (ℕ_cases at (length s))
