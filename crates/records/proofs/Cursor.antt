-- The laws of records taken off a file s from its front, and both round trips.
use mathlib.Core.Path.{◌≡◌, refl, sym, ap, ap₂, ◌∙◌}
use mathlib.Core.Bool.{Bool, true, false}
use mathlib.Core.Logic.{⊎_elim}
use mathlib.Core.List.{List, ◌++◌}
use Prim.Native.Nat.{ℕ, zero, suc, ◌+◌, ◌-◌, ◌≤◌, ◌<◌}
use native.Mathlib.Nat.{add_assoc}
use native.Mathlib.Numerals.{add-one}
use native.Mathlib.Omega.{arith}
use borrow.Author.Tests.{le-ltb, lt-ltb, le-leb, lt-leb, leb-true, leb-false, eq-eqb, ne_eqb}
use lib.Dec.{leb, ltb, eqb}
use lib.ListN.{length, get_or, take, drop, length-drop}
use lib.Seq.{length-take-le, take-add, take-length, drop-drop}
use Rattle.std.specs.Prelude.{Ok, Err}
use Rattle.whole.specs.Test.{pick, both}
use Rattle.whole.proofs.Laws.{ℕ_cases}
use Rattle.whole.proofs.Test.{both_first, both_second}
use Rattle.little_endian.specs.LittleEndian.{Bytes, le_at}
use Rattle.little_endian.proofs.LittleEndian.{bytes_of_le_at, bytes_take, bytes_drop}
use Rattle.records.specs.declared.Record.{Record}
use Rattle.records.specs.Record.{Rec, record_bytes, file_bytes}
use Rattle.records.specs.Cursor.{size_from, end_from, whole_at, next_at, whole_from, whole_file, place, kind_at, body_at}
use Rattle.records.proofs.Records.{Small, Stands, stands_between, file_more, file_parts, length_more}

-- ---- the record at a place
module _ (s : List ℕ) (at : ℕ) where
  -- a record whose end is in the file is whole: its four bytes come before its end
  whole_by_end : whole_at s at ≡ leb (end_from s at) (length s)
  unfolding whole_at
  whole_by_end = ⊎_elim
      (λ (h : length s < at + 4). rw (lt-leb (at + 4) (length s) h, lt-leb (end_from s at) (length s) (omega arith)))
      (λ (h : at + 4 ≤ length s). rw (le-leb (at + 4) (length s) h))
      (ℕ_cases (length s) (at + 4))

  pub whole_yes : end_from s at ≤ length s → whole_at s at ≡ true
  whole_yes h = whole_by_end ∙ le-leb _ _ h

  pub whole_no : length s < end_from s at → whole_at s at ≡ false
  whole_no h = whole_by_end ∙ lt-leb _ _ h

  pub whole_end : whole_at s at ≡ true → end_from s at ≤ length s
  whole_end h = leb-true _ _ (sym whole_by_end ∙ h)

  ends_past : whole_at s at ≡ false → length s < end_from s at
  ends_past h = leb-false _ _ (sym whole_by_end ∙ h)

  -- what the cursor then gives
  abbrev pub found : Record
  found = record { kind = le_at 2 (at + 2) s; start = at + 4; end = end_from s at }

  pub next_record : whole_at s at ≡ true → next_at s at ≡ Ok found
  unfolding next_at
  next_record h = rw h

  pub next_stop : whole_at s at ≡ false → next_at s at ≡ Err (length s - at)
  unfolding next_at
  next_stop h = rw h

module _ (s : List ℕ) (at : ℕ) where
  pub next_none : (l : ℕ) → next_at s at ≡ Err l → (whole_at s at ≡ false) × (l ≡ length s - at)
  next_none l n = go (whole_at s at) refl
    where
      go : (b : Bool) → whole_at s at ≡ b → (whole_at s at ≡ false) × (l ≡ length s - at)
      go true w = let i = next_record s at w in let z : ◌≡◌ {A = ℕ} 0 1 = cc in absurd (omega arith)
      go false w = let i = next_stop s at w in let e : l ≡ length s - at = cc in (w, e)

-- ---- record t
pub place_none : (s : List ℕ) → place s 0 ≡ 0
unfolding place
place_none s = refl

module _ (s : List ℕ) (t : ℕ) where
  pub place_more : place s (t + 1) ≡ end_from s (place s t)
  unfolding place
  place_more = rw add-one

  pub length_body : whole_at s (place s t) ≡ true → length (body_at s t) ≡ size_from s (place s t)
  unfolding body_at
  length_body h = length-take-le _ _ (rw length-drop (omega (arith, whole_end s (place s t) h)))

  pub bytes_body : Bytes s → Bytes (body_at s t)
  unfolding body_at
  bytes_body b = bytes_take (size_from s (place s t)) (bytes_drop (place s t + 4) b)

-- where a record is not whole, no later one is
pub none_later : (s : List ℕ) (u t : ℕ) → u ≤ t → whole_at s (place s u) ≡ false → whole_at s (place s t) ≡ false
unfolding place
none_later s u zero h w = let e : 0 ≡ u = omega arith in ap (λ (t : ℕ). whole_at s (place s t)) e ∙ w
none_later s u (suc t) h w = ⊎_elim
    (λ (l : u < suc t). whole_no s (place s (suc t)) (omega (arith, ends_past s (place s t) (none_later s u t (omega arith) w))))
    (λ (l : suc t ≤ u). let e : suc t ≡ u = omega arith in ap (λ (t : ℕ). whole_at s (place s t)) e ∙ w)
    (ℕ_cases u (suc t))

-- ---- check 2
-- whole records from a place on to the end of the file
unfoldable pub rest_whole : List ℕ → (at : ℕ) → Bool
rest_whole s at = whole_from (length s - at) s at

module _ (s : List ℕ) where
  from_end : (n at : ℕ) → length s ≤ at → whole_from n s at ≡ true
  unfolding whole_from
  from_end zero at h = refl
  from_end (suc n) at h = rw (le-ltb at (length s) h)

  -- two counts that are large enough give the same
  enough : (n m at : ℕ) → length s ≤ at + n → length s ≤ at + m → whole_from n s at ≡ whole_from m s at
  unfolding whole_from
  enough zero m at h k = sym (from_end m at (omega arith))
  enough (suc n) zero at h k = from_end (suc n) at (omega arith)
  enough (suc n) (suc m) at h k =
      ap (λ (b : Bool). pick (ltb at (length s)) (both (whole_at s at) b) true) (enough n m (end_from s at) (omega arith) (omega arith))

  pub rest_all : whole_file s ≡ rest_whole s 0
  unfolding whole_file rest_whole
  rest_all = enough (length s) (length s - 0) 0 (omega arith) (omega arith)

  pub rest_none : (at : ℕ) → length s ≤ at → rest_whole s at ≡ true
  unfolding rest_whole
  rest_none at h = from_end (length s - at) at h

  module _ (at : ℕ) (h : at < length s) where
    rest_more : rest_whole s at ≡ both (whole_at s at) (rest_whole s (end_from s at))
    unfolding rest_whole whole_from
    rest_more =
        let e : length s - at ≡ suc (length s - suc at) = omega arith in
        rw (e, lt-ltb at (length s) h)
        (ap (both (whole_at s at)) (enough (length s - suc at) (length s - end_from s at) (end_from s at) (omega arith) (omega arith)))

    pub rest_next : whole_at s at ≡ true → rest_whole s at ≡ rest_whole s (end_from s at)
    rest_next w = rest_more ∙ ap (λ (b : Bool). both b (rest_whole s (end_from s at))) w

    rest_cut : whole_at s at ≡ false → rest_whole s at ≡ false
    rest_cut w = rest_more ∙ ap (λ (b : Bool). both b (rest_whole s (end_from s at))) w

-- where no record is found, the rest is whole just where nothing is left
pub rest_stop : (s : List ℕ) (at l : ℕ) → next_at s at ≡ Err l → rest_whole s at ≡ eqb l 0
rest_stop s at l n =
    let none = next_none s at l n in
    ⊎_elim
    (λ (h : at < length s). rest_cut s at h none.0 ∙ sym (ne_eqb l 0 (λ e. absurd (omega (arith, none.1)))))
    (λ (h : length s ≤ at). rest_none s at h ∙ sym (eq-eqb l 0 (omega (arith, none.1))))
    (ℕ_cases at (length s))

-- the file is c whole records, and nothing else
pub record Consists (s : List ℕ) (c : ℕ) : Type 0 where
  pub whole : (t : ℕ) → t < c → whole_at s (place s t) ≡ true
  pub ends : place s c ≡ length s

-- check 2 says just that, of some c
pub file_whole : (s : List ℕ) (c : ℕ) → Consists s c → whole_file s ≡ true
unfolding place
file_whole s c o = rest_all s ∙ from c 0 (omega arith)
  where
    from : (d t : ℕ) → t + d ≡ c → rest_whole s (place s t) ≡ true
    from zero t e = let i : t ≡ c = omega arith in rest_none s (place s t) (omega (arith, o.ends, ap (place s) i))
    from (suc d) t e =
        let w = o.whole t (omega arith) in
        rest_next s (place s t) (omega (arith, whole_end s (place s t) w)) w ∙ from d (suc t) (omega arith)

pub file_consists : (s : List ℕ) → whole_file s ≡ true → (c : ℕ) × Consists s c
unfolding place
file_consists s h = from (length s) 0 (λ u l. absurd (omega arith)) (omega arith) (omega arith) (sym (rest_all s) ∙ h)
  where
    from : (n t : ℕ) → ((u : ℕ) → u < t → whole_at s (place s u) ≡ true) → place s t ≤ length s → length s ≤ place s t + n
        → rest_whole s (place s t) ≡ true → (c : ℕ) × Consists s c
    from zero t w l r e = (t, record { whole = w; ends = omega arith })
    from (suc n) t w l r e = ⊎_elim
        (λ (m : place s t < length s).
        let f = sym (rest_more s (place s t) m) ∙ e in
        let x = both_first (whole_at s (place s t)) _ f in
        from n (suc t)
        (λ u k. ⊎_elim (λ (v : u < t). w u v) (λ (v : t ≤ u). let i : u ≡ t = omega arith in rw i x) (ℕ_cases u t))
        (whole_end s (place s t) x) (omega arith) (both_second (whole_at s (place s t)) _ f))
        (λ (m : length s ≤ place s t). (t, record { whole = w; ends = omega arith }))
        (ℕ_cases (place s t) (length s))

-- ---- what is written is read
module _ (rs : List Rec) (d : Rec) (small : (t : ℕ) → t < length rs → Small (get_or rs t d)) where
  written_at : (t : ℕ) → t < length rs → Stands (file_bytes rs) (length (file_bytes (take t rs))) (get_or rs t d)
  written_at t h = rw (file_parts rs d t h) (stands_between (file_bytes (take t rs)) (get_or rs t d) _ (small t h))

  pub place_written : (t : ℕ) → t ≤ length rs → place (file_bytes rs) t ≡ length (file_bytes (take t rs))
  unfolding place file_bytes
  place_written zero h = refl
  place_written (suc t) h =
      ap (end_from (file_bytes rs)) (place_written t (omega arith))
      ∙ omega (arith, (written_at t (omega arith)).size, length_more rs d t (omega arith), ap (λ (u : ℕ). length (file_bytes (take u rs))) (add-one t))

  -- record t stands at its place
  pub stands_written : (t : ℕ) → t < length rs → Stands (file_bytes rs) (place (file_bytes rs) t) (get_or rs t d)
  stands_written t h = rw (place_written t (omega arith)) (written_at t h)

  pub kind_written : (t : ℕ) → t < length rs → kind_at (file_bytes rs) t ≡ (get_or rs t d).kind
  unfolding kind_at
  kind_written t h = (stands_written t h).kind

  pub body_written : (t : ℕ) → t < length rs → body_at (file_bytes rs) t ≡ (get_or rs t d).body
  unfolding body_at
  body_written t h = rw (stands_written t h).size (stands_written t h).body

  pub consists_written : Consists (file_bytes rs) (length rs)
  consists_written = record {
    whole = λ t h. let w = stands_written t h in whole_yes _ _ (omega (arith, w.size, w.fits));
    ends = place_written (length rs) (omega arith) ∙ ap (λ (l : List Rec). length (file_bytes l)) (take-length rs);
  }

  pub file_written : whole_file (file_bytes rs) ≡ true
  file_written = file_whole (file_bytes rs) (length rs) consists_written

-- ---- what is read is written again
abbrev pub record_at : List ℕ → (t : ℕ) → Rec
record_at s t = record { kind = kind_at s t; body = body_at s t }

module _ {s : List ℕ} (b : Bytes s) where
  -- the bytes of record t are those of the file at its place
  pub record_part : (t : ℕ) → whole_at s (place s t) ≡ true → record_bytes (record_at s t) ≡ take (4 + size_from s (place s t)) (drop (place s t) s)
  unfolding record_bytes kind_at body_at
  record_part t w =
      let p = place s t in
      let n = size_from s p in
      let h : end_from s p ≤ length s = whole_end s p w in
      let four : 4 + n ≡ 2 + (2 + n) = omega arith in
      rw (length_body s t w, bytes_of_le_at 2 p b (omega arith), bytes_of_le_at 2 (p + 2) b (omega arith), four)
      (sym (take-add 2 (2 + n) (drop p s) ∙ rw (drop-drop 2 p s, take-add 2 n (drop (p + 2) s), drop-drop 2 (p + 2) s, add_assoc p 2 2)))

  -- a list of just the records that are read
  module _ (c : ℕ) (o : Consists s c) (rs : List Rec) (d : Rec) (n : length rs ≡ c) (e : (t : ℕ) → t < c → get_or rs t d ≡ record_at s t) where
    part_again : (t : ℕ) → t ≤ c → file_bytes (take t rs) ≡ take (place s t) s
    unfolding place file_bytes
    part_again zero h = refl
    part_again (suc t) h =
        let p = place s t in
        let l : t < c = omega arith in
        ap (λ (u : ℕ). file_bytes (take u rs)) (sym (add-one t))
        ∙ file_more rs d t (omega arith)
        ∙ ap₂ (λ (x y : List ℕ). x ++ y) (part_again t (omega arith)) (ap record_bytes (e t l) ∙ record_part t (o.whole t l))
        ∙ sym (take-add p (4 + size_from s p) s)
        ∙ ap (λ (m : ℕ). take m s) (sym (add_assoc p 4 (size_from s p)))

    pub file_again : file_bytes rs ≡ s
    file_again =
        ap file_bytes (sym (take-length rs))
        ∙ ap (λ (u : ℕ). file_bytes (take u rs)) n
        ∙ part_again c (omega arith)
        ∙ ap (λ (m : ℕ). take m s) o.ends
        ∙ take-length s
