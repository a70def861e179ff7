-- The laws of records, and of a file that is written of them.
use mathlib.Core.Path.{◌≡◌, refl, sym, ap, ◌∙◌}
use mathlib.Core.List.{List, [], ◌∷◌, ◌++◌, append_assoc, append-nil}
use Prim.Native.Nat.{ℕ, zero, suc, ◌+◌, ◌≤◌, ◌<◌}
use native.Mathlib.Numerals.{add-one}
use native.Mathlib.Omega.{arith}
use lib.ListN.{length, get_or, take, drop, length-append}
use lib.Seq.{take-suc, split_at, take-append_seam, drop_at}
use lib.Dec.{lit<}
use Rattle.whole.specs.Sum.{sum_ℕ}
use Rattle.little_endian.specs.LittleEndian.{Bytes, le_at, bytes_of}
use Rattle.little_endian.proofs.LittleEndian.{le_at_between, length_bytes_of, bytes_append, bytes_bytes_of}
use Rattle.records.specs.Record.{Rec, record_bytes, file_bytes}

-- ---- one record
-- its kind and the length of its body fit two bytes each
pub record Small (r : Rec) : Type 0 where
  pub kind : r.kind < 65536
  pub body : length r.body < 65536

pub length_record : (r : Rec) → length (record_bytes r) ≡ 4 + length r.body
unfolding record_bytes
length_record r = simp (length-append, length_bytes_of) (omega arith)

pub bytes_record : (r : Rec) → Bytes r.body → Bytes (record_bytes r)
unfolding record_bytes
bytes_record r b = bytes_append (bytes_bytes_of 2 (length r.body)) (bytes_append (bytes_bytes_of 2 r.kind) b)

-- a record stands at a place of s: its length, its kind and its body are read there
pub record Stands (s : List ℕ) (at : ℕ) (r : Rec) : Type 0 where
  pub size : le_at 2 at s ≡ length r.body
  pub kind : le_at 2 (at + 2) s ≡ r.kind
  pub body : take (length r.body) (drop (at + 4) s) ≡ r.body
  pub fits : at + 4 + length r.body ≤ length s

-- a record that is written between other bytes stands there
module _ (before : List ℕ) (r : Rec) (after : List ℕ) where
  abbrev size_bytes : List ℕ
  size_bytes = bytes_of 2 (length r.body)

  abbrev kind_bytes : List ℕ
  kind_bytes = bytes_of 2 r.kind

  abbrev file : List ℕ
  file = before ++ (record_bytes r ++ after)

  at_size : file ≡ before ++ (size_bytes ++ (kind_bytes ++ (r.body ++ after)))
  unfolding record_bytes
  at_size = simp append_assoc

  at_kind : file ≡ (before ++ size_bytes) ++ (kind_bytes ++ (r.body ++ after))
  at_kind = rw at_size (simp append_assoc)

  at_body : file ≡ (before ++ (size_bytes ++ kind_bytes)) ++ (r.body ++ after)
  at_body = rw at_size (simp append_assoc)

  pub stands_between : Small r → Stands file (length before) r
  stands_between small = record {
    size = rw at_size (le_at_between 2 _ _ before _ refl small.body);
    kind = rw at_kind (le_at_between 2 _ _ (before ++ size_bytes) _ (simp (length-append, length_bytes_of)) small.kind);
    body =
        rw (at_body, drop_at (before ++ (size_bytes ++ kind_bytes)) (r.body ++ after) (length before + 4) (simp (length-append, length_bytes_of)))
        (take-append_seam r.body after);
    fits = simp (length-append, length_record) (omega arith);
  }

-- ---- a file
pub file_none : file_bytes [] ≡ []
unfolding file_bytes
file_none = refl

pub file_append : (xs ys : List Rec) → file_bytes (xs ++ ys) ≡ file_bytes xs ++ file_bytes ys
unfolding file_bytes
file_append [] ys = refl
file_append (r ∷ xs) ys = rw (file_append xs ys, append_assoc)

module _ (rs : List Rec) (d : Rec) (t : ℕ) (h : t < length rs) where
  -- one record more
  pub file_more : file_bytes (take (t + 1) rs) ≡ file_bytes (take t rs) ++ record_bytes (get_or rs t d)
  unfolding file_bytes
  file_more = rw (add-one, take-suc rs t d, file_append, append-nil)

  pub length_more : length (file_bytes (take (t + 1) rs)) ≡ length (file_bytes (take t rs)) + 4 + length (get_or rs t d).body
  length_more = rw (file_more, length-append, length_record) (omega arith)

  -- record t, and what stands before and after it
  pub file_parts : file_bytes rs ≡ file_bytes (take t rs) ++ (record_bytes (get_or rs t d) ++ file_bytes (drop (suc t) rs))
  unfolding file_bytes
  file_parts = ap file_bytes (split_at rs t d h) ∙ file_append (take t rs) _

-- the length of the first t records
pub length_file : (rs : List Rec) (d : Rec) (t : ℕ) → t ≤ length rs → length (file_bytes (take t rs)) ≡ sum_ℕ t (λ k. 4 + length (get_or rs k d).body)
unfolding file_bytes sum_ℕ
length_file rs d zero h = refl
length_file rs d (suc t) h =
    ap (λ (u : ℕ). length (file_bytes (take u rs))) (sym (add-one t))
    ∙ omega (arith, length_more rs d t (omega arith), length_file rs d t (omega arith))

pub bytes_file : (rs : List Rec) (d : Rec) → ((t : ℕ) → t < length rs → Bytes (get_or rs t d).body) → Bytes (file_bytes rs)
unfolding file_bytes
bytes_file [] d b = record { below = λ k. lit< tt }
bytes_file (r ∷ rs) d b = bytes_append (bytes_record r (b 0 (omega arith))) (bytes_file rs d (λ t h. b (suc t) (omega arith)))
