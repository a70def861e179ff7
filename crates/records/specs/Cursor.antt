-- Records taken off from the front of a file s, whose place 0 is its first byte.
use Rattle.std.specs.Prelude.{Bool, true, Result, Ok, Err, List, ℕ, zero, suc, ◌+◌, ◌-◌, leb, ltb, length, take, drop}
use Rattle.whole.specs.Test.{pick, both}
use Rattle.little_endian.specs.LittleEndian.{le_at}
use Rattle.records.specs.declared.Record.{Record}

-- the length of the body of the record at a place, and where that record ends
abbrev pub size_from : List ℕ → (at : ℕ) → ℕ
size_from s at = le_at 2 at s

abbrev pub end_from : List ℕ → (at : ℕ) → ℕ
end_from s at = at + 4 + size_from s at

-- there is a whole record at a place: its four bytes, and its body
unfoldable pub whole_at : List ℕ → (at : ℕ) → Bool
whole_at s at = both (leb (at + 4) (length s)) (leb (end_from s at) (length s))

-- the record at a place: its kind, and where its body starts and ends; or how many bytes are left, which are no record
unfoldable pub next_at : List ℕ → (at : ℕ) → Result Record ℕ
next_at s at = pick (whole_at s at) (Ok (record { kind = le_at 2 (at + 2) s; start = at + 4; end = end_from s at })) (Err (length s - at))

-- check 2: from a place on, whole records end with the file. A record takes 4 bytes at least, so the length counts enough.
unfoldable pub whole_from : (count : ℕ) → List ℕ → (at : ℕ) → Bool
whole_from zero s at = true
whole_from (suc n) s at = pick (ltb at (length s)) (both (whole_at s at) (whole_from n s (end_from s at))) true

unfoldable pub whole_file : List ℕ → Bool
whole_file s = whole_from (length s) s 0

-- the place of record t, counted from 0, and its kind and body
unfoldable pub place : List ℕ → (t : ℕ) → ℕ
place s zero = 0
place s (suc t) = end_from s (place s t)

unfoldable pub kind_at : List ℕ → (t : ℕ) → ℕ
kind_at s t = le_at 2 (place s t + 2) s

unfoldable pub body_at : List ℕ → (t : ℕ) → List ℕ
body_at s t = take (size_from s (place s t)) (drop (place s t + 4) s)
