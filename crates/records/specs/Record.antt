-- A record is a length (2 bytes: bytes in the body), a kind (2 bytes), a body; all is little-endian.
use Rattle.std.specs.Prelude.{List, [], ◌∷◌, ◌++◌, ℕ, length}
use Rattle.little_endian.specs.LittleEndian.{bytes_of}

pub record Rec : Type 0 where
  pub kind : ℕ
  pub body : List ℕ

-- the bytes of a record
unfoldable pub record_bytes : Rec → List ℕ
record_bytes r = bytes_of 2 (length r.body) ++ (bytes_of 2 r.kind ++ r.body)

-- the bytes of records, one after the other, with nothing between or after
unfoldable pub file_bytes : List Rec → List ℕ
file_bytes [] = []
file_bytes (r ∷ rs) = record_bytes r ++ file_bytes rs
