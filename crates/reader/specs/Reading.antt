-- What the reader's own functions require and ensure of one another. Nothing that `read` promises rests on these definitions.
use Rattle.std.specs.Prelude.{◌≡◌, true, false, Option, None, Some, List, ℕ, ◌+◌, ℤ, pos, get_or, take, drop}
use Rattle.whole.specs.Table.{table}
use Rattle.little_endian.specs.LittleEndian.{le_at}
use Rattle.little_endian.specs.TwosComplement.{signed_of}
use Rattle.little_endian.specs.Runs.{number_at}
use Rattle.records.specs.Cursor.{whole_at, size_from, end_from}
use Rattle.plan.specs.declared.Pattern.{Pattern}
use Rattle.plan.specs.declared.Pattern.TheVariants.{Slope}
use Rattle.reader.specs.declared.Entry.{Entry}
use Rattle.reader.specs.declared.Walk.{Walk}

-- the record at a walk's place, which the walk gives, and the walk from its end on
pub record Gives (walk : Walk) (entry : Entry) (later : Walk) : Type 0 where
  pub whole : whole_at walk.file.now walk.at ≡ true
  pub kind : entry.kind ≡ le_at 2 (walk.at + 2) walk.file.now
  pub body : entry.body.now ≡ take (size_from walk.file.now walk.at) (drop (walk.at + 4) walk.file.now)
  pub end : entry.end ≡ end_from walk.file.now walk.at
  pub file : later.file ≡ walk.file
  pub at : later.at ≡ end_from walk.file.now walk.at

-- what a walk gives next: that record, or none, where no whole one stands
abbrev pub GivesEntry : Walk → Option Entry → Walk → Type 0
GivesEntry walk None later = (whole_at walk.file.now walk.at ≡ false) × (later ≡ walk)
GivesEntry walk (Some entry) later = Gives walk entry later

-- the first n rates of a body in an array, with zeros past them
abbrev pub rates_read : (n : ℕ) → (body : List ℕ) → List ℤ
rates_read n body = table 30 n (λ k. signed_of 4 (number_at 4 body k)) (pos 0)

-- the slope that stands in a body
abbrev pub slope_read : (body : List ℕ) → Pattern
slope_read body = Slope
    (signed_of 4 (number_at 4 body 0))
    (signed_of 4 (number_at 4 body 1))
    (get_or body 8 0)
