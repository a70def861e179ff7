-- What it is to put a text into a lent buffer.
use Rattle.std.specs.Prelude.{◌≡◌, Bool, true, List, ℕ, ◌+◌, ◌≤◌, ◌<◌, length, get_or, Option, None, is_some}
use Rattle.std.proofs.lemmas.List.Edits.{sets}
use Rattle.little_endian.specs.Wrote.{Wrote}
use Rattle.planner.specs.declared.PatternRow.{PatternRow}
use Rattle.listing.specs.declared.Text.{Text}

-- the buffer of a text has so many more bytes
pub record Free (t : Text) (most : ℕ) : Type 0 where
  pub fits : t.at + most ≤ length t.buffer.now

-- the text t has become u: the bytes stand after its own, and are at most so many; it is the same buffer, of the same length
pub record Put (t u : Text) (bytes : List ℕ) (most : ℕ) : Type 0 where
  pub wrote : Wrote t.buffer.now u.buffer.now t.at bytes u.at
  pub few : u.at ≤ t.at + most
  pub kept : length u.buffer.now ≡ length t.buffer.now
  pub same : u.buffer.ghost_name ≡ t.buffer.ghost_name

-- each of the first m patterns has a row
pub record EachThere (m : ℕ) (rows : List (Option PatternRow)) : Type 0 where
  pub there : (t : ℕ) → t < m → is_some (get_or rows t None) ≡ true

-- a buffer l of 32,768 bytes has become l': its first r bytes are the text, and the rest is untouched
pub record Listed (text l l' : List ℕ) (r : ℕ) : Type 0 where
  pub size : r ≡ length text
  pub few : r ≤ 32_768
  pub is : l' ≡ sets l 0 text
