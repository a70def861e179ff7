-- What it is to put bytes down in a lent buffer.
use Rattle.std.specs.Prelude.{◌≡◌, List, ℕ, ◌+◌, ◌≤◌, length}
use Rattle.little_endian.specs.Wrote.{Wrote}
use Rattle.writer.specs.declared.Pen.{Pen}

-- the buffer of a pen has room for the bytes
pub record Free (p : Pen) (bytes : List ℕ) : Type 0 where
  pub fits : p.at + length bytes ≤ length p.buffer.now

-- the pen p has become q, of the same buffer: the bytes stand from p's place up to q's
pub record Put (p q : Pen) (bytes : List ℕ) : Type 0 where
  pub same : q.buffer.ghost_name ≡ p.buffer.ghost_name
  pub wrote : Wrote p.buffer.now q.buffer.now p.at bytes q.at
