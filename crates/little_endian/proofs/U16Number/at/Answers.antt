-- A `u16` is read as the machine reads it.
use mathlib.Core.Path.{◌∙◌}
use Rattle.little_endian.proofs.Machine.{from_two}
use Rattle.little_endian.proofs.U16Number.at.Goals as goal

pub returns : goal.returns
returns c = c.from_le_bytes.ensures ∙ from_two c.args.at c.args.s.now
