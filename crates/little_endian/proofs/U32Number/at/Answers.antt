-- A `u32` is read as the machine reads it.
use mathlib.Core.Path.{◌∙◌}
use Rattle.little_endian.proofs.Machine.{from_four}
use Rattle.little_endian.proofs.U32Number.at.Goals as goal

pub returns : goal.returns
returns c = c.from_le_bytes.ensures ∙ from_four c.args.at c.args.s.now
