-- A `u16` is stored as the machine stores it.
use mathlib.Core.Path.{◌∙◌}
use Rattle.little_endian.proofs.Machine.{copied}
use Rattle.little_endian.proofs.U16Number.put.Goals as goal

pub returns : goal.returns
returns c = copied 2 c.args.at c.args.self c.args.b.now (c.copy_from_slice.ensures.after ∙ c.to_le_bytes.ensures) c.requires
