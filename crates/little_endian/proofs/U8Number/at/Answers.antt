-- A byte spells itself.
use mathlib.Core.Path.{sym}
use Rattle.little_endian.proofs.LittleEndian.{le_at_one}
use Rattle.little_endian.proofs.U8Number.at.Goals as goal

pub returns : goal.returns
returns c = sym (le_at_one c.args.at c.args.s.now)
