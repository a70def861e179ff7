-- A byte is stored as it is.
use mathlib.Core.Path.{sym}
use Rattle.little_endian.proofs.LittleEndian.{stored_one}
use Rattle.little_endian.proofs.U8Number.put.Goals as goal

pub returns : goal.returns
returns c = sym (stored_one c.args.b.now c.args.at c.args.self c.ranges.self.fits)
