-- `writer::Pen::front` puts down the length, and then the kind.
use mathlib.Core.Path.{sym, ap}
use Rattle.little_endian.specs.LittleEndian.{bytes_of}
use Rattle.writer.proofs.Put.{put_then, put_as, free_rest, free_as}
use Rattle.writer.proofs.Pen.front.Goals as goal

pub number-requires-2 : goal.number-requires-2
number-requires-2 c = free_as (ap (bytes_of 2) (sym c.from.ensures)) (free_rest c.number.ensures c.requires)

pub returns : goal.returns
returns c = put_then c.number.ensures (put_as (ap (bytes_of 2) c.from.ensures) c.number-2.ensures)
