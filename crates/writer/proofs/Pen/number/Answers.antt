-- `writer::Pen::number` puts down the bytes of a number.
use mathlib.Core.Path.{refl}
use native.Mathlib.Omega.{arith}
use Rattle.little_endian.proofs.LittleEndian.{length_bytes_of}
use Rattle.little_endian.proofs.Wrote.{wrote_number}
use Rattle.writer.proofs.Pen.number.Goals as goal

pub put-requires : goal.put-requires
put-requires g c = let n = g.T.Number in omega (arith, c.requires.fits, length_bytes_of n.SIZE (n.bits_of c.args.x))

pub returns : goal.returns
returns g c = let n = g.T.Number in record { same = refl; wrote = wrote_number n.SIZE (n.bits_of c.args.x) c.put.ensures (rw c.SIZE.ensures refl) }
