-- `writer::Pen::numbers` puts down number after number.
use mathlib.Core.Path.{sym, ap}
use Rattle.little_endian.specs.LittleEndian.{bytes_of}
use Rattle.writer.proofs.Put.{put_as, free_as, numbered_none, numbered_free, numbered_more, number_is}
use Rattle.writer.proofs.Pen.numbers.Goals as goal

pub loop-x-init : goal.loop-x-init
loop-x-init g c = numbered_none c.requires

pub number-requires : goal.number-requires
number-requires g c =
    let n = g.T.Number in
    free_as (ap (bytes_of n.SIZE) (number_is n.bits_of c.args.xs.now c.loop-x-test.true c.x-item.is)) (numbered_free c.loop-x.invariant c.loop-x-test.true)

pub loop-x-preserved : goal.loop-x-preserved
loop-x-preserved g c =
    let n = g.T.Number in
    numbered_more c.loop-x.invariant c.loop-x-test.true
    (put_as (ap (bytes_of n.SIZE) (sym (number_is n.bits_of c.args.xs.now c.loop-x-test.true c.x-item.is))) c.number.ensures)
