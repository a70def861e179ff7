-- `writer::Pen::head` puts down the numbers of the shape, each of which is a byte.
use mathlib.Core.Path.{sym}
use Rattle.writer.proofs.Put.{put_as, free_as}
use Rattle.writer.proofs.Rows.{head_written}
use Rattle.writer.proofs.Pen.head.Goals as goal

pub record-requires-clause-free : goal.record-requires-clause-free
record-requires-clause-free c = free_as (sym (head_written c.args.shape c.requires.in_range)) c.requires.free

pub returns : goal.returns
returns c = put_as (head_written c.args.shape c.requires.in_range) c.record.ensures
