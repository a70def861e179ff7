-- `writer::Pen::instruments` puts down record after record.
use mathlib.Core.Path.{sym}
use borrow.Author.Rules.{rules}
use Rattle.writer.proofs.Put.{put_as, free_as, recorded_none, recorded_free, recorded_more, recorded_all}
use Rattle.writer.proofs.Rows.{instrument_written}
use Rattle.writer.proofs.Pen.instruments.Goals as goal

pub loop-row-init : goal.loop-row-init
loop-row-init c = recorded_none c.requires.free

pub record-requires-clause-free : goal.record-requires-clause-free
record-requires-clause-free c = free_as (sym (instrument_written c.args.years _ (search rules))) (recorded_free c.loop-row.invariant c.loop-row-test.true)

pub loop-row-preserved : goal.loop-row-preserved
loop-row-preserved c = recorded_more c.loop-row.invariant c.loop-row-test.true (put_as (instrument_written c.args.years _ (search rules)) c.record.ensures)

pub returns : goal.returns
returns c = recorded_all c.loop-row.invariant c.loop-row-test.false
