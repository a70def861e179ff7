-- `writer::Pen::patterns` puts down record after record.
use Rattle.writer.proofs.Put.{recorded_none, recorded_free, recorded_more, recorded_all}
use Rattle.writer.proofs.Pen.patterns.Goals as goal

pub loop-row-init : goal.loop-row-init
loop-row-init c = recorded_none c.requires.free

pub pattern-requires-clause-free : goal.pattern-requires-clause-free
pattern-requires-clause-free c = recorded_free c.loop-row.invariant c.loop-row-test.true

pub loop-row-preserved : goal.loop-row-preserved
loop-row-preserved c = recorded_more c.loop-row.invariant c.loop-row-test.true c.pattern.ensures

pub returns : goal.returns
returns c = recorded_all c.loop-row.invariant c.loop-row-test.false
