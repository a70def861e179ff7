-- `writer::Pen::file` puts down group after group.
use Rattle.plan.specs.Held.{held}
use Rattle.planfile.specs.Groups.{groups_of}
use Rattle.planfile.specs.Records.{record_of}
use Rattle.writer.proofs.Put.{Grouped}
use Rattle.writer.proofs.Pen.file.Given as goal

abbrev pub invariant-loop-group : goal.invariant-loop-group
invariant-loop-group l = Grouped (groups_of l.shape) (record_of (held l.plan)) l.initial.self l.self l.group-index
