-- `writer::Pen::patterns` puts down record after record.
use lib.ListN.{length, get_or}
use Rattle.plan.specs.Held.{pattern_held, missing_pattern}
use Rattle.planfile.specs.Rows.{pattern_rec}
use Rattle.writer.proofs.Put.{Recorded}
use Rattle.writer.proofs.Pen.patterns.Given as goal

abbrev pub invariant-loop-row : goal.invariant-loop-row
invariant-loop-row l =
    Recorded (length l.rows) (λ t. pattern_rec l.years (pattern_held l.years (get_or l.rows t missing_pattern))) l.initial.self l.self l.row-index
