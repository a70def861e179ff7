-- `writer::Pen::instruments` puts down record after record.
use mathlib.Core.List.{[]}
use lib.ListN.{length, get_or}
use Rattle.plan.specs.Held.{instrument_held}
use Rattle.planfile.specs.Rows.{instrument_rec}
use Rattle.writer.proofs.Put.{Recorded}
use Rattle.writer.proofs.Pen.instruments.Given as goal

abbrev pub invariant-loop-row : goal.invariant-loop-row
invariant-loop-row l =
    Recorded (length l.rows) (λ j. instrument_rec l.years (instrument_held l.years (get_or l.rows j (record { payments = [] })))) l.initial.self l.self l.row-index
