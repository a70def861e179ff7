-- `Rollover::next_row` is a row of the table: the year's unit, and what each earlier row within the terms sends into it.
use Rattle.reckoning.proofs.GammaLoops.{Rowing}
use Rattle.reckoning.proofs.Rollover.next_row.Given as goal

abbrev pub invariant-loop-c : goal.invariant-loop-c
invariant-loop-c l = Rowing l.self l.i l.rows l.j l.values l.c
