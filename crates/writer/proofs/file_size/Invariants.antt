-- `writer::file_size` adds length after length.
use mathlib.Core.Path.{◌≡◌}
use Rattle.whole.specs.Sum.{sum_ℕ}
use Rattle.writer.proofs.Length.{length_at}
use Rattle.writer.proofs.file_size.Given as goal

abbrev pub invariant-loop-t : goal.invariant-loop-t
invariant-loop-t l = l.size ≡ sum_ℕ l.t (length_at l.shaped.shape l.plan.pattern)
