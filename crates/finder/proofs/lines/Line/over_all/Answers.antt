-- `finder::lines::Line::over_all` has no coefficients.
use native.Mathlib.Omega.{arith}
use lib.IntN.{pos}
use lib.ListN.{get_or-replicate}
use Rattle.whole.proofs.Bridge.{whole}
use Rattle.whole.proofs.Range.{within_pos}
use Rattle.finder.proofs.lines.Line.over_all.Goals as goal

pub invariant_of-result : goal.invariant_of-result
invariant_of-result c = record { within = record { coefficient = λ j l. rw (get_or-replicate 4 j (pos 0) (pos 0) l) (within_pos (omega arith)); constant_within = omega whole } }
