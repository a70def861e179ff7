-- `planner::rows::short_bits` sets the bit of one short word after the other.
use Rattle.std.proofs.Common.{◌≡◌, eqb, get_or, None}
use Rattle.planner.specs.Verdict.{short, bits_of}
use Rattle.planner.specs.Shown.{word_shown}
use Rattle.planner.proofs.rows.short_bits.Given as goal

abbrev pub invariant-loop-t : goal.invariant-loop-t
invariant-loop-t l = l.bits ≡ bits_of l.t (λ t. eqb (word_shown (get_or l.words t None)) short)
