-- `finder::splits::Split::none` has no shares.
use native.Mathlib.Omega.{arith}
use Rattle.whole.specs.Sum.{sum_ℕ}
use Rattle.finder.proofs.splits.Split.none.Goals as goal

pub invariant_of-result : goal.invariant_of-result
unfolding sum_ℕ
invariant_of-result c = record { few = omega arith }
