-- A number that is no kind's is before the first or past the last.
use native.Mathlib.Omega.{arith}
use Rattle.whole.proofs.Entry.{nth_outside}
use Rattle.planfile.specs.Kinds.{roles, role_of}
use Rattle.planfile.proofs.Kind.of.Goals as goal

pub returns-in_default : goal.returns-in_default
unfolding role_of
returns-in_default c = let n = c.in_default in nth_outside 0 roles _ (λ l. omega arith)
