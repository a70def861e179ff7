-- `arrays::put_rates` puts down row after row (Copying, `Joining`), and then the starts and the steps.
use Rattle.plan.specs.Held.{pattern_at}
use Rattle.arrays.specs.Arrays.{rates_in}
use Rattle.arrays.proofs.Copying.{Joining}
use Rattle.arrays.proofs.put_rates.Given as goal

abbrev pub invariant-loop-t : goal.invariant-loop-t
invariant-loop-t l = Joining 2_048 64 (λ t. rates_in (pattern_at l.plan t)) l.out l.t
