-- `arrays::put_amounts` puts down row after row (Copying, `Joining`), and then the outflows, the money already invested and the
-- cost that is left at the horizon.
use Rattle.plan.specs.Held.{instrument_at}
use Rattle.arrays.proofs.Copying.{Joining}
use Rattle.arrays.proofs.put_amounts.Given as goal

abbrev pub invariant-loop-j : goal.invariant-loop-j
invariant-loop-j l = Joining 556 16 (λ j. (instrument_at l.plan j).payments) l.out l.j
