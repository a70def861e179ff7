-- `arrays::put_gammas` puts down row after row (Copying, `Joining`).
use mathlib.Core.List.{[]}
use lib.ListN.{get_or}
use Rattle.arrays.proofs.Copying.{Joining}
use Rattle.arrays.proofs.put_gammas.Given as goal

abbrev pub invariant-loop-j : goal.invariant-loop-j
invariant-loop-j l = Joining 900 30 (λ j. (get_or l.rows j (record { values = [] })).values) l.out l.j
