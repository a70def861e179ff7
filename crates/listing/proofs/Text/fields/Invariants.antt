-- `listing::Text::fields` puts down field after field (`Partly`).
use lib.ListN.{length}
use Rattle.listing.specs.Text.{fields}
use Rattle.listing.proofs.Putting.{Partly}
use Rattle.listing.proofs.Text.fields.Given as goal

abbrev pub invariant-loop-z : goal.invariant-loop-z
invariant-loop-z l = Partly 22 (length l.amounts) (λ k. fields k l.amounts) l.initial.self l.self l.z-index
