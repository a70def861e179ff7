-- `listing::Text::bytes` puts down byte after byte (`Partly`).
use lib.ListN.{length, take}
use Rattle.listing.proofs.Putting.{Partly}
use Rattle.listing.proofs.Text.bytes.Given as goal

abbrev pub invariant-loop-x : goal.invariant-loop-x
invariant-loop-x l = Partly 1 (length l.text) (λ k. take k l.text) l.initial.self l.self l.x-index
