-- `listing::Text::bytes` puts down byte after byte (`Partly`).
use native.Mathlib.Numerals.{add-one}
use lib.Seq.{take-suc}
use Rattle.listing.proofs.Putting.{partly_more}
use Rattle.listing.proofs.Text.bytes.Goals as goal

pub loop-x-preserved : goal.loop-x-preserved
loop-x-preserved c = partly_more c.loop-x.invariant c.loop-x-test.true c.byte.ensures (rw add-one (take-suc _ _ 0 c.loop-x-test.true))
