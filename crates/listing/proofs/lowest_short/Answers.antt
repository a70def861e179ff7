-- `listing::lowest_short` goes by whether a bit is set.
use mathlib.Core.Path.{◌∙◌}
use borrow.Author.Tests.{eq-eqb, ne_eqb}
use Rattle.whole.proofs.Range.{back, ok64}
use Rattle.listing.specs.Text.{lowest_short}
use Rattle.listing.proofs.lowest_short.Goals as goal

pub returns-then-bits-eq0 : goal.returns-then-bits-eq0
unfolding lowest_short
returns-then-bits-eq0 c = rw (eq-eqb c.args.bits 0 c.if-bits-eq0.true)

pub returns : goal.returns
unfolding lowest_short
returns c = rw (ne_eqb c.args.bits 0 c.if-bits-eq0.false) (back (ok64 c.from.result c.from.type_inv) ∙ c.from.ensures)
