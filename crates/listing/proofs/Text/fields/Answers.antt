-- `listing::Text::fields` puts down field after field (`Partly`).
use mathlib.Core.List.{◌++◌}
use mathlib.Core.Path.{refl, sym, ap}
use borrow.Author.Rules.{rules}
use Rattle.whole.proofs.Range.{back}
use native.Mathlib.Numerals.{add-one}
use Rattle.listing.proofs.Putting.{partly_none, partly_more}
use Rattle.listing.specs.Text.{field, fields}
use Rattle.listing.proofs.Text.fields.Goals as goal

pub loop-z-init : goal.loop-z-init
unfolding fields
loop-z-init c = partly_none c.requires refl

pub loop-z-preserved : goal.loop-z-preserved
unfolding fields
loop-z-preserved c = partly_more c.loop-z.invariant c.loop-z-test.true c.field.ensures (rw add-one (ap (λ z. fields c.loop-z.z-index c.args.amounts.now ++ field z) (sym (back (search rules)))))
