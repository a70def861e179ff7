-- `listing::Text::amounts` puts down the fields of a row, whose numbers fit 64 bits.
use mathlib.Core.Path.{◌≡◌, ap, ◌∙◌}
use native.Mathlib.Omega.{arith}
use borrow.Author.Rules.{rules}
use Prim.Native.Nat.{◌≤◌}
use lib.ListN.{length}
use Rattle.whole.proofs.Range.{back}
use Rattle.listing.specs.Text.{field, amounts_text}
use Rattle.listing.proofs.Putting.{put_then, put_as, put_few}
use Rattle.listing.proofs.Fields.{fields_take, length_front}
use Rattle.listing.proofs.Text.amounts.Goals as goal

pub returns : goal.returns
unfolding amounts_text
returns c =
    let row = c.args.row.now in
    let few : c.args.n ≤ length row.coefficients = search rules in
    put_then {m = 396} (put_then {m = 44} {n = 352} (put_then
    (put_as (ap field (back (search rules))) c.field.ensures)
    (put_as (ap field (back (search rules))) c.field-2.ensures))
    (put_as (fields_take c.args.n row.coefficients few) (put_few (omega (arith, length_front row.coefficients few, c.requires.n_bound)) c.fields.ensures)))
    (put_as (ap field (back (search rules))) c.field-3.ensures)
