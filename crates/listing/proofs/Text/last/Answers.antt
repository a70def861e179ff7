-- `listing::Text::last` puts down the plan's word, the two counts and a line feed.
use mathlib.Core.Path.{ap, ◌∙◌}
use Rattle.whole.proofs.Range.{back, ok64}
use Rattle.listing.specs.Text.{field, last_text}
use Rattle.listing.proofs.Putting.{put_then, put_as}
use Rattle.listing.proofs.Text.last.Goals as goal

pub returns : goal.returns
unfolding last_text
returns c =
    let n = c.short_count in
    let m = c.lowest_short in
    put_then (put_then (put_then c.word.ensures (put_as (ap field (back (ok64 n.result n.type_inv) ∙ n.ensures)) c.field.ensures))
    (put_as (ap field (back (ok64 m.result m.type_inv) ∙ m.ensures)) c.field-2.ensures)) c.byte.ensures
