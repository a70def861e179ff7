-- `listing::Text::refused` puts down its word, the number and a line feed.
use mathlib.Core.Path.{ap, ◌∙◌}
use Rattle.listing.specs.Text.{decimal, refused_text}
use Rattle.listing.proofs.Putting.{put_then, put_as}
use Rattle.listing.proofs.Text.refused.Goals as goal

pub returns : goal.returns
unfolding refused_text
returns c = put_then (put_then c.bytes.ensures (put_as (ap decimal (c.from-2.ensures ∙ c.from.ensures)) c.digits.ensures)) c.byte.ensures
