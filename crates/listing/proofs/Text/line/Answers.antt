-- `listing::Text::line` puts down the number, a space, the word, the amounts and a line feed.
use Rattle.listing.specs.Text.{line_text}
use Rattle.listing.proofs.Putting.{put_then}
use Rattle.listing.proofs.Text.line.Goals as goal

pub returns : goal.returns
unfolding line_text
returns c = put_then (put_then (put_then (put_then c.digits.ensures c.byte.ensures) c.word.ensures) c.amounts.ensures) c.byte-2.ensures
