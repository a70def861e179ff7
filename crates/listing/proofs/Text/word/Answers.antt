-- `listing::Text::word` puts down at most seven bytes.
use mathlib.Core.Path.{sym, ap}
use native.Mathlib.Omega.{arith}
use Rattle.planner.specs.Shown.{word_number}
use Rattle.listing.specs.Text.{word_text}
use Rattle.listing.proofs.Putting.{put_as, put_few}
use Rattle.listing.proofs.Text.word.Goals as goal

pub returns-in-Solvent : goal.returns-in-Solvent
unfolding word_text
returns-in-Solvent c = put_as (ap (λ w. word_text (word_number w)) (sym c.in-Solvent.is)) (put_few (omega arith) c.bytes.ensures)

pub returns-in-Short : goal.returns-in-Short
unfolding word_text
returns-in-Short c = put_as (ap (λ w. word_text (word_number w)) (sym c.in-Short.is)) (put_few (omega arith) c.bytes-in-Short.ensures)

pub returns-in-Close : goal.returns-in-Close
unfolding word_text
returns-in-Close c = put_as (ap (λ w. word_text (word_number w)) (sym c.in-Close.is)) (put_few (omega arith) c.bytes-in-Close.ensures)
