-- `listing::Text::lines` puts down line after line (`Partly`).
use Rattle.std.specs.Prelude.{map}
use Rattle.planner.specs.Shown.{row_shown}
use Rattle.listing.specs.Text.{lines_text}
use Rattle.listing.proofs.Putting.{Partly}
use Rattle.listing.proofs.Text.lines.Given as goal

abbrev pub invariant-loop-t : goal.invariant-loop-t
invariant-loop-t l = Partly 447 l.plan.patterns (λ t. lines_text t l.plan.instruments (map row_shown l.judged.rows)) l.initial.self l.self l.t
