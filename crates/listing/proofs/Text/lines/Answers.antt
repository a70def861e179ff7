-- `listing::Text::lines` puts down line after line (`Partly`).
use mathlib.Core.List.{◌++◌}
use native.Mathlib.Numerals.{add-one}
use Rattle.std.specs.Prelude.{map, ◌+◌}
use Rattle.planner.specs.Shown.{row_shown}
use mathlib.Core.Path.{◌≡◌, refl, sym, ap, ◌∙◌}
use native.Mathlib.Omega.{arith}
use Prim.Native.Nat.{◌<◌}
use Rattle.listing.specs.Text.{line_text, lines_text}
use Rattle.listing.proofs.Putting.{partly_none, partly_more, put_as}
use Rattle.listing.proofs.Judged.{row_at, row_there, first_rows}
use Rattle.listing.proofs.Text.lines.Goals as goal
use Rattle.listing.proofs.Text.lines.Goals.{in-Some, in_default}

pub loop-t-init : goal.loop-t-init
unfolding lines_text
loop-t-init c = partly_none c.requires.free refl

pub loop-t-preserved : goal.loop-t-preserved
unfolding lines_text
loop-t-preserved c =
    let rows = c.args.judged.now.rows in
    let n = c.args.plan.now.instruments in
    let l : c.loop-t.t < c.args.plan.now.patterns = omega (arith, c.loop-t-test.true, first_rows rows c.requires.each) in
    elim c.match-row.branch [
      | in-Some w ↦ rw w.self-is (partly_more c.loop-t.invariant l w.line.ensures
          (ap (λ t. lines_text t n (map row_shown rows)) (add-one c.loop-t.t)
          ∙ ap (λ row. lines_text c.loop-t.t n (map row_shown rows) ++ line_text n (c.loop-t.t + 1) row) (row_at rows c.requires.each l w.in-Some.is)))
      | in_default w ↦ absurd (row_there rows c.requires.each l w.in_default.is)
    ]
