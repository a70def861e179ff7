-- `planner::rows::word_of` compares the fund, and the fund with its bound, to c.
use mathlib.Core.Path.{◌≡◌}
use mathlib.Core.Bool.{false}
use lib.IntN.{◌+ℤ◌}
use lib.Signed.{le_z}
use mir.Syntax.{w64}
use mir.Val.{SFits}
use Rattle.whole.proofs.Bridge.{at, #, ◌⊕◌}
use Rattle.whole.proofs.Range.{whole64, back}
use Rattle.planner.specs.Verdict.{word_of}
use Rattle.planner.proofs.rows.word_of.Goals as goal
use Rattle.planner.proofs.rows.word_of.Goals.{Else-z-c, Start}

sum_fits : (s : Start) → SFits w64 (s.args.z +ℤ s.args.b)
sum_fits s = omega (whole64, s.requires.within, s.requires.between, at (# s.args.z ⊕ # s.args.b))

pub returns-then-z-c : goal.returns-then-z-c
unfolding word_of
returns-then-z-c c = let s = c.before in rw (simp (back, s.ranges.z, s.ranges.c) at c.if-z-c.true)

-- the fund is below c
below : (c : Else-z-c) → le_z c.before.args.c c.before.args.z ≡ false
below c = let s = c.before in simp (back, s.ranges.z, s.ranges.c) at c.if-z-c.false

pub returns-then-z-b : goal.returns-then-z-b
unfolding word_of
returns-then-z-b c =
    let s = c.before.before in
    let f = sum_fits s in
    rw (below c.before, simp (back, s.ranges.z, s.ranges.b, s.ranges.c, f) at c.if-z-b.true)

pub returns-else-z-b : goal.returns-else-z-b
unfolding word_of
returns-else-z-b c =
    let s = c.before.before in
    let f = sum_fits s in
    rw (below c.before, simp (back, s.ranges.z, s.ranges.b, s.ranges.c, f) at c.if-z-b.false)
