-- `reckoning::joined` adds to each entry of a row what an earlier row sends into it.
use mathlib.Core.Path.{◌≡◌, refl}
use Prim.Native.Nat.{◌<◌}
use native.Mathlib.Omega.{arith}
use lib.ListN.{get_or}
use lib.IntN.{pos, ◌+ℤ◌}
use mir.Syntax.{w64}
use mir.Val.{to_z, of_z}
use Rattle.std.proofs.lemmas.List.{length-take}
use Rattle.whole.proofs.Filling.{fill_start, fill_turn, fill_end}
use Rattle.whole.proofs.Range.{back, ok64}
use Rattle.reckoning.proofs.GammaLoops.{joined_at, earlier_word, row_entry_fits, joined_is, joined_fits}
use Rattle.reckoning.proofs.joined.Goals as goal
use Rattle.reckoning.proofs.joined.Goals.{After-sent}

pub loop-l-init : goal.loop-l-init
loop-l-init c = fill_start

pub sent-requires-clause-within : goal.sent-requires-clause-within
sent-requires-clause-within c = earlier_word c.requires (omega (arith, c.loop-l-test.true, length-take c.args.horizon.years c.args.earlier.now))

-- an entry, and the sum for it
module _ (c : After-sent) where
  few : c.loop-l.l < c.args.horizon.years
  few = omega (arith, c.loop-l-test.true, length-take c.args.horizon.years c.args.earlier.now)

  sum_is : to_z w64 (of_z w64 (get_or c.args.row.now c.loop-l.l (pos 0))) +ℤ to_z w64 (of_z w64 c.sent.result) ≡ joined_at c.args.row.now c.args.earlier.now c.args.r c.args.w c.args.i c.loop-l.l
  sum_is = simp (back, row_entry_fits c.requires few, ok64 c.sent.result c.sent.type_inv) (joined_is c.requires few c.sent.ensures)

pub overflow_add-v : goal.overflow_add-v
overflow_add-v c = rw (sum_is c) (joined_fits c.requires (few c))

pub loop-l-preserved : goal.loop-l-preserved
loop-l-preserved c = rw (sum_is c, back (joined_fits c.requires (few c))) (simp (back, c.ranges.r, c.ranges.w, c.ranges.i) (fill_turn c.requires.few (few c) (simp (back, c.ranges.r, c.ranges.w, c.ranges.i) at c.loop-l.invariant) refl))

pub returns : goal.returns
returns c = fill_end (omega (arith, c.loop-l-test.false, c.told-earlier, c.requires.few, length-take c.args.horizon.years c.args.earlier.now)) (simp (back, c.ranges.r, c.ranges.w, c.ranges.i) at c.loop-l.invariant)
