-- `cash::TwoRates::bound` is g: the loop takes it from one year to the next.
use mathlib.Core.Path.{◌≡◌}
use Prim.Native.Nat.{ℕ, ◌+◌}
use native.Mathlib.Omega.{arith}
use lib.IntN.{pos, ◌+ℤ◌, ◌*ℤ◌}
use mir.Syntax.{w64}
use mir.Val.{SFits, to_z, of_z}
use Rattle.whole.specs.Range.{million}
use Rattle.whole.specs.Floor.{floor}
use Rattle.whole.proofs.Range.{within_fits, back, ok64}
use Rattle.reckoning.specs.Arrays.{rates_of}
use Rattle.cash.specs.Account.{h as largestOf}
use Rattle.reckoning.proofs.BoundLaws.{product_within, asked_within}
use Rattle.cash.proofs.Bound.{Growing, grow_start, g_between, g_within, added_within, grow_turn, grow_end, largest_few}
use Rattle.cash.proofs.TwoRates.bound.Goals as goal
use Rattle.cash.proofs.TwoRates.bound.Goals.{After-down, After-largest-h, At-loop, Start}

-- the largest rate
module _ (c : After-largest-h) where
  abbrev s : Start
  s = c.before

  abbrev most : ℕ
  most = largestOf (rates_of s.args.self.now.lending.rates) (rates_of s.args.self.now.borrowing.rates) s.args.self.now.horizon.years

  most_is : to_z w64 (of_z w64 c.largest-h.result) ≡ pos most
  most_is = simp (back, ok64 c.largest-h.result c.largest-h.type_inv) c.largest-h.ensures

pub loop-init : goal.loop-init
loop-init c = rw (most_is c) (grow_start _ _ (largest_few _ _ _ (s c).args.self.now.lending.within (s c).args.self.now.borrowing.within (s c).args.self.now.horizon.held) (s c).args.self.now.horizon.held)

-- the loop's state with that rate, and the numbers of a turn
module _ (c : At-loop) where
  grown : Growing (pos (most c.before)) (s c.before).args.self.now.horizon.years (to_z w64 c.loop.g-bits) c.loop.counter
  grown = rw (most_is c.before) at c.loop.invariant

  product_fits : SFits w64 (to_z w64 c.loop.g-bits *ℤ pos (most c.before))
  product_fits = within_fits (omega arith) (product_within (g_within grown) grown.small)

  asked_fits : SFits w64 (to_z w64 c.loop.g-bits *ℤ pos (most c.before) +ℤ pos 999_999)
  asked_fits = within_fits (omega arith) (asked_within (g_within grown) grown.small)

pub overflow_mul-g : goal.overflow_mul-g
overflow_mul-g c = rw (most_is c.before.before) (product_fits c.before)

pub overflow_add-g : goal.overflow_add-g
overflow_add-g c = rw (most_is c.before.before) (simp (back, product_fits c.before) (asked_fits c.before))

pub down-requires : goal.down-requires
down-requires c = rw (most_is c.before.before) (simp (back, product_fits c.before, asked_fits c.before) (asked_within (g_within (grown c.before)) (grown c.before).small))

module _ (c : After-down) where
  abbrev a : At-loop
  a = c.before.before

  down_is : c.down.result ≡ floor (to_z w64 a.loop.g-bits *ℤ pos (most a.before) +ℤ pos 999_999) million
  down_is = simp (back, product_fits a, asked_fits a) at (rw (most_is a.before) at c.down.ensures)

  down_fits : SFits w64 c.down.result
  down_fits = ok64 c.down.result c.down.type_inv

  added_fits : SFits w64 (c.down.result +ℤ pos 2)
  added_fits = within_fits (omega arith) (added_within (grown a) c.before.loop-test.true down_is)

  turned : Growing (pos (most a.before)) (s a.before).args.self.now.horizon.years (to_z w64 a.loop.g-bits +ℤ (c.down.result +ℤ pos 2)) (a.loop.counter + 1)
  turned = grow_turn (grown a) c.before.loop-test.true down_is

  next_fits : SFits w64 (to_z w64 a.loop.g-bits +ℤ (c.down.result +ℤ pos 2))
  next_fits = within_fits (omega arith) (g_within turned)

pub overflow_add-g-in-loop : goal.overflow_add-g-in-loop
overflow_add-g-in-loop c = simp (back, down_fits c) (added_fits c)

pub overflow_add-g-in-loop-2 : goal.overflow_add-g-in-loop-2
overflow_add-g-in-loop-2 c = simp (back, down_fits c, added_fits c) (next_fits c)

pub loop-preserved : goal.loop-preserved
loop-preserved c = rw (most_is c.before.before.before) (simp (back, down_fits c, added_fits c, next_fits c) (turned c))

pub returns : goal.returns
returns c =
    let s = grown c.before in
    record { value = grow_end s c.loop-test.false; between = g_between s }
