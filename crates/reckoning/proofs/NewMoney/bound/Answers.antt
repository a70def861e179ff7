-- `NewMoney::bound` is B: the loop takes G from one year to the next.
use mathlib.Core.Path.{◌≡◌}
use Prim.Native.Nat.{ℕ, ◌+◌, ◌-◌, ◌*◌, ◌<◌}
use native.Mathlib.Omega.{arith}
use lib.Signed.{mag}
use lib.IntN.{ℤ, pos, ◌+ℤ◌, ◌*ℤ◌}
use mir.Syntax.{w64}
use mir.Val.{SFits, to_z, of_z}
use Rattle.whole.specs.Range.{million}
use Rattle.whole.specs.Floor.{floor}
use Rattle.whole.proofs.Range.{whole64, within_fits, back, ok64, pos64}
use Rattle.reckoning.specs.Bound.{h as largestOf, B}
use Rattle.reckoning.specs.Arrays.{rates_of}
use Rattle.reckoning.proofs.BoundLaws.{product_within, asked_within}
use Rattle.reckoning.proofs.BoundLoops.{largest_small, Growing, grow_start, g_within, added_within, grow_turn, grow_end, bound_between}
use Rattle.reckoning.proofs.NewMoney.bound.Goals as goal
use Rattle.reckoning.proofs.NewMoney.bound.Goals.{After-down, After-loop-k, At-loop-k}

-- a largest rate that a call gave
lent : (h : ℤ) (m : ℕ) → mag h < 9_223_372_036_854_775_808 → h ≡ pos m → to_z w64 (of_z w64 h) ≡ pos m
lent h m l e = simp (back, ok64 h l) e

pub loop-k-init : goal.loop-k-init
loop-k-init c =
    rw (lent _ _ c.largest-h.type_inv c.largest-h.ensures) (grow_start _ _ (largest_small _ _ c.args.self.now.within c.args.horizon.held) c.args.horizon.held)

-- the loop's state with that rate, and the numbers of a turn
module _ (c : At-loop-k) where
  abbrev most : ℕ
  most = largestOf (rates_of c.args.self.now.rates) c.args.horizon.years

  most_is : to_z w64 (of_z w64 c.largest-h.result) ≡ pos most
  most_is = lent _ _ c.largest-h.type_inv c.largest-h.ensures

  grown : Growing (pos most) c.args.horizon.years (to_z w64 c.loop-k.g-bits) c.loop-k.k
  grown = rw most_is at c.loop-k.invariant

  product_fits : SFits w64 (to_z w64 c.loop-k.g-bits *ℤ pos most)
  product_fits = within_fits (omega arith) (product_within (g_within grown) grown.small)

  asked_fits : SFits w64 (to_z w64 c.loop-k.g-bits *ℤ pos most +ℤ pos 999_999)
  asked_fits = within_fits (omega arith) (asked_within (g_within grown) grown.small)

pub overflow_mul-g : goal.overflow_mul-g
overflow_mul-g c = rw (most_is c.before) (product_fits c.before)

pub overflow_add-g : goal.overflow_add-g
overflow_add-g c = rw (most_is c.before) (simp (back, product_fits c.before) (asked_fits c.before))

pub down-requires : goal.down-requires
down-requires c = rw (most_is c.before) (simp (back, product_fits c.before, asked_fits c.before) (asked_within (g_within (grown c.before)) (grown c.before).small))

module _ (c : After-down) where
  abbrev a : At-loop-k
  a = c.before.before

  down_is : c.down.result ≡ floor (to_z w64 c.loop-k.g-bits *ℤ pos (most a) +ℤ pos 999_999) million
  down_is = simp (back, product_fits a, asked_fits a) at (rw (most_is a) at c.down.ensures)

  down_fits : SFits w64 c.down.result
  down_fits = ok64 c.down.result c.down.type_inv

  k_fits : SFits w64 (pos (3 * c.loop-k.k - 5))
  k_fits = omega (whole64, c.loop-k-test.true, c.args.horizon.held.few)

  added_fits : SFits w64 (c.down.result +ℤ pos (3 * c.loop-k.k - 5))
  added_fits = within_fits (omega arith) (added_within (grown a) c.loop-k-test.true _ down_is)

  turned : Growing (pos (most a)) c.args.horizon.years (to_z w64 c.loop-k.g-bits +ℤ (c.down.result +ℤ pos (3 * c.loop-k.k - 5))) (c.loop-k.k + 1)
  turned = grow_turn (grown a) c.loop-k-test.true _ down_is

  next_fits : SFits w64 (to_z w64 c.loop-k.g-bits +ℤ (c.down.result +ℤ pos (3 * c.loop-k.k - 5)))
  next_fits = within_fits (omega arith) (g_within turned)

pub overflow_add-g-in-loop-k : goal.overflow_add-g-in-loop-k
overflow_add-g-in-loop-k c = simp (back, down_fits c, pos64 (k_fits c)) (added_fits c)

pub overflow_add-g-in-loop-k-2 : goal.overflow_add-g-in-loop-k-2
overflow_add-g-in-loop-k-2 c = simp (back, down_fits c, pos64 (k_fits c), added_fits c) (next_fits c)

pub loop-k-preserved : goal.loop-k-preserved
loop-k-preserved c = rw (most_is (a c)) (simp (back, down_fits c, pos64 (k_fits c), added_fits c, next_fits c) (turned c))

-- the end
module _ (c : After-loop-k) where
  years_fit : SFits w64 (pos c.args.horizon.years)
  years_fit = omega (whole64, c.args.horizon.held.few)

  bound_is : to_z w64 c.loop-k.g-bits +ℤ pos c.args.horizon.years ≡ pos (B (most c.before) c.args.horizon.years)
  bound_is = grow_end (grown c.before) c.loop-k-test.false

  bound_fits : SFits w64 (to_z w64 c.loop-k.g-bits +ℤ pos c.args.horizon.years)
  bound_fits = rw bound_is (omega (whole64, bound_between (grown c.before)))

pub overflow_add-result : goal.overflow_add-result
overflow_add-result c = rw (pos64 (years_fit c.before)) (bound_fits c.before)

pub returns : goal.returns
returns c =
    let d = c.before in
    simp (back, pos64 (years_fit d), bound_fits d) (record { value = bound_is d; between = rw (bound_is d) (bound_between (grown d.before)) })
