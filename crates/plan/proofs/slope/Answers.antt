-- `plan::slope` steps from the start: in 64 bits nothing wraps, since no product passes 31 times 2^31.
use mathlib.Core.Path.{◌≡◌, ap, ◌∙◌}
use Prim.Native.Nat.{ℕ, ◌+◌, ◌*◌, ◌≤◌, min}
use native.Mathlib.Omega.{arith}
use lib.IntN.{ℤ, pos, ◌+ℤ◌, ◌-ℤ◌, ◌*ℤ◌}
use mir.Facts.{to_z-of_z}
use mir.Syntax.{w64}
use mir.Val.{SFits}
use Rattle.whole.specs.Range.{Within}
use Rattle.whole.proofs.Bridge.{whole, at, #, ◌⊖◌}
use Rattle.whole.proofs.Range.{whole64, within_add, within_mul, within_fits, back, pos64, ok64, between_32}
use Rattle.plan.specs.Numbers.{slope}
use Rattle.plan.proofs.slope.Goals as goal
use Rattle.plan.proofs.slope.Goals.{After-from-3}

-- the same steps, start and step
alike : {k n : ℕ} {x start y step : ℤ} → k ≡ n → x ≡ start → y ≡ step → x +ℤ (pos k -ℤ pos 1) *ℤ y ≡ start +ℤ (pos n -ℤ pos 1) *ℤ step
alike d e f = rw (d, e, f)

module _ (c : After-from-3) where
  -- the steps taken
  abbrev steps : ℤ
  steps = pos c.min.result -ℤ pos 1

  few : c.min.result ≤ 31
  few = omega (arith, c.min.ensures, c.requires)

  steps_within : Within 31 steps
  steps_within = let f = few in omega (whole, at (# (pos c.min.result) ⊖ # (pos 1)))

  steps_fits : SFits w64 steps
  steps_fits = within_fits (omega arith) steps_within

  k_fits : SFits w64 (pos c.min.result)
  k_fits = let f = few in omega whole64

  -- what they come to
  start_is : c.from-2.result ≡ c.args.start
  start_is = simp (to_z-of_z c.ranges.start) at c.from-2.ensures

  step_is : c.from-3.result ≡ c.args.step
  step_is = simp (to_z-of_z c.ranges.step) at c.from-3.ensures

  start_within : Within 2_147_483_648 c.from-2.result
  start_within = omega (whole, start_is, between_32 c.ranges.start)

  step_within : Within 2_147_483_648 c.from-3.result
  step_within = omega (whole, step_is, between_32 c.ranges.step)

  product_within : Within (31 * 2_147_483_648) (steps *ℤ c.from-3.result)
  product_within = within_mul {c = 2_147_483_648} steps_within step_within

  product_fits : SFits w64 (steps *ℤ c.from-3.result)
  product_fits = within_fits (omega arith) product_within

  sum_fits : SFits w64 (c.from-2.result +ℤ steps *ℤ c.from-3.result)
  sum_fits = within_fits {b = 2_147_483_648 + 31 * 2_147_483_648} (omega arith) (within_add {b = 2_147_483_648} {x = c.from-2.result} start_within product_within)

  sum_is : c.from-2.result +ℤ steps *ℤ c.from-3.result ≡ slope c.args.start c.args.step c.args.until c.args.year
  unfolding slope
  sum_is = alike (c.min.ensures ∙ ap (min c.args.year) c.from.ensures) start_is step_is

  start_fits : SFits w64 c.from-2.result
  start_fits = ok64 c.from-2.result c.from-2.type_inv

  step_fits : SFits w64 c.from-3.result
  step_fits = ok64 c.from-3.result c.from-3.type_inv

pub overflow_mul-result : goal.overflow_mul-result
overflow_mul-result c = simp (pos64 (k_fits c), back, steps_fits c, step_fits c) (product_fits c)

pub overflow_add-result : goal.overflow_add-result
overflow_add-result c = simp (pos64 (k_fits c), back, steps_fits c, step_fits c, product_fits c, start_fits c) (sum_fits c)

pub returns : goal.returns
returns c = simp (pos64 (k_fits c), back, steps_fits c, step_fits c, product_fits c, start_fits c, sum_fits c) (sum_is c)
