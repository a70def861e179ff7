-- `patterns::bound_at` is B, and one more where the cost is held.
use mathlib.Core.Path.{◌≡◌, refl, ap, ap₂, ◌∙◌}
use mathlib.Core.Bool.{Bool, true, false}
use Prim.Native.Nat.{◌+◌}
use Rattle.whole.specs.Range.{Between}
use lib.IntN.{pos, ◌+ℤ◌}
use mir.Syntax.{w64}
use mir.Val.{SFits, bool_byte}
use Rattle.whole.proofs.Bridge.{whole, at, #, ◌⊕◌}
use Rattle.whole.proofs.Range.{whole64, back, ok64}
use Rattle.reckoning.specs.Bound.{h, B}
use Rattle.reckoning.specs.Arrays.{rates_of}
use Rattle.plan.specs.Held.{flag}
use Rattle.patterns.proofs.bound_at.Goals as goal
use Rattle.patterns.proofs.bound_at.Goals.{After-from}

flag_is : (b : Bool) → bool_byte b ≡ flag b
flag_is true = refl
flag_is false = refl

byte_between : (b : Bool) → Between (pos 0) (pos 1) (pos (bool_byte b))
byte_between true = omega whole
byte_between false = omega whole

module _ (c : After-from) where
  b_fits : SFits w64 c.bound.result
  b_fits = ok64 c.bound.result c.bound.type_inv

  more_fits : SFits w64 c.from.result
  more_fits = ok64 c.from.result c.from.type_inv

  sum_is : c.bound.result +ℤ c.from.result ≡ pos (B (h (rates_of c.args.i.now.rates) c.args.horizon.years) c.args.horizon.years + flag c.args.costed)
  sum_is = ap₂ ◌+ℤ◌ c.bound.ensures.value (c.from.ensures ∙ ap pos (flag_is c.args.costed))

  sum_fits : SFits w64 (c.bound.result +ℤ c.from.result)
  sum_fits =
      let one : Between (pos 0) (pos 1) c.from.result = rw c.from.ensures (byte_between c.args.costed) in
      omega (whole64, c.bound.ensures.between, one, at (# c.bound.result ⊕ # c.from.result))

pub returns-clause-value : goal.returns-clause-value
returns-clause-value c = simp (back, b_fits c, more_fits c, sum_fits c) (sum_is c)
