-- A refusal's number is none of an answer that is not refused.
use mathlib.Core.Path.{◌≡◌, ap}
use native.Mathlib.Omega.{arith}
use Rattle.refusal.specs.Number.{number_of, Numbering}
use Rattle.refusal.specs.declared.Refusal.{Refusal}
use Rattle.refusal.specs.declared.Refusal.TheVariants.{FileLength, Records, Head, Order, Size, Amount, Rollover, Rate, Allocation, PatternNumber, OutOfLimit, Room, Until, Lists, Parts}

pub number_some : (refusal : Refusal) → number_of refusal ≡ 0 → ⊥
number_some FileLength e = omega arith
number_some Records e = omega arith
number_some Head e = omega arith
number_some Order e = omega arith
number_some Size e = omega arith
number_some Amount e = omega arith
number_some Rollover e = omega arith
number_some Rate e = omega arith
number_some Allocation e = omega arith
number_some PatternNumber e = omega arith
number_some OutOfLimit e = omega arith
number_some Room e = omega arith
number_some Until e = omega arith
number_some Lists e = omega arith
number_some Parts e = omega arith

-- refusals have their own numbers
pub number_own : Numbering (λ refusal e. e ≡ refusal) number_of
number_own = (λ refusal e same. ap number_of same, number_some)
