-- P d = 10^(12 d): the exact cell 2 + j is counted in units of 1 / (10^6 P j), and the exact fund in units of 1 / P N.
use mathlib.Core.Path.{◌≡◌, refl, ap, ◌∙◌}
use Prim.Native.Nat.{ℕ, suc, ◌+◌, ◌-◌, ◌*◌, ◌^◌, ◌≤◌, ◌<◌}
use native.Mathlib.Nat.{one-le-pow}
use native.Mathlib.Omega.{arith}
use lib.Pow.{pow-add}
use Rattle.whole.specs.Range.{million}

unfoldable pub P : ℕ → ℕ
P d = 10 ^ (12 * d)

pub P_zero : P 0 ≡ 1
unfolding P
P_zero = refl

pub P_add : (d e : ℕ) → P (d + e) ≡ P d * P e
unfolding P
P_add d e = ap (λ (n : ℕ). 10 ^ n) (omega arith) ∙ pow-add 10 (12 * d) (12 * e)

pub P_suc : (d : ℕ) → P (suc d) ≡ million * million * P d
unfolding P
P_suc d = ap P {x = suc d} {y = 1 + d} (omega arith) ∙ P_add 1 d

pub P_positive : (d : ℕ) → 1 ≤ P d
unfolding P
P_positive d = one-le-pow (12 * d) 10 (omega arith)

-- the powers of two parts of j - 1
pub P_split : (j l : ℕ) → l < j → P l * P (j - l - 1) ≡ P (j - 1)
P_split j l b = let e : l + (j - l - 1) ≡ j - 1 = omega arith in rw (← P_add l (j - l - 1), e)

pub P_pred : (j : ℕ) → 1 ≤ j → P j ≡ million * million * P (j - 1)
P_pred j some = let e : j ≡ suc (j - 1) = omega arith in ap P e ∙ P_suc (j - 1)
