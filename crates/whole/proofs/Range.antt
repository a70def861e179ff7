-- The laws of ranges, |z| as a natural, and that a number of a known range fits a machine's word.
use mathlib.Core.Path.{◌≡◌, refl, sym, ap, ◌∙◌}
use Prim.Native.Nat.{ℕ, zero, suc, ◌+◌, ◌*◌, ◌-◌, ◌/◌, ◌≤◌, ◌<◌}
use native.Mathlib.Nat.{mul-le-mul, le_trans, div-le_self}
use native.Mathlib.Omega.{arith}
use lib.IntN.{nat_abs, ℤ, pos, negsuc, neg_ℤ, ◌+ℤ◌, ◌-ℤ◌, ◌*ℤ◌}
use lib.Signed.{mag, quot_z, ◌≤ℤ◌}
use mir.Syntax.{w32, w64}
use mir.Val.{SFits, to_z, of_z}
use mir.Facts.{to_z-of_z, to_z_pos}
use Rattle.whole.specs.Range.{Between, Within}
use Rattle.whole.proofs.Bridge.{plus, minus, at, #, ◌⊕◌, ◌⊖◌, ⊝, whole}

-- ---- ranges through the operations
pub within_more : {b c : ℕ} {z : ℤ} → b ≤ c → Within b z → Within c z
within_more {b} {c} h w = omega (whole, at (⊝ (# (pos b))), at (⊝ (# (pos c))))

pub within_add : {b c : ℕ} {x y : ℤ} → Within b x → Within c y → Within (b + c) (x +ℤ y)
within_add {b} {c} {x} {y} h k = omega (whole, at (⊝ (# (pos b))), at (⊝ (# (pos c))), at (⊝ (# (pos (b + c)))), at (# x ⊕ # y))

pub within_sub : {b c : ℕ} {x y : ℤ} → Within b x → Within c y → Within (b + c) (x -ℤ y)
within_sub {b} {c} {x} {y} h k = omega (whole, at (⊝ (# (pos b))), at (⊝ (# (pos c))), at (⊝ (# (pos (b + c)))), at (# x ⊖ # y))

pub within_pos : {b n : ℕ} → n ≤ b → Within b (pos n)
within_pos {b} h = omega (whole, at (⊝ (# (pos b))))

-- ---- |z| as a natural
abs_neg : (n : ℕ) → nat_abs (neg_ℤ (pos n)) ≡ n
abs_neg zero = refl
abs_neg (suc n) = refl

pub abs_mul : (x y : ℤ) → nat_abs (x *ℤ y) ≡ nat_abs x * nat_abs y
abs_mul (pos a) (pos b) = refl
abs_mul (pos a) (negsuc b) = abs_neg (a * suc b)
abs_mul (negsuc a) (pos b) = abs_neg (suc a * b)
abs_mul (negsuc a) (negsuc b) = refl

pub within_abs : {b : ℕ} {z : ℤ} → Within b z → nat_abs z ≤ b
within_abs {b} {z = pos n} w = omega whole
within_abs {b} {z = negsuc n} w = omega (whole, at (⊝ (# (pos b))))

pub abs_within : (b : ℕ) (z : ℤ) → nat_abs z ≤ b → Within b z
abs_within b (pos n) h = omega (whole, at (⊝ (# (pos b))))
abs_within b (negsuc n) h = omega (whole, at (⊝ (# (pos b))))

pub abs_self : (z : ℤ) → Within (nat_abs z) z
abs_self z = abs_within (nat_abs z) z (omega arith)

pub abs_add : (x y : ℤ) → nat_abs (x +ℤ y) ≤ nat_abs x + nat_abs y
abs_add x y = within_abs (within_add (abs_self x) (abs_self y))

pub abs_nonneg : {z : ℤ} → pos 0 ≤ℤ z → pos (nat_abs z) ≡ z
abs_nonneg {z = pos n} h = refl
abs_nonneg {z = negsuc n} h = absurd h.le

pub within_mul : {b c : ℕ} {x y : ℤ} → Within b x → Within c y → Within (b * c) (x *ℤ y)
within_mul {b} {c} {x} {y} h k = abs_within (b * c) (x *ℤ y) (rw (abs_mul x y) (mul-le-mul (within_abs h) (within_abs k)))

pub within_quot : {b : ℕ} (x : ℤ) (d : ℕ) → Within b x → Within b (quot_z x (pos d))
within_quot {b} x d h = abs_within b (quot_z x (pos d)) (le_trans (go x) (within_abs h))
  where
    go : (x : ℤ) → nat_abs (quot_z x (pos d)) ≤ nat_abs x
    go (pos a) = div-le_self a d
    go (negsuc a) = rw (abs_neg (suc a / d)) (div-le_self (suc a) d)

-- ---- a signed word of 64 bits
mag_of : (z : ℤ) (b : ℕ) → (plus z - minus z) + (minus z - plus z) < b → mag z < b
mag_of (pos n) b h = omega arith
mag_of (negsuc n) b h = omega arith

-- omega's rule for a goal `SFits w64 z`
pub →fits64 : {z : ℤ} → (plus z - minus z) + (minus z - plus z) < 9_223_372_036_854_775_808 → SFits w64 z
→fits64 {z} h = record { sfits = mag_of z 9_223_372_036_854_775_808 h }

pub ruleset whole64 = (whole, →fits64)

pub within_fits : {b : ℕ} {z : ℤ} → b ≤ 9_223_372_036_854_775_807 → Within b z → SFits w64 z
within_fits {b} h w = omega (whole64, at (⊝ (# (pos b))))

-- a call's result is in its type's range: `ok64 c.g.result c.g.ok`
pub ok64 : (z : ℤ) → mag z < 9_223_372_036_854_775_808 → SFits w64 z
ok64 z h = record { sfits = h }

-- what is read back is what was written
pub back : {z : ℤ} → SFits w64 z → to_z w64 (of_z w64 z) ≡ z
back f = to_z-of_z f

-- an unsigned number that was cast to signed
pub pos64 : {n : ℕ} → SFits w64 (pos n) → to_z w64 n ≡ pos n
pos64 f = to_z_pos w64 f.sfits

-- `x == y` of two signed locals compares their bits
pub bits_same : {x y : ℤ} → SFits w64 x → SFits w64 y → of_z w64 x ≡ of_z w64 y → x ≡ y
bits_same f g e = sym (back f) ∙ ap (to_z w64) e ∙ back g

-- ---- a signed word of 32 bits
pub between_32 : {z : ℤ} → SFits w32 z → Between (negsuc 2_147_483_647) (pos 2_147_483_647) z
between_32 {z} f = let h : mag z < 2_147_483_648 = f.sfits in go z h
  where
    go : (z : ℤ) → mag z < 2_147_483_648 → Between (negsuc 2_147_483_647) (pos 2_147_483_647) z
    go (pos n) h = omega (whole, h)
    go (negsuc n) h = omega (whole, h)

pub fits_32 : {z : ℤ} → Between (negsuc 2_147_483_647) (pos 2_147_483_647) z → SFits w32 z
fits_32 {z = pos n} w = record { sfits = omega (whole, w) }
fits_32 {z = negsuc n} w = record { sfits = omega (whole, w) }
