-- The laws of two's complement, over the width: `bytes w` is 4 at w32 and 8 at w64.
use mathlib.Core.Path.{◌≡◌, refl, ap, ◌∙◌}
use mathlib.Core.Logic.{⊎_elim}
use mathlib.Core.List.{List}
use Prim.Native.Nat.{ℕ, suc, ◌+◌, ◌*◌, ◌-◌, ◌^◌, ◌≤◌, ◌<◌}
use native.Mathlib.Omega.{arith}
use borrow.Author.Tests.{lt-ltb, le-ltb}
use lib.IntN.{ℤ, pos, negsuc}
use lib.ListN.{length}
use mir.Syntax.{Width, w8, w16, w32, w64, w128}
use mir.Val.{SFits, bits, hbits, bytes, to_z, of_z}
use mir.ValLaws.{pow-bits, to_z_pos, to_z-of_z, of_z-to_z, to_z-Fits, of_z_fits}
use Rattle.whole.proofs.Bridge.{at, #, ◌⊖◌, whole}
use Rattle.whole.proofs.Laws.{ℕ_cases}
use Rattle.little_endian.specs.LittleEndian.{le_at, stored}
use Rattle.little_endian.specs.TwosComplement.{signed_of, unsigned_of}
use Rattle.little_endian.proofs.LittleEndian.{le_at_stored}

-- how many numbers a width has, by its bytes and by its bits
bytes_bits : (w : Width) → 256 ^ bytes w ≡ 2 ^ bits w
bytes_bits w8 = refl
bytes_bits w16 = refl
bytes_bits w32 = refl
bytes_bits w64 = refl
bytes_bits w128 = refl

-- ---- the definitions are the machine's reading of its bits
to_Z_high : (w : Width) (x : ℕ) → 2 ^ hbits w ≤ x → to_z w x ≡ negsuc (2 ^ bits w - suc x)
to_Z_high w x h = rw (le-ltb x (2 ^ hbits w) h)

pub signed_to_Z : (w : Width) (x : ℕ) → x < 256 ^ bytes w → signed_of (bytes w) x ≡ to_z w x
unfolding signed_of
signed_to_Z w x f = ⊎_elim
    (λ (h : x < 2 ^ hbits w). rw (lt-ltb (2 * x) (256 ^ bytes w) (omega (arith, bytes_bits w, pow-bits w)), to_z_pos w x h))
    (λ (h : 2 ^ hbits w ≤ x). rw (le-ltb (2 * x) (256 ^ bytes w) (omega (arith, bytes_bits w, pow-bits w)), to_Z_high w x h)
    (omega (whole, bytes_bits w, at (# (pos x) ⊖ # (pos (256 ^ bytes w))))))
    (ℕ_cases x (2 ^ hbits w))

pub unsigned_of_Z : (w : Width) (z : ℤ) → unsigned_of (bytes w) z ≡ of_z w z
unfolding unsigned_of
unsigned_of_Z w (pos a) = refl
unsigned_of_Z w (negsuc a) = rw bytes_bits

-- ---- ranges
pub signed_fits : (w : Width) (x : ℕ) → x < 256 ^ bytes w → SFits w (signed_of (bytes w) x)
signed_fits w x f = rw signed_to_Z (to_z-Fits w x (record { fits = rw (← bytes_bits w) f }))

pub unsigned_below : (w : Width) (z : ℤ) → SFits w z → unsigned_of (bytes w) z < 256 ^ bytes w
unsigned_below w z f = rw (unsigned_of_Z, bytes_bits) (of_z_fits w z f).fits

-- ---- both ways
pub signed_unsigned : (w : Width) (z : ℤ) → SFits w z → signed_of (bytes w) (unsigned_of (bytes w) z) ≡ z
signed_unsigned w z f = signed_to_Z w _ (unsigned_below w z f) ∙ ap (to_z w) (unsigned_of_Z w z) ∙ to_z-of_z w z f

pub unsigned_signed : (w : Width) (x : ℕ) → x < 256 ^ bytes w → unsigned_of (bytes w) (signed_of (bytes w) x) ≡ x
unsigned_signed w x f = unsigned_of_Z w _ ∙ ap (of_z w) (signed_to_Z w x f) ∙ of_z-to_z w x (record { fits = rw (← bytes_bits w) f })

-- a signed number that is written is read back
pub signed_stored : (w : Width) (b : List ℕ) (at : ℕ) (z : ℤ) → at + bytes w ≤ length b → SFits w z →
    signed_of (bytes w) (le_at (bytes w) at (stored (bytes w) b at (unsigned_of (bytes w) z))) ≡ z
signed_stored w b at z h f = rw (le_at_stored (bytes w) b at (unsigned_of (bytes w) z) h (unsigned_below w z f)) (signed_unsigned w z f)
