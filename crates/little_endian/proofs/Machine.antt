-- The machine's own reading of bytes, and its own bytes of a number, are those of specs/.
use mathlib.Core.Path.{◌≡◌, refl, sym, ap, ap₂, ◌∙◌}
use mathlib.Core.List.{List, [], ◌∷◌, append_assoc}
use Prim.Native.Nat.{ℕ, zero, suc, ◌+◌, ◌*◌, ◌-◌, ◌/◌, ◌%◌, ◌^◌, ◌≤◌}
use native.Mathlib.Nat.{add_assoc, div-div-eq-div-mul, div-one, pow-succ', mul_comm}
use native.Mathlib.Omega.{arith}
use lib.ListN.{length, get_or}
use lib.Seq.{sets-eq, drop-drop}
use borrow.Rule.Slice.PartMut.{put_mid}
use mir.Syntax.{w16, w32, w64}
use Rattle.std.specs.Int.{bytes_low_first, byte_at, from_le_bytes}
use Rattle.little_endian.specs.LittleEndian.{le_at, bytes_of, stored}
use Rattle.little_endian.proofs.LittleEndian.{le_at_one, le_at_add, length_bytes_of}

-- ---- reading
le_at_two : (at : ℕ) (s : List ℕ) → le_at 2 at s ≡ get_or s at 0 + 256 * get_or s (at + 1) 0
le_at_two at s = omega (arith, le_at_add 1 1 at s, le_at_one at s, le_at_one (at + 1) s)

le_at_four : (at : ℕ) (s : List ℕ) →
    le_at 4 at s ≡ get_or s at 0 + 256 * get_or s (at + 1) 0 + 65_536 * get_or s (at + 2) 0 + 16_777_216 * get_or s (at + 3) 0
le_at_four at s = omega (arith, le_at_add 2 2 at s, le_at_two at s, simp add_assoc at (le_at_two (at + 2) s))

pub from_two : (at : ℕ) (s : List ℕ) → from_le_bytes w16 (get_or s at 0 ∷ get_or s (at + 1) 0 ∷ []) ≡ le_at 2 at s
from_two at s = omega (arith, le_at_two at s)

pub from_four : (at : ℕ) (s : List ℕ) →
    from_le_bytes w32 (get_or s at 0 ∷ get_or s (at + 1) 0 ∷ get_or s (at + 2) 0 ∷ get_or s (at + 3) 0 ∷ []) ≡ le_at 4 at s
from_four at s = omega (arith, le_at_four at s)

pub from_eight : (at : ℕ) (s : List ℕ) →
    from_le_bytes
    w64
    (get_or s at 0 ∷ get_or s (at + 1) 0 ∷ get_or s (at + 2) 0 ∷ get_or s (at + 3) 0
    ∷ get_or s (at + 4) 0 ∷ get_or s (at + 5) 0 ∷ get_or s (at + 6) 0 ∷ get_or s (at + 7) 0 ∷ []) ≡ le_at 8 at s
from_eight at s = omega (arith, le_at_add 4 4 at s, le_at_four at s, simp add_assoc at (le_at_four (at + 4) s))

-- ---- storing
byte_is : (i n : ℕ) → byte_at i n ≡ n / 256 ^ i % 256
byte_is zero n = rw div-one refl
byte_is (suc i) n = refl

-- k bytes of n from byte i upward are those of n without its i lowest
low_first : (k i n : ℕ) → bytes_low_first i k n ≡ bytes_of k (n / 256 ^ i)
unfolding bytes_of
low_first zero i n = refl
low_first (suc k) i n =
    ap₂ (λ (x : ℕ) (l : List ℕ). x ∷ l) (byte_is i n)
    (low_first k (suc i) n ∙ ap (bytes_of k) (ap (λ (m : ℕ). n / m) (pow-succ' 256 i ∙ mul_comm 256 (256 ^ i)) ∙ sym (div-div-eq-div-mul n (256 ^ i) 256)))

-- the bytes of a number that were copied into the k places from `at` on
pub copied : (k at x : ℕ) (b : List ℕ) {l : List ℕ} → l ≡ bytes_low_first 0 k x → at + k ≤ length b → put_mid at (at + k - at) b l ≡ stored k b at x
unfolding stored
copied k at x b {l} e h =
    let is : l ≡ bytes_of k x = e ∙ low_first k 0 x ∙ ap (bytes_of k) (div-one x) in
    let n : length (bytes_of k x) ≡ k = length_bytes_of k x in
    let fits : at + length (bytes_of k x) ≤ length b = rw n h in
    let end : at + (at + k - at) ≡ at + length (bytes_of k x) = omega arith in
    rw (is, drop-drop, sets-eq, append_assoc, end)
