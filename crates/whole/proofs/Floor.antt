-- The laws of division downward, and the share's facts for any factor.
use mathlib.Core.Path.{◌≡◌, sym, ap}
use Prim.Native.Nat.{ℕ, suc, ◌*◌, ◌-◌, ◌/◌, ◌%◌, ◌<◌}
use native.Mathlib.Nat.{div-add-mod', mod-lt}
use native.Mathlib.Omega.{arith}
use lib.IntN.{ℤ, pos, negsuc, neg_ℤ, ◌+ℤ◌, ◌-ℤ◌, ◌*ℤ◌, zero-*ℤ, *ℤ-zero}
use lib.Signed.{◌≤ℤ◌, ◌<ℤ◌, quot_z, ≤ℤ_refl}
use Rattle.whole.specs.Range.{million, Within}
use Rattle.whole.specs.Floor.{IsFloor, floor, share_of}
use Rattle.whole.proofs.Bridge.{at, same, #, ◌⊕◌, ◌⊖◌, ◌⊗◌, ⊝, whole}
use Rattle.whole.proofs.Laws.{*ℤ_mono, *ℤ_cancel_<, *ℤ_cancel_≤, suc_<ℤ, ≤ℤ_antisymm}
use Rattle.whole.proofs.Range.{within_mul}

-- ---- a floor as an exact division: z is q times m and e over
pub rest : ℤ → ℕ → ℕ
rest (pos a) m = a % m
rest (negsuc a) m = m - suc (a % m)

pub rest_lt : (z : ℤ) (m : ℕ) → 0 < m → rest z m < m
unfolding rest
rest_lt (pos a) m h = mod-lt a h
rest_lt (negsuc a) m h = omega arith

pub floor_rest : (z : ℤ) (m : ℕ) → 0 < m → z ≡ floor z m *ℤ pos m +ℤ pos (rest z m)
unfolding floor rest
floor_rest (pos a) m h = ap pos (sym (div-add-mod' a m))
floor_rest (negsuc a) m h = omega (whole, div-add-mod' a m, mod-lt a h, at (# (negsuc (a / m)) ⊗ # (pos m) ⊕ # (pos (m - suc (a % m)))))

pub is_floor : (z : ℤ) (m : ℕ) → 0 < m → IsFloor z m (floor z m)
is_floor z m h = omega (whole, floor_rest z m h, rest_lt z m h, at (# (floor z m) ⊗ # (pos m) ⊕ # (pos (rest z m))), at (# (floor z m) ⊗ # (pos m)), at ((# (floor z m) ⊕ # (pos 1)) ⊗ # (pos m)))

-- ---- no other number is the floor, and a greater number has no lesser one
pub floor_mono : {z z' : ℤ} {m : ℕ} {q q' : ℤ} → z ≤ℤ z' → IsFloor z m q → IsFloor z' m q' → q ≤ℤ q'
floor_mono {z} {z'} {m} {q} {q'} h f g = suc_<ℤ (*ℤ_cancel_< q (q' +ℤ pos 1) {m = pos m} (omega whole) (omega (whole, f.low, g.high)))

pub floor_unique : {z : ℤ} {m : ℕ} {q q' : ℤ} → IsFloor z m q → IsFloor z m q' → q ≡ q'
floor_unique {z} f g = ≤ℤ_antisymm (floor_mono (≤ℤ_refl z) f g) (floor_mono (≤ℤ_refl z) g f)

pub floor_is : {z : ℤ} {m : ℕ} {q : ℤ} → 0 < m → IsFloor z m q → q ≡ floor z m
floor_is {z} {m} h f = floor_unique f (is_floor z m h)

-- a whole number of m's
pub floor_mul : (q : ℤ) (m : ℕ) → 0 < m → floor (q *ℤ pos m) m ≡ q
floor_mul q m h = sym (floor_is h (omega (whole, at (# q ⊗ # (pos m)), at ((# q ⊕ # (pos 1)) ⊗ # (pos m)))))

-- a number within b m's has a floor within b
pub floor_within : (b : ℕ) {z : ℤ} {m : ℕ} → 0 < m → Within (b * m) z → Within b (floor z m)
floor_within b {z} {m} h w = record {
  low = suc_<ℤ (*ℤ_cancel_< (neg_ℤ (pos b)) (floor z m +ℤ pos 1) {m = pos m} (omega whole) (omega (whole, (is_floor z m h).high, w.low, at (⊝ (# (pos (b * m)))), at (⊝ (# (pos b)) ⊗ # (pos m)))));
  high = *ℤ_cancel_≤ (floor z m) (pos b) {m = pos m} (omega whole) (omega (whole, (is_floor z m h).low, w.high));
}

-- ---- the machine's quotient, which is cut toward zero: less one where it lies above, it is the floor
pub quot_above : (z : ℤ) (m : ℕ) → 0 < m → ((quot_z z (pos m) -ℤ pos 1) *ℤ pos m) <ℤ z
quot_above (pos a) m h = omega (whole, div-add-mod' a m, at ((# (pos (a / m)) ⊖ # (pos 1)) ⊗ # (pos m)))
quot_above (negsuc a) m h = omega (whole, div-add-mod' (suc a) m, mod-lt (suc a) h, at ((⊝ (# (pos (suc a / m))) ⊖ # (pos 1)) ⊗ # (pos m)))

pub quot_below : (z : ℤ) (m : ℕ) → 0 < m → z <ℤ ((quot_z z (pos m) +ℤ pos 1) *ℤ pos m)
quot_below (pos a) m h = omega (whole, div-add-mod' a m, mod-lt a h, at ((# (pos (a / m)) ⊕ # (pos 1)) ⊗ # (pos m)))
quot_below (negsuc a) m h = omega (whole, div-add-mod' (suc a) m, at ((⊝ (# (pos (suc a / m))) ⊕ # (pos 1)) ⊗ # (pos m)))

pub quot_floor : (z : ℤ) (m : ℕ) → 0 < m → (quot_z z (pos m) *ℤ pos m) ≤ℤ z → quot_z z (pos m) ≡ floor z m
quot_floor z m h k = floor_is h (record { low = k; high = quot_below z m h })

pub quot_less_floor : (z : ℤ) (m : ℕ) → 0 < m → z <ℤ (quot_z z (pos m) *ℤ pos m) → quot_z z (pos m) -ℤ pos 1 ≡ floor z m
quot_less_floor z m h k = let q = quot_z z (pos m) in floor_is h (record {
  low = omega (whole, quot_above z m h);
  high = rw (same (# q ⊖ # (pos 1) ⊕ # (pos 1)) (# q) (omega arith)) k;
})

-- ---- the share, for any factor
-- the characterising pair: share × 1,000,000 ≤ x × f < (share + 1) × 1,000,000
pub share_is : (x f : ℤ) → IsFloor (x *ℤ f) million (share_of x f)
unfolding share_of
share_is x f = is_floor (x *ℤ f) million (omega arith)

pub share_unique : (x f q : ℤ) → IsFloor (x *ℤ f) million q → q ≡ share_of x f
share_unique x f q h = floor_unique h (share_is x f)

pub share_mono : (x y f : ℤ) → pos 0 ≤ℤ f → x ≤ℤ y → share_of x f ≤ℤ share_of y f
share_mono x y f h k = floor_mono (*ℤ_mono h k) (share_is x f) (share_is y f)

-- a factor of at most 1,000,000 without its sign takes no amount out of its bound
pub share_within : (b : ℕ) (x f : ℤ) → Within million f → Within b x → Within b (share_of x f)
unfolding share_of
share_within b x f k w = floor_within b (omega arith) (within_mul w k)

pub share_of_none : (f : ℤ) → share_of (pos 0) f ≡ pos 0
unfolding share_of floor
share_of_none f = rw (zero-*ℤ f)

pub share_none : (x : ℤ) → share_of x (pos 0) ≡ pos 0
unfolding share_of floor
share_none x = rw (*ℤ-zero x)

pub share_whole : (x : ℤ) → share_of x (pos million) ≡ x
unfolding share_of
share_whole x = floor_mul x million (omega arith)
