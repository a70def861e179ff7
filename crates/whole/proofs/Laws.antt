-- ℤ as an ordered commutative ring: what lib.IntN and lib.Signed lack.
use mathlib.Core.Path.{◌≡◌, sym, ap, ◌∙◌, subst}
use mathlib.Core.Bool.{Bool, true, false, not}
use mathlib.Core.Logic.{◌⊎◌, inl, inr, ⊎_elim}
use Prim.Native.Nat.{ℕ, zero, suc, ◌+◌, ◌-◌, ◌≤◌, ◌<◌}
use native.Mathlib.Nat.{mul-le-mul_right, mul-lt-mul_of_pos_right}
use native.Mathlib.Omega.{arith}
use lib.Dec.{T, ltb, ltb→lt, nltb→le}
use lib.IntN.{ℤ, pos, negsuc, neg_ℤ, ◌+ℤ◌, ◌-ℤ◌, ◌*ℤ◌}
use lib.Signed.{◌≤ℤ◌, ◌<ℤ◌}
use Rattle.whole.proofs.Bridge.{plus, minus, at, same, #, ◌⊕◌, ◌⊖◌, ◌⊗◌, ⊝, whole, le→, lt→, →le, →lt}

-- ---- the ring
pub *ℤ_assoc : (a b c : ℤ) → (a *ℤ b) *ℤ c ≡ a *ℤ (b *ℤ c)
*ℤ_assoc a b c = same (# a ⊗ # b ⊗ # c) (# a ⊗ (# b ⊗ # c)) (omega arith)

pub one_*ℤ : (a : ℤ) → pos 1 *ℤ a ≡ a
one_*ℤ a = same (# (pos 1) ⊗ # a) (# a) (omega arith)

pub *ℤ_1 : (a : ℤ) → a *ℤ pos 1 ≡ a
*ℤ_1 a = same (# a ⊗ # (pos 1)) (# a) (omega arith)

pub *ℤ_dist_l : (a b c : ℤ) → a *ℤ (b +ℤ c) ≡ a *ℤ b +ℤ a *ℤ c
*ℤ_dist_l a b c = same (# a ⊗ (# b ⊕ # c)) (# a ⊗ # b ⊕ # a ⊗ # c) (omega arith)

pub *ℤ_dist_r : (a b c : ℤ) → (a +ℤ b) *ℤ c ≡ a *ℤ c +ℤ b *ℤ c
*ℤ_dist_r a b c = same ((# a ⊕ # b) ⊗ # c) (# a ⊗ # c ⊕ # b ⊗ # c) (omega arith)

pub *ℤ_sub_r : (a b c : ℤ) → (a -ℤ b) *ℤ c ≡ a *ℤ c -ℤ b *ℤ c
*ℤ_sub_r a b c = same ((# a ⊖ # b) ⊗ # c) (# a ⊗ # c ⊖ # b ⊗ # c) (omega arith)

pub *ℤ_neg_l : (a b : ℤ) → neg_ℤ a *ℤ b ≡ neg_ℤ (a *ℤ b)
*ℤ_neg_l a b = same (⊝ (# a) ⊗ # b) (⊝ (# a ⊗ # b)) (omega arith)

pub *ℤ_left_comm : (a b c : ℤ) → a *ℤ (b *ℤ c) ≡ b *ℤ (a *ℤ c)
*ℤ_left_comm a b c = same (# a ⊗ (# b ⊗ # c)) (# b ⊗ (# a ⊗ # c)) (omega arith)

pub *ℤ_right_comm : (a b c : ℤ) → a *ℤ b *ℤ c ≡ a *ℤ c *ℤ b
*ℤ_right_comm a b c = same (# a ⊗ # b ⊗ # c) (# a ⊗ # c ⊗ # b) (omega arith)

pub *ℤ_swap : (a b c d : ℤ) → (a *ℤ b) *ℤ (c *ℤ d) ≡ (a *ℤ c) *ℤ (b *ℤ d)
*ℤ_swap a b c d = *ℤ_assoc a b (c *ℤ d) ∙ ap (λ (z : ℤ). a *ℤ z) (*ℤ_left_comm b c d) ∙ sym (*ℤ_assoc a c (b *ℤ d))

pub +ℤ_left_comm : (a b c : ℤ) → a +ℤ (b +ℤ c) ≡ b +ℤ (a +ℤ c)
+ℤ_left_comm a b c = same (# a ⊕ (# b ⊕ # c)) (# b ⊕ (# a ⊕ # c)) (omega arith)

pub +ℤ_swap : (a b c d : ℤ) → (a +ℤ b) +ℤ (c +ℤ d) ≡ (a +ℤ c) +ℤ (b +ℤ d)
+ℤ_swap a b c d = same (# a ⊕ # b ⊕ (# c ⊕ # d)) (# a ⊕ # c ⊕ (# b ⊕ # d)) (omega arith)

pub -ℤ_swap : (a b c d : ℤ) → (a +ℤ b) -ℤ (c +ℤ d) ≡ (a -ℤ c) +ℤ (b -ℤ d)
-ℤ_swap a b c d = same (# a ⊕ # b ⊖ (# c ⊕ # d)) (# a ⊖ # c ⊕ (# b ⊖ # d)) (omega arith)

-- ---- the order
pub ≤ℤ_of_≡ : {a b : ℤ} → a ≡ b → a ≤ℤ b
≤ℤ_of_≡ e = omega whole

pub ≤ℤ_trans : {a b c : ℤ} → a ≤ℤ b → b ≤ℤ c → a ≤ℤ c
≤ℤ_trans h k = omega whole

pub ≤ℤ_<ℤ_trans : {a b c : ℤ} → a ≤ℤ b → b <ℤ c → a <ℤ c
≤ℤ_<ℤ_trans h k = omega whole

pub <ℤ_trans : {a b c : ℤ} → a <ℤ b → b <ℤ c → a <ℤ c
<ℤ_trans h k = omega whole

pub <ℤ→≤ℤ : {a b : ℤ} → a <ℤ b → a ≤ℤ b
<ℤ→≤ℤ h = omega whole

pub ≤ℤ_antisymm : {a b : ℤ} → a ≤ℤ b → b ≤ℤ a → a ≡ b
≤ℤ_antisymm h k = omega whole

pub pos_nonneg : (n : ℕ) → pos 0 ≤ℤ pos n
pos_nonneg n = omega whole

pub suc_<ℤ : {a b : ℤ} → a <ℤ (b +ℤ pos 1) → a ≤ℤ b
suc_<ℤ {b = b} h = omega (whole, at (# b ⊕ # (pos 1)))

-- k is below n, or not
pub ℕ_cases : (k n : ℕ) → (k < n) ⊎ (n ≤ k)
ℕ_cases k n = go (ltb k n) (λ t. ltb→lt k n t) (λ t. nltb→le k n t)
  where
    go : (c : Bool) → (T c → k < n) → (T (not c) → n ≤ k) → (k < n) ⊎ (n ≤ k)
    go true f g = inl (f tt)
    go false f g = inr (g tt)

-- what holds of every number below n and of n holds below n + 1
pub below_more : (Q : ℕ → Type 0) (n : ℕ) → ((k : ℕ) → k < n → Q k) → Q n → (k : ℕ) → k < n + 1 → Q k
below_more Q n all last k h = ⊎_elim (λ (l : k < n). all k l) (λ (l : n ≤ k). let e : n ≡ k = omega arith in subst Q e last) (ℕ_cases k n)

pub ℤ_cases : (a b : ℤ) → (a <ℤ b) ⊎ (b ≤ℤ a)
ℤ_cases a b = ⊎_elim (λ h. inl (→lt h)) (λ h. inr (→le h)) (ℕ_cases (plus a + minus b) (plus b + minus a))

-- ---- the order and the sum
pub +ℤ_mono : {a b c d : ℤ} → a ≤ℤ b → c ≤ℤ d → (a +ℤ c) ≤ℤ (b +ℤ d)
+ℤ_mono {a} {b} {c} {d} h k = omega (whole, at (# a ⊕ # c), at (# b ⊕ # d))

pub +ℤ_nonneg : {a b : ℤ} → pos 0 ≤ℤ a → pos 0 ≤ℤ b → pos 0 ≤ℤ (a +ℤ b)
+ℤ_nonneg {a} {b} h k = omega (whole, at (# a ⊕ # b))

pub neg_ℤ_mono : {a b : ℤ} → a ≤ℤ b → neg_ℤ b ≤ℤ neg_ℤ a
neg_ℤ_mono {a} {b} h = omega (whole, at (⊝ (# a)), at (⊝ (# b)))

pub ≤ℤ_sub : {a b : ℤ} → a ≤ℤ b → pos 0 ≤ℤ (b -ℤ a)
≤ℤ_sub {a} {b} h = omega (whole, at (# b ⊖ # a))

-- a certificate of a ≤ b: a number that is not negative, and that b - a is by the ring solver
pub by_gap : (a b : ℤ) {g : ℤ} → b -ℤ a ≡ g → pos 0 ≤ℤ g → a ≤ℤ b
by_gap a b e h = omega (whole, at (# b ⊖ # a))

-- ---- the order and the product
pub *ℤ_mono : {a b m : ℤ} → pos 0 ≤ℤ m → a ≤ℤ b → (a *ℤ m) ≤ℤ (b *ℤ m)
*ℤ_mono {a} {b} {m = pos k} z h = omega (whole, at (# a ⊗ # (pos k)), at (# b ⊗ # (pos k)), mul-le-mul_right k (le→ h))
*ℤ_mono {a} {b} {m = negsuc k} z h = absurd z.le

pub *ℤ_mono_< : {a b m : ℤ} → pos 0 <ℤ m → a <ℤ b → (a *ℤ m) <ℤ (b *ℤ m)
*ℤ_mono_< {a} {b} {m = pos k} z h =
    let k0 : zero < k = omega whole in
    omega (whole, at (# a ⊗ # (pos k)), at (# b ⊗ # (pos k)), mul-lt-mul_of_pos_right (lt→ h) k0)
*ℤ_mono_< {a} {b} {m = negsuc k} z h = absurd z.lt

pub *ℤ_nonneg : {a b : ℤ} → pos 0 ≤ℤ a → pos 0 ≤ℤ b → pos 0 ≤ℤ (a *ℤ b)
*ℤ_nonneg {a} {b} h k = omega (whole, *ℤ_mono k h, at (# (pos 0) ⊗ # b))

pub *ℤ_nonpos : {a b : ℤ} → a ≤ℤ pos 0 → pos 0 ≤ℤ b → (a *ℤ b) ≤ℤ pos 0
*ℤ_nonpos {a} {b} h k = omega (whole, *ℤ_mono k h, at (# (pos 0) ⊗ # b))

-- cancelling a positive factor
pub *ℤ_cancel_≤ : (a b : ℤ) {m : ℤ} → pos 0 <ℤ m → (a *ℤ m) ≤ℤ (b *ℤ m) → a ≤ℤ b
*ℤ_cancel_≤ a b {m} z h = ⊎_elim (λ k. absurd (omega (whole, *ℤ_mono_< z k))) (λ k. k) (ℤ_cases b a)

pub *ℤ_cancel_< : (a b : ℤ) {m : ℤ} → pos 0 ≤ℤ m → (a *ℤ m) <ℤ (b *ℤ m) → a <ℤ b
*ℤ_cancel_< a b {m} z h = ⊎_elim (λ k. k) (λ k. absurd (omega (whole, *ℤ_mono z k))) (ℤ_cases a b)

pub *ℤ_cancel : (a b : ℤ) {m : ℤ} → pos 0 <ℤ m → a *ℤ m ≡ b *ℤ m → a ≡ b
*ℤ_cancel a b z e = ≤ℤ_antisymm (*ℤ_cancel_≤ a b z (≤ℤ_of_≡ e)) (*ℤ_cancel_≤ b a z (≤ℤ_of_≡ (sym e)))

-- a number less a larger one
pub less_more : (x n : ℕ) → x < n → pos x -ℤ pos n ≡ negsuc (n - suc x)
less_more x n h = omega (whole, at (# (pos x) ⊖ # (pos n)))
