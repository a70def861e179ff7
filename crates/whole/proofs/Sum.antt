-- The laws of sums, and of the largest value.
use mathlib.Core.Path.{◌≡◌, refl, sym, ap, ap₂, ◌∙◌, subst}
use mathlib.Core.Logic.{⊎_elim}
use Prim.Native.Nat.{ℕ, zero, suc, ◌+◌, ◌*◌, ◌-◌, ◌≤◌, ◌<◌, max}
use native.Mathlib.Nat.{add-suc, add-zero, add-le-add, mul-le-mul_left, le_refl, mul-zero}
use native.Mathlib.Numerals.{add-one}
use native.Mathlib.Omega.{arith}
use lib.IntN.{ℤ, pos, nat_abs, ◌+ℤ◌, ◌-ℤ◌, ◌*ℤ◌}
use lib.Signed.{◌≤ℤ◌, ≤ℤ_refl}
use Rattle.whole.specs.Range.{Within}
use Rattle.whole.specs.Sum.{sum, sum_ℕ, Σℤ, Σℕ, largest}
use Rattle.whole.proofs.Bridge.{same, #, ◌⊕◌, ◌⊗◌, whole}
use Rattle.whole.proofs.Laws.{ℕ_cases, +ℤ_mono, +ℤ_nonneg, -ℤ_swap, +ℤ_swap, *ℤ_dist_r}
use Rattle.whole.proofs.Range.{within_more, within_add, within_abs, abs_within, abs_self, within_mul}

-- ---- sums of whole numbers
pub sum_none : (g : ℕ → ℤ) → sum 0 g ≡ pos 0
unfolding sum
sum_none g = refl

pub sum_suc : (n : ℕ) (g : ℕ → ℤ) → sum (suc n) g ≡ sum n g +ℤ g n
unfolding sum
sum_suc n g = refl

-- one more turn of a loop: s is the sum so far, v what the turn adds
pub sum_more : (g : ℕ → ℤ) (n : ℕ) {s v : ℤ} → s ≡ sum n g → v ≡ g n → s +ℤ v ≡ sum (n + 1) g
unfolding sum
sum_more g n p q = rw (add-one n, p, q)

pub sum_cong : (n : ℕ) (g h : ℕ → ℤ) → ((k : ℕ) → k < n → g k ≡ h k) → sum n g ≡ sum n h
unfolding sum
sum_cong zero g h e = refl
sum_cong (suc n) g h e = ap₂ ◌+ℤ◌ (sum_cong n g h (λ k l. e k (omega arith))) (e n (omega arith))

pub sum_mono : (n : ℕ) (g h : ℕ → ℤ) → ((k : ℕ) → k < n → g k ≤ℤ h k) → sum n g ≤ℤ sum n h
unfolding sum
sum_mono zero g h e = ≤ℤ_refl (pos 0)
sum_mono (suc n) g h e = +ℤ_mono (sum_mono n g h (λ k l. e k (omega arith))) (e n (omega arith))

pub sum_nonneg : (n : ℕ) (g : ℕ → ℤ) → ((k : ℕ) → k < n → pos 0 ≤ℤ g k) → pos 0 ≤ℤ sum n g
unfolding sum
sum_nonneg zero g e = ≤ℤ_refl (pos 0)
sum_nonneg (suc n) g e = +ℤ_nonneg (sum_nonneg n g (λ k l. e k (omega arith))) (e n (omega arith))

pub sum_add : (n : ℕ) (g h : ℕ → ℤ) → sum n (λ k. g k +ℤ h k) ≡ sum n g +ℤ sum n h
unfolding sum
sum_add zero g h = refl
sum_add (suc n) g h = rw (sum_add n g h) (+ℤ_swap (sum n g) (sum n h) (g n) (h n))

pub sum_sub : (n : ℕ) (g h : ℕ → ℤ) → sum n (λ k. g k -ℤ h k) ≡ sum n g -ℤ sum n h
unfolding sum
sum_sub zero g h = refl
sum_sub (suc n) g h = rw (sum_sub n g h) (sym (-ℤ_swap (sum n g) (g n) (sum n h) (h n)))

pub sum_scale : (n : ℕ) (c : ℤ) (g : ℕ → ℤ) → sum n (λ k. g k *ℤ c) ≡ sum n g *ℤ c
unfolding sum
sum_scale zero c g = same (# (pos 0)) (# (pos 0) ⊗ # c) (omega arith)
sum_scale (suc n) c g = rw (sum_scale n c g) (sym (*ℤ_dist_r (sum n g) (g n) c))

-- split at m
pub sum_split : (m n : ℕ) (g : ℕ → ℤ) → sum (m + n) g ≡ sum m g +ℤ sum n (λ k. g (m + k))
unfolding sum
sum_split m zero g = rw (add-zero m) (same (# (sum m g)) (# (sum m g) ⊕ # (pos 0)) (omega arith))
sum_split m (suc n) g = rw (add-suc m n, sum_split m n g)
    (same (# (sum m g) ⊕ # (sum n (λ k. g (m + k))) ⊕ # (g (m + n))) (# (sum m g) ⊕ (# (sum n (λ k. g (m + k))) ⊕ # (g (m + n)))) (omega arith))

pub sum_zeros : (n : ℕ) (g : ℕ → ℤ) → ((k : ℕ) → k < n → g k ≡ pos 0) → sum n g ≡ pos 0
unfolding sum
sum_zeros zero g e = refl
sum_zeros (suc n) g e = ap₂ ◌+ℤ◌ (sum_zeros n g (λ k l. e k (omega arith))) (e n (omega arith))

-- bounds: each term within its own, and all within one
pub sum_within_each : (n : ℕ) (b : ℕ → ℕ) (g : ℕ → ℤ) → ((k : ℕ) → k < n → Within (b k) (g k)) → Within (sum_ℕ n b) (sum n g)
unfolding sum sum_ℕ
sum_within_each zero b g h = omega whole
sum_within_each (suc n) b g h = within_add (sum_within_each n b g (λ k l. h k (omega arith))) (h n (omega arith))

pub sum_abs : (n : ℕ) (g : ℕ → ℤ) (b : ℕ → ℕ) → ((k : ℕ) → k < n → nat_abs (g k) ≤ b k) → nat_abs (sum n g) ≤ sum_ℕ n b
sum_abs n g b h = within_abs (sum_within_each n b g (λ k l. abs_within (b k) (g k) (h k l)))

-- ---- sums of naturals
pub sum_ℕ_none : (g : ℕ → ℕ) → sum_ℕ 0 g ≡ 0
unfolding sum_ℕ
sum_ℕ_none g = refl

pub sum_ℕ_suc : (n : ℕ) (g : ℕ → ℕ) → sum_ℕ (suc n) g ≡ sum_ℕ n g + g n
unfolding sum_ℕ
sum_ℕ_suc n g = refl

-- the first value, and the sum of the others
pub sum_ℕ_first : (n : ℕ) (g : ℕ → ℕ) → sum_ℕ (suc n) g ≡ g 0 + sum_ℕ n (λ k. g (suc k))
unfolding sum_ℕ
sum_ℕ_first zero g = omega arith
sum_ℕ_first (suc n) g = omega (arith, sum_ℕ_first n g)

-- one more turn of a loop: s is the sum so far, v what the turn adds
pub sum_ℕ_turn : (g : ℕ → ℕ) (n : ℕ) {s v : ℕ} → s ≡ sum_ℕ n g → v ≡ g n → s + v ≡ sum_ℕ (n + 1) g
unfolding sum_ℕ
sum_ℕ_turn g n p q = rw (add-one n, p, q)

pub sum_ℕ_cong : (n : ℕ) (g h : ℕ → ℕ) → ((k : ℕ) → k < n → g k ≡ h k) → sum_ℕ n g ≡ sum_ℕ n h
unfolding sum_ℕ
sum_ℕ_cong zero g h e = refl
sum_ℕ_cong (suc n) g h e = ap₂ ◌+◌ (sum_ℕ_cong n g h (λ k l. e k (omega arith))) (e n (omega arith))

pub sum_ℕ_mono : (n : ℕ) (g h : ℕ → ℕ) → ((k : ℕ) → k < n → g k ≤ h k) → sum_ℕ n g ≤ sum_ℕ n h
unfolding sum_ℕ
sum_ℕ_mono zero g h e = le_refl 0
sum_ℕ_mono (suc n) g h e = add-le-add (sum_ℕ_mono n g h (λ k l. e k (omega arith))) (e n (omega arith))

pub sum_ℕ_add : (n : ℕ) (g h : ℕ → ℕ) → sum_ℕ n (λ k. g k + h k) ≡ sum_ℕ n g + sum_ℕ n h
unfolding sum_ℕ
sum_ℕ_add zero g h = refl
sum_ℕ_add (suc n) g h = omega (arith, sum_ℕ_add n g h)

pub sum_ℕ_scale : (n c : ℕ) (g : ℕ → ℕ) → sum_ℕ n (λ k. c * g k) ≡ c * sum_ℕ n g
unfolding sum_ℕ
sum_ℕ_scale zero c g = sym (mul-zero c)
sum_ℕ_scale (suc n) c g = omega (arith, sum_ℕ_scale n c g)

pub sum_ℕ_const : (n c : ℕ) → sum_ℕ n (λ k. c) ≡ n * c
unfolding sum_ℕ
sum_ℕ_const zero c = omega arith
sum_ℕ_const (suc n) c = omega (arith, sum_ℕ_const n c)

-- a longer sum is no smaller
pub sum_ℕ_more : (m n : ℕ) (g : ℕ → ℕ) → m ≤ n → sum_ℕ m g ≤ sum_ℕ n g
unfolding sum_ℕ
sum_ℕ_more m zero g h = let e : m ≡ 0 = omega arith in rw e (le_refl 0)
sum_ℕ_more m (suc n) g h = ⊎_elim
    (λ (l : m < suc n). omega (arith, sum_ℕ_more m n g (omega arith)))
    (λ (l : suc n ≤ m). let e : m ≡ suc n = omega arith in rw e (le_refl _))
    (ℕ_cases m (suc n))

-- no term is above the sum
pub sum_ℕ_one : (n : ℕ) (g : ℕ → ℕ) (k : ℕ) → k < n → g k ≤ sum_ℕ n g
sum_ℕ_one n g k h = omega (arith, sum_ℕ_suc k g, sum_ℕ_more (suc k) n g h)

-- where every value past m is 0, a longer sum is the same
pub sum_ℕ_past : (m d : ℕ) (g : ℕ → ℕ) → ((k : ℕ) → m ≤ k → g k ≡ 0) → sum_ℕ (m + d) g ≡ sum_ℕ m g
unfolding sum_ℕ
sum_ℕ_past m zero g h = rw (add-zero m)
sum_ℕ_past m (suc d) g h = rw (add-suc m d) (omega (arith, sum_ℕ_past m d g h, h (m + d) (omega arith)))

-- naturals among the whole numbers
pub sum_pos : (n : ℕ) (g : ℕ → ℕ) → sum n (λ k. pos (g k)) ≡ pos (sum_ℕ n g)
unfolding sum sum_ℕ
sum_pos zero g = refl
sum_pos (suc n) g = ap (λ (z : ℤ). z +ℤ pos (g n)) (sum_pos n g)

pub sum_within : (n b : ℕ) (g : ℕ → ℤ) → ((k : ℕ) → k < n → Within b (g k)) → Within (n * b) (sum n g)
sum_within n b g h = subst (λ (c : ℕ). Within c (sum n g)) (sum_ℕ_const n b) (sum_within_each n (λ k. b) g h)

-- numbers within b, each times its part, where the parts come to c at most
pub sum_within_parts : (n b c : ℕ) (g : ℕ → ℤ) (p : ℕ → ℕ) → ((k : ℕ) → k < n → Within b (g k)) → sum_ℕ n p ≤ c → Within (b * c) (sum n (λ k. g k *ℤ pos (p k)))
sum_within_parts n b c g p h few = within_more {b = sum_ℕ n (λ k. b * p k)} (rw (sum_ℕ_scale n b p) (mul-le-mul_left b few))
    (sum_within_each n (λ k. b * p k) (λ k. g k *ℤ pos (p k)) (λ k l. within_mul (h k l) (abs_self (pos (p k)))))

-- ---- sums from a to b, as the papers write them
pub Σℤ_cong : (a b : ℕ) (g h : ℕ → ℤ) → ((l : ℕ) → a ≤ l → l ≤ b → g l ≡ h l) → Σℤ a b g ≡ Σℤ a b h
Σℤ_cong a b g h e = sum_cong (suc b - a) _ _ (λ j k. e (a + j) (omega arith) (omega arith))

-- counted from 0
pub Σℤ_from : (a b n : ℕ) (g h : ℕ → ℤ) → suc b - a ≡ n → ((j : ℕ) → j < n → g (a + j) ≡ h j) → Σℤ a b g ≡ sum n h
Σℤ_from a b n g h e f = ap (λ (m : ℕ). sum m (λ j. g (a + j))) e ∙ sum_cong n _ _ f

pub Σℕ_from : (a b n : ℕ) (g h : ℕ → ℕ) → suc b - a ≡ n → ((j : ℕ) → j < n → g (a + j) ≡ h j) → Σℕ a b g ≡ sum_ℕ n h
Σℕ_from a b n g h e f = ap (λ (m : ℕ). sum_ℕ m (λ j. g (a + j))) e ∙ sum_ℕ_cong n _ _ f

-- ---- the largest value
pub largest_none : (g : ℕ → ℕ) → largest 0 g ≡ 0
unfolding largest
largest_none g = refl

-- one more turn of a loop
pub largest_more : (n : ℕ) (g : ℕ → ℕ) → largest (n + 1) g ≡ max (largest n g) (g n)
unfolding largest
largest_more n g = rw (add-one n)

pub largest_upper : (n : ℕ) (g : ℕ → ℕ) (k : ℕ) → k < n → g k ≤ largest n g
unfolding largest
largest_upper zero g k h = absurd (omega arith)
largest_upper (suc n) g k h = ⊎_elim
    (λ (l : k < n). omega (arith, largest_upper n g k l))
    (λ (l : n ≤ k). let e : k ≡ n = omega arith in rw e (omega arith))
    (ℕ_cases k n)

pub largest_least : (n : ℕ) (g : ℕ → ℕ) (b : ℕ) → ((k : ℕ) → k < n → g k ≤ b) → largest n g ≤ b
unfolding largest
largest_least zero g b h = omega arith
largest_least (suc n) g b h = omega (arith, largest_least n g b (λ k l. h k (omega arith)), h n (omega arith))

pub largest_cong : (n : ℕ) (g h : ℕ → ℕ) → ((k : ℕ) → k < n → g k ≡ h k) → largest n g ≡ largest n h
unfolding largest
largest_cong zero g h e = refl
largest_cong (suc n) g h e = ap₂ max (largest_cong n g h (λ k l. e k (omega arith))) (e n (omega arith))
