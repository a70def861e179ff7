-- The word of 64 bits: each bit, how many are set, the lowest of them. The last two are what `u64::count_ones` and
-- `u64::trailing_zeros` give.
use mathlib.Core.Path.{◌≡◌, refl, sym, ap, ap₂, ◌∙◌, subst}
use mathlib.Core.Bool.{Bool, true, false}
use mathlib.Core.Logic.{⊎_elim}
use Prim.Native.Nat.{ℕ, zero, suc, ◌+◌, ◌*◌, ◌/◌, ◌%◌, ◌^◌, ◌≤◌, ◌<◌}
use native.Mathlib.Nat.{pow-succ', div-eq_of_lt, lt_of_lt_of_le, not-suc-le-zero}
use native.Mathlib.Omega.{arith}
use lib.Count.{ones, count_trailing_zeros, under, ones_step}
use lib.Pow.{pow_mono, shr-shr}
use mir.Syntax.{w64}
use Rattle.std.proofs.lemmas.Nat.Bits.{bit_at_set_same, bit_at_set_other, same_from_bits}
use Rattle.std.specs.Int.RustNames.{bit_or}
use Rattle.whole.specs.Sum.{sum_ℕ}
use Rattle.whole.specs.Test.{pick}
use Rattle.whole.proofs.Laws.{ℕ_cases}
use Rattle.whole.proofs.Sum.{sum_ℕ_none, sum_ℕ_first}
use Rattle.planner.specs.Verdict.{bits_of}

-- ---- the lowest bit, and the others
abbrev bit : Bool → ℕ
bit b = pick b 1 0

pub bit_le : (b : Bool) → bit b ≤ 1
bit_le true = omega arith
bit_le false = omega arith

bit_mod : (b : Bool) (x : ℕ) → (bit b + 2 * x) % 2 ≡ bit b
bit_mod true x = omega arith
bit_mod false x = omega arith

bit_div : (b : Bool) (x : ℕ) → (bit b + 2 * x) / 2 ≡ x
bit_div true x = omega arith
bit_div false x = omega arith

pub bits_none : (p : ℕ → Bool) → bits_of 0 p ≡ 0
unfolding bits_of
bits_none p = refl

pub bits_cong : (n : ℕ) (p q : ℕ → Bool) → ((t : ℕ) → t < n → p t ≡ q t) → bits_of n p ≡ bits_of n q
unfolding bits_of
bits_cong zero p q h = refl
bits_cong (suc n) p q h = ap₂ (λ (b : Bool) (x : ℕ). bit b + 2 * x) (h 0 (omega arith)) (bits_cong n (λ t. p (suc t)) (λ t. q (suc t)) (λ t l. h (suc t) (omega arith)))

-- ---- each bit
pub bits_below : (n : ℕ) (p : ℕ → Bool) → bits_of n p < 2 ^ n
unfolding bits_of
bits_below zero p = omega arith
bits_below (suc n) p = omega (arith, bit_le (p 0), pow-succ' 2 n, bits_below n (λ t. p (suc t)))

-- bit t is set exactly if p t, for t below n
pub bit_at : (n : ℕ) (p : ℕ → Bool) (t : ℕ) → t < n → bits_of n p / 2 ^ t % 2 ≡ bit (p t)
unfolding bits_of
bit_at zero p t h = absurd (not-suc-le-zero h)
bit_at (suc n) p zero h = let e : bits_of (suc n) p / 2 ^ 0 ≡ bits_of (suc n) p = omega arith in ap (λ (x : ℕ). x % 2) e ∙ bit_mod (p 0) (bits_of n (λ t. p (suc t)))
bit_at (suc n) p (suc t) h =
    let e : suc t ≡ 1 + t = omega arith in
    ap (λ (x : ℕ). x % 2) (ap (λ (k : ℕ). bits_of (suc n) p / 2 ^ k) e ∙ sym (shr-shr (bits_of (suc n) p) 1 t) ∙ ap (λ (x : ℕ). x / 2 ^ t) (bit_div (p 0) (bits_of n (λ t. p (suc t)))))
    ∙ bit_at n (λ t. p (suc t)) t (omega arith)

-- and every other bit is clear
pub bit_past : (n : ℕ) (p : ℕ → Bool) (t : ℕ) → n ≤ t → bits_of n p / 2 ^ t % 2 ≡ 0
bit_past n p t h = ap (λ (x : ℕ). x % 2) (div-eq_of_lt (lt_of_lt_of_le (bits_below n p) (pow_mono h)))

-- ---- one more bit: a word whose bits are those of n tests, and that of p n
bits_more : (n : ℕ) (p : ℕ → Bool) {x : ℕ} → ((t : ℕ) → t < n → x / 2 ^ t % 2 ≡ bits_of n p / 2 ^ t % 2) → x / 2 ^ n % 2 ≡ bit (p n) → ((t : ℕ) → n < t → x / 2 ^ t % 2 ≡ 0) → x ≡ bits_of (n + 1) p
bits_more n p {x} low here high = same_from_bits x (bits_of (n + 1) p) (λ t. ⊎_elim
    (λ (l : t < n). low t l ∙ bit_at n p t l ∙ sym (bit_at (n + 1) p t (omega arith)))
    (λ (l : n ≤ t). ⊎_elim
    (λ (k : n < t). high t k ∙ sym (bit_past (n + 1) p t (omega arith)))
    (λ (k : t ≤ n). let e : n ≡ t = omega arith in subst (λ (t : ℕ). x / 2 ^ t % 2 ≡ bits_of (n + 1) p / 2 ^ t % 2) e (here ∙ sym (bit_at (n + 1) p n (omega arith))))
    (ℕ_cases n t))
    (ℕ_cases t n))

-- it is clear, or set in the word so far
pub bits_clear : {n x y : ℕ} (p : ℕ → Bool) → x ≡ bits_of n p → p n ≡ false → y ≡ x → y ≡ bits_of (n + 1) p
bits_clear {n} {x} {y} p is e k = k ∙ is ∙ bits_more n p (λ t l. refl) (bit_past n p n (omega arith) ∙ ap bit (sym e)) (λ t l. bit_past n p t (omega arith))

pub bits_set : {n x y : ℕ} (p : ℕ → Bool) → n < 64 → x ≡ bits_of n p → p n ≡ true → y ≡ bit_or x (1 * 2 ^ n % 2 ^ 64) → y ≡ bits_of (n + 1) p
bits_set {n} {x} {y} p few is e k = k ∙ ap (λ (x : ℕ). bit_or x (1 * 2 ^ n % 2 ^ 64)) is ∙ bits_more n p
    (λ t l. bit_at_set_other w64 (bits_of n p) n few t (λ z. omega arith))
    (bit_at_set_same w64 (bits_of n p) n few ∙ ap bit (sym e))
    (λ t l. bit_at_set_other w64 (bits_of n p) n few t (λ z. omega arith) ∙ bit_past n p t (omega arith))

-- tests that fail add nothing
pub bits_few : (m n : ℕ) (p : ℕ → Bool) → m ≤ n → ((t : ℕ) → m ≤ t → p t ≡ false) → bits_of n p ≡ bits_of m p
bits_few m n p few none = same_from_bits (bits_of n p) (bits_of m p) (λ t. ⊎_elim
    (λ (l : t < m). bit_at n p t (omega arith) ∙ sym (bit_at m p t l))
    (λ (l : m ≤ t). ⊎_elim
    (λ (k : t < n). bit_at n p t k ∙ ap bit (none t l))
    (λ (k : n ≤ t). bit_past n p t k)
    (ℕ_cases t n) ∙ sym (bit_past m p t l))
    (ℕ_cases t m))

-- ---- how many are set
pub bits_ones : (n : ℕ) (p : ℕ → Bool) → ones (bits_of n p) ≡ sum_ℕ n (λ t. bit (p t))
unfolding bits_of ones
bits_ones zero p = sym (sum_ℕ_none (λ t. bit (p t)))
bits_ones (suc n) p =
    let x = bits_of n (λ t. p (suc t)) in
    ones_step (bit (p 0) + 2 * x)
    ∙ ap₂ (λ (b y : ℕ). b + ones y) (bit_mod (p 0) x) (bit_div (p 0) x)
    ∙ ap (λ (y : ℕ). bit (p 0) + y) (bits_ones n (λ t. p (suc t)))
    ∙ sym (sum_ℕ_first n (λ t. bit (p t)))

-- ---- the lowest
-- p holds of t, one of n, and of none below it
pub record Lowest (n : ℕ) (p : ℕ → Bool) (t : ℕ) : Type 0 where
  pub few : t < n
  pub holds : p t ≡ true
  pub first : (s : ℕ) → s < t → p s ≡ false

lowest_here : (n : ℕ) (p : ℕ → Bool) → p 0 ≡ true → Lowest (suc n) p 0
lowest_here n p e = record { few = omega arith; holds = e; first = λ s l. absurd (not-suc-le-zero l) }

lowest_later : (n : ℕ) (p : ℕ → Bool) (t : ℕ) → p 0 ≡ false → Lowest n (λ t. p (suc t)) t → Lowest (suc n) p (suc t)
lowest_later n p t e h = record { few = omega (arith, h.few); holds = h.holds; first = go }
  where
    go : (s : ℕ) → s < suc t → p s ≡ false
    go zero l = e
    go (suc s) l = h.first s (omega arith)

-- p 0 is the lowest of n + 1, or t of the others, whose bits are x
lowest_of : (n : ℕ) (p : ℕ → Bool) (x t : ℕ) (b : Bool) → p 0 ≡ b → (bit b + 2 * x ≡ 0 → ⊥) → ((x ≡ 0 → ⊥) → Lowest n (λ t. p (suc t)) t) → Lowest (suc n) p (under (bit b) t)
lowest_of n p x t true e some h = lowest_here n p e
lowest_of n p x t false e some h = lowest_later n p t e (h (λ z. some (omega arith)))

-- k digits are looked at
pub bits_lowest : (n k : ℕ) (p : ℕ → Bool) → n ≤ k → (bits_of n p ≡ 0 → ⊥) → Lowest n p (count_trailing_zeros k (bits_of n p))
unfolding bits_of count_trailing_zeros
bits_lowest zero k p h some = absurd (some refl)
bits_lowest (suc n) zero p h some = absurd (not-suc-le-zero h)
bits_lowest (suc n) (suc k) p h some =
    let x = bits_of n (λ t. p (suc t)) in
    rw (bit_mod (p 0) x, bit_div (p 0) x) (lowest_of n p _ _ (p 0) refl some (bits_lowest n k (λ t. p (suc t)) (omega arith)))

-- ---- none is set where p holds of none
pub none_bits : (n : ℕ) (p : ℕ → Bool) → ((t : ℕ) → t < n → p t ≡ false) → bits_of n p ≡ 0
unfolding bits_of
none_bits zero p h = refl
none_bits (suc n) p h = ap₂ (λ (b : Bool) (x : ℕ). bit b + 2 * x) (h 0 (omega arith)) (none_bits n (λ t. p (suc t)) (λ t l. h (suc t) (omega arith)))

-- and where none is set, p holds of none
pub bits_zero : (n : ℕ) (p : ℕ → Bool) → bits_of n p ≡ 0 → (t : ℕ) → t < n → p t ≡ false
unfolding bits_of
bits_zero n p e t l = go (p t) (sym (bit_at n p t l) ∙ ap (λ (x : ℕ). x / 2 ^ t % 2) e ∙ bit_past 0 p t (omega arith))
  where
    go : (b : Bool) → bit b ≡ 0 → b ≡ false
    go true e = absurd (omega arith)
    go false e = refl
