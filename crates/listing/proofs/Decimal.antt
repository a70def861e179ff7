-- The laws of numbers in base ten.
use mathlib.Core.Path.{◌≡◌, refl, sym, ap, ap₂, ◌∙◌}
use mathlib.Core.Bool.{true, false}
use mathlib.Core.Logic.{⊎_elim}
use mathlib.Core.List.{List, [], ◌∷◌, ◌++◌}
use Prim.Native.Nat.{ℕ, zero, suc, ◌+◌, ◌-◌, ◌/◌, ◌%◌, ◌^◌, ◌≤◌, ◌<◌}
use native.Mathlib.Nat.{pow-suc}
use native.Mathlib.Omega.{arith}
use borrow.Author.Tests.{lt-ltb, le-ltb}
use lib.IntN.{ℤ, pos, negsuc, nat_abs}
use lib.Signed.{lt_z, clash_ℤ}
use native.Mathlib.Numerals.{add-one}
use mir.Syntax.{w64}
use mir.Val.{SFits, to_z, of_z}
use Rattle.io.specs.Digits.{last_digits, IsDigitCount}
use Rattle.whole.proofs.Bridge.{at, #, ◌⊖◌, whole}
use Rattle.whole.proofs.Laws.{ℕ_cases, pos_nonneg}
use Rattle.whole.proofs.Range.{back}
use Rattle.whole.proofs.Test.{false_true, lt_true}
use Rattle.little_endian.specs.Wrote.{Wrote}
use Rattle.little_endian.proofs.Wrote.{wrote_none, wrote_then, wrote_as}
use Rattle.listing.specs.Text.{digits_in, decimal, signed_text}

-- ---- one digit, or one more than a tenth has
digits_one : (k n : ℕ) → n < 10 → (48 + n % 10) ∷ [] ≡ digits_in (suc k) n
unfolding digits_in
digits_one k n h = rw (lt-ltb n 10 h)

digits_more : (k n : ℕ) → 10 ≤ n → digits_in k (n / 10) ++ ((48 + n % 10) ∷ []) ≡ digits_in (suc k) n
unfolding digits_in
digits_more k n h = rw (le-ltb n 10 h)

-- they are the kit's digits in base ten, the fewest that hold the number
abbrev Shown : (k n : ℕ) → Type 0
Shown k n = (m : ℕ) × IsDigitCount 10 1 n m × (digits_in k n ≡ last_digits 10 m n)

shown_one : (k n : ℕ) → n < 10 → Shown (suc k) n
shown_one k n h = (1, (omega arith, omega arith, λ t. omega arith), sym (digits_one k n h) ∙ rw (lt-ltb (n % 10) 10 (omega arith)))

power_below : (m n : ℕ) → 10 ≤ n → 1 ≤ m → (1 < m → 10 ^ (m - 1) ≤ n / 10) → 10 ^ m ≤ n
power_below zero n h s f = absurd (omega arith)
power_below (suc zero) n h s f = h
power_below (suc (suc m)) n h s f =
    let e : suc (suc m) - 1 ≡ suc m = omega arith in
    omega (arith, pow-suc 10 (suc m), rw e at f (omega arith))

shown : (k n : ℕ) → n < 10 ^ suc k → Shown (suc k) n
shown zero n h = shown_one 0 n h
shown (suc k) n h = ⊎_elim (shown_one (suc k) n)
    (λ (l : 10 ≤ n).
    let w = shown k (n / 10) (omega (arith, pow-suc 10 (suc k))) in
    let m = w.0 in
    let a : n < 10 ^ suc m = omega (arith, pow-suc 10 m, w.1.1) in
    let e : suc m - 1 ≡ m = omega arith in
    let b : 10 ^ (suc m - 1) ≤ n = rw e (power_below m n l w.1.0 w.1.2) in
    (suc m, (omega arith, a, λ t. b), sym (digits_more (suc k) n l) ∙ rw (lt-ltb (n % 10) 10 (omega arith), w.2)))
    (ℕ_cases n 10)

pub decimal_fewest : (n : ℕ) → n < 10 ^ 20 → (m : ℕ) × IsDigitCount 10 1 n m × (decimal n ≡ last_digits 10 m n)
decimal_fewest n h = shown 19 n h

-- ---- the three ways to put digits down
pub no_digits : (n : ℕ) {most : ℕ} → most ≡ 0 → [] ≡ digits_in most n
unfolding digits_in
no_digits n e = rw e refl

-- room for one digit more
pub room : {most : ℕ} → (most ≡ 0 → ⊥) → most ≡ suc (most - 1)
room {most = zero} h = absurd (h refl)
room {most = suc k} h = omega arith

module _ {n most : ℕ} (some : most ≡ 0 → ⊥) where
  pub one_digit : n < 10 → (48 + n % 10) ∷ [] ≡ digits_in most n
  one_digit h = digits_one (most - 1) n h ∙ ap (λ (k : ℕ). digits_in k n) (sym (room some))

  pub more_digits : 10 ≤ n → digits_in (most - 1) (n / 10) ++ ((48 + n % 10) ∷ []) ≡ digits_in most n
  more_digits h = digits_more (most - 1) n h ∙ ap (λ (k : ℕ). digits_in k n) (sym (room some))

-- ---- a signed number
pub nonneg_text : (z : ℤ) → lt_z z (pos 0) ≡ false → decimal (nat_abs z) ≡ signed_text z
unfolding signed_text
nonneg_text (pos n) h = refl
nonneg_text (negsuc a) h = absurd (false_true (sym h))

pub negative_text : (z : ℤ) → lt_z z (pos 0) ≡ true → (45 ∷ []) ++ decimal (nat_abs z) ≡ signed_text z
unfolding signed_text
negative_text (pos n) h = absurd (clash_ℤ (lt_true (pos n) (pos 0) h) (pos_nonneg n))
negative_text (negsuc a) h = ap (λ (k : ℕ). (45 ∷ []) ++ decimal k) (sym (add-one a))
