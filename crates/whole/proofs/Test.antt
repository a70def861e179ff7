-- The laws of the tests: what a test that held or failed says, and when a test holds or fails.
use mathlib.Core.Path.{◌≡◌, refl, ap, ap₂, ◌∙◌, sym, subst}
use mathlib.Core.Bool.{Bool, true, false, not}
use mathlib.Core.Logic.{⊎_elim}
use Prim.Native.Nat.{ℕ, zero, suc, ◌+◌, ◌≤◌, ◌<◌}
use native.Mathlib.Numerals.{add-one}
use native.Mathlib.Omega.{arith}
use borrow.Author.Tests.{le-leb, lt-leb, leb-true}
use lib.Dec.{T, leb, nleb→lt, lt→ltb}
use lib.IntN.{ℤ, pos, negsuc}
use lib.Signed.{le_z, lt_z, le_z_yes, lt_z_yes, lt_z_no, ◌≤ℤ◌, ◌<ℤ◌, clash_ℤ}
use Rattle.whole.specs.Range.{Between}
use Rattle.whole.specs.Test.{pick, both, all, is_from, is_between, is_same}
use Rattle.whole.proofs.Laws.{ℕ_cases, ≤ℤ_antisymm}

pub false_true : false ≡ true → ⊥
false_true e = subst (λ (b : Bool). T b) (sym e) tt

-- ---- both
pub both_first : (a b : Bool) → both a b ≡ true → a ≡ true
both_first true b e = refl
both_first false b e = e

pub both_second : (a b : Bool) → both a b ≡ true → b ≡ true
both_second true b e = e
both_second false b e = absurd (false_true e)

pub both_yes : (a : Bool) → both a true ≡ a
both_yes true = refl
both_yes false = refl

pub both_not : (a : Bool) → both a false ≡ false
both_not true = refl
both_not false = refl

-- ---- n, or none
pub pick_few : (b : Bool) (n : ℕ) → pick b n 0 ≤ n
pick_few true n = omega arith
pick_few false n = omega arith

-- none, or n
pub pick_none_few : (b : Bool) (n : ℕ) → pick b 0 n ≤ n
pick_none_few true n = omega arith
pick_none_few false n = omega arith

-- a test that picks twice picks once
pub pick_again : {A : Type 0} (b : Bool) (x y z : A) → pick b (pick b x y) z ≡ pick b x z
pick_again true x y z = refl
pick_again false x y z = refl

-- ---- an answer that a test picks: which way it went shows in its refusal, a number that is 0 in the one and not in the other
module _ {A : Type 0} (refusal : A → ℕ) (x y : A) (ok : refusal x ≡ 0) (bad : refusal y ≡ 0 → ⊥) where
  pub picked_yes : (b : Bool) (s : A) → s ≡ pick b x y → refusal s ≡ 0 → b ≡ true
  picked_yes true s e h = refl
  picked_yes false s e h = absurd (bad (ap refusal (sym e) ∙ h))

  pub picked_no : (b : Bool) (s : A) → s ≡ pick b x y → (refusal s ≡ 0 → ⊥) → b ≡ false
  picked_no true s e h = absurd (h (ap refusal e ∙ ok))
  picked_no false s e h = refl

  pub picked_is : (b : Bool) (s : A) → s ≡ pick b x y → refusal s ≡ 0 → s ≡ x
  picked_is true s e h = e
  picked_is false s e h = absurd (bad (ap refusal (sym e) ∙ h))

-- ---- all
pub all_none : (p : ℕ → Bool) → all 0 p ≡ true
unfolding all
all_none p = refl

-- one more turn of a loop
pub all_more : (n : ℕ) (p : ℕ → Bool) → all n p ≡ true → p n ≡ true → all (n + 1) p ≡ true
unfolding all
all_more n p h k = ap (λ (m : ℕ). all m p) (add-one n) ∙ ap₂ both h k

-- the loop's end
pub all_end : {k : ℕ} (n : ℕ) (p : ℕ → Bool) → k ≤ n → n ≤ k → all k p ≡ true → all n p ≡ true
all_end {k} n p h g e = let same : n ≡ k = omega arith in ap (λ (m : ℕ). all m p) same ∙ e

-- what holds of each holds of all
pub all_yes : (n : ℕ) (p : ℕ → Bool) → ((k : ℕ) → k < n → p k ≡ true) → all n p ≡ true
unfolding all
all_yes zero p h = refl
all_yes (suc n) p h = ap₂ both (all_yes n p (λ k l. h k (omega arith))) (h n (omega arith))

-- one fails
pub all_fails : (n : ℕ) (p : ℕ → Bool) (i : ℕ) → i < n → p i ≡ false → all n p ≡ false
unfolding all
all_fails zero p i h e = absurd (omega arith)
all_fails (suc n) p i h e = ⊎_elim
    (λ (l : i < n). ap (λ (b : Bool). both b (p n)) (all_fails n p i l e))
    (λ (l : n ≤ i). let k : n ≡ i = omega arith in ap (λ (b : Bool). both (all n p) b) (ap p k ∙ e) ∙ both_not (all n p))
    (ℕ_cases i n)

-- what holds of all holds of one
pub all_at : (n : ℕ) (p : ℕ → Bool) (i : ℕ) → i < n → all n p ≡ true → p i ≡ true
all_at n p i h e = by (p i) refl
  where
    by : (b : Bool) → p i ≡ b → p i ≡ true
    by true q = q
    by false q = absurd (false_true (sym (all_fails n p i h q) ∙ e))

pub all_cong : (n : ℕ) (p q : ℕ → Bool) → ((k : ℕ) → k < n → p k ≡ q k) → all n p ≡ all n q
unfolding all
all_cong zero p q h = refl
all_cong (suc n) p q h = ap₂ both (all_cong n p q (λ k l. h k (omega arith))) (h n (omega arith))

-- ---- a comparison of whole numbers, as a branch leaves it
is_T : (b : Bool) → b ≡ true → T b
is_T b e = rw e tt

is_not_T : (b : Bool) → b ≡ false → T (not b)
is_not_T b e = rw e tt

pub lt_true : (a b : ℤ) → lt_z a b ≡ true → a <ℤ b
lt_true a b e = lt_z_yes (is_T (lt_z a b) e)

pub lt_false : (a b : ℤ) → lt_z a b ≡ false → b ≤ℤ a
lt_false a b e = lt_z_no (is_not_T (lt_z a b) e)

pub le_true : (a b : ℤ) → le_z a b ≡ true → a ≤ℤ b
le_true a b e = le_z_yes (is_T (le_z a b) e)

le_Z_not : (a b : ℤ) → T (not (le_z a b)) → T (lt_z b a)
le_Z_not (pos a) (pos b) t = lt→ltb b a (nleb→lt a b t)
le_Z_not (pos a) (negsuc b) t = tt
le_Z_not (negsuc a) (pos b) t = t
le_Z_not (negsuc a) (negsuc b) t = lt→ltb a b (nleb→lt b a t)

pub le_false : (a b : ℤ) → le_z a b ≡ false → b <ℤ a
le_false a b e = lt_z_yes (le_Z_not a b (is_not_T (le_z a b) e))

pub le_le_Z : (a b : ℤ) → a ≤ℤ b → le_z a b ≡ true
le_le_Z a b h = go (le_z a b) refl
  where
    go : (c : Bool) → le_z a b ≡ c → le_z a b ≡ true
    go true e = e
    go false e = absurd (clash_ℤ (le_false a b e) h)

pub lt_le_Z : (a b : ℤ) → b <ℤ a → le_z a b ≡ false
lt_le_Z a b h = go (le_z a b) refl
  where
    go : (c : Bool) → le_z a b ≡ c → le_z a b ≡ false
    go true e = absurd (clash_ℤ h (le_true a b e))
    go false e = e

-- ---- a whole number's range
module _ (a b z : ℤ) where
  pub between_fact : is_between a b z ≡ true → Between a b z
  unfolding is_between
  between_fact e = record { low = le_true a z (both_first _ _ e); high = le_true z b (both_second (le_z a z) _ e) }

  pub between_yes : Between a b z → is_between a b z ≡ true
  unfolding is_between
  between_yes h = rw (le_le_Z a z h.low, le_le_Z z b h.high)

  pub between_under : z <ℤ a → is_between a b z ≡ false
  unfolding is_between
  between_under h = rw (lt_le_Z a z h)

  pub between_above : b <ℤ z → is_between a b z ≡ false
  unfolding is_between
  between_above h = rw (lt_le_Z z b h) (both_not (le_z a z))

-- a natural is never below 0
pub between_pos : (b n : ℕ) → is_between (pos 0) (pos b) (pos n) ≡ leb n b
unfolding is_between
between_pos b n = rw (le-leb 0 n (omega arith))

pub same_is : (x y : ℤ) → is_same x y ≡ true → x ≡ y
unfolding is_same
same_is x y e = let h = between_fact y y x e in ≤ℤ_antisymm h.high h.low

-- ---- a count's range
pub from_low : (a b n : ℕ) → is_from a b n ≡ true → a ≤ n
from_low a b n e = leb-true a n (both_first _ _ e)

pub from_high : (a b n : ℕ) → is_from a b n ≡ true → n ≤ b
from_high a b n e = leb-true n b (both_second (leb a n) _ e)

pub from_yes : (a b n : ℕ) → a ≤ n → n ≤ b → is_from a b n ≡ true
from_yes a b n h k = rw (le-leb a n h, le-leb n b k)

pub from_under : (a b n : ℕ) → n < a → is_from a b n ≡ false
from_under a b n h = rw (lt-leb a n h)

pub from_above : (a b n : ℕ) → b < n → is_from a b n ≡ false
from_above a b n h = rw (lt-leb n b h) (both_not (leb a n))
