-- A test of every element of a list is the test of each of its places.
use mathlib.Core.Path.{◌≡◌, refl, sym, ap, ap₂, ◌∙◌}
use mathlib.Core.Bool.{Bool, true, false}
use mathlib.Core.List.{List, [], ◌∷◌}
use Prim.Native.Nat.{ℕ, zero, suc, ◌<◌}
use native.Mathlib.Omega.{arith}
use lib.ListN.{length, get_or}
use Rattle.std.specs.Prelude.{◌&&◌}
use Rattle.std.specs.Bool.{MatchBool}
use Rattle.std.proofs.lemmas.List.{get_or_default}
use Rattle.std.specs.List.{list_all, AllWithin, HoldsAt}
use Rattle.whole.specs.Test.{both, all}
use Rattle.whole.proofs.Test.{both_yes, all_yes, all_fails}

both_assoc : (a b c : Bool) → both (both a b) c ≡ both a (both b c)
both_assoc true b c = refl
both_assoc false b c = refl

-- the first place comes first
all_front : (n : ℕ) (q : ℕ → Bool) → both (q 0) (all n (λ k. q (suc k))) ≡ all (suc n) q
unfolding all
all_front zero q = both_yes (q 0)
all_front (suc n) q = sym (both_assoc (q 0) (all n (λ k. q (suc k))) (q (suc n))) ∙ ap (λ (b : Bool). both b (q (suc n))) (all_front n q)

module _ {A : Type 0} (p : A → Bool) where
  pub list_all_is : (xs : List A) (q : ℕ → Bool) → ((k : ℕ) (d : A) → k < length xs → p (get_or xs k d) ≡ q k) → list_all p xs ≡ all (length xs) q
  unfolding all
  list_all_is [] q h = refl
  list_all_is (x ∷ xs) q h = one (p x) (list_all p xs) ∙ ap₂ both (h 0 x (omega arith)) (list_all_is xs (λ k. q (suc k)) (λ k d l. h (suc k) d (omega arith))) ∙ all_front (length xs) q
    where
      one : (a b : Bool) → a && b ≡ both a b
      one true b = refl
      one false b = refl

  -- what a chain's `all` answers
  pub list_all_of : (xs : List A) (r : Bool) → MatchBool r (AllWithin (λ x. p x ≡ true) xs 0 (length xs)) ((k : ℕ) × (k < length xs) × HoldsAt (λ x. p x ≡ false) xs k) → r ≡ list_all p xs
  list_all_of [] true h = refl
  list_all_of [] false h = absurd (omega (arith, h.1))
  list_all_of (x ∷ xs) r h =
      answered r h ∙ sym (list_all_is (x ∷ xs) (λ k. p (get_or (x ∷ xs) k x)) (λ k d l. ap p (get_or_default (x ∷ xs) k d x l)))
    where
      answered : (r : Bool) → MatchBool r (AllWithin (λ x. p x ≡ true) (x ∷ xs) 0 (length (x ∷ xs))) ((k : ℕ) × (k < length (x ∷ xs)) × HoldsAt (λ x. p x ≡ false) (x ∷ xs) k)
          → r ≡ all (length (x ∷ xs)) (λ k. p (get_or (x ∷ xs) k x))
      answered true h = sym (all_yes (length (x ∷ xs)) _ (λ k l. h k x (omega arith) l))
      answered false h = sym (all_fails (length (x ∷ xs)) _ h.0 h.1 (h.2 x))
