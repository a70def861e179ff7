-- The laws of the first of some allocations that passes a test.
use mathlib.Core.Path.{◌≡◌, refl, ap₂, sym}
use mathlib.Core.Bool.{Bool, true, false}
use mathlib.Core.List.{List, [], ◌∷◌, ◌++◌, map}
use Prim.Native.Nat.{ℕ, zero, suc}
use native.Mathlib.Omega.{arith}
use lib.ListN.{replicate}
use Rattle.whole.specs.Test.{pick}
use Rattle.whole.proofs.Test.{false_true}
use Rattle.finder.specs.Answers.{FindAnswer}
use Rattle.finder.specs.Find.{not_found, first_that}
use Rattle.finder.proofs.Grid.{Each, Stands, later}

-- what is found
abbrev pub hit : List ℕ → FindAnswer
hit p = record { refusal = 0; found = true; shares = p }

module _ (test : List ℕ → Bool) where
  -- ---- of a list and then another: what the first has is found, and where it has none the second decides
  pub first_found : (xs ys : List (List ℕ)) → (first_that test xs).found ≡ true → first_that test xs ≡ first_that test (xs ++ ys)
  unfolding first_that
  first_found [] ys e = absurd (false_true e)
  first_found (p ∷ xs) ys e = go (test p) e (first_found xs ys)
    where
      go : (b : Bool) → (pick b (hit p) (first_that test xs)).found ≡ true
          → ((first_that test xs).found ≡ true → first_that test xs ≡ first_that test (xs ++ ys))
          → pick b (hit p) (first_that test xs) ≡ pick b (hit p) (first_that test (xs ++ ys))
      go true e h = refl
      go false e h = h e

  pub first_later : (xs ys : List (List ℕ)) → (first_that test xs).found ≡ false → first_that test ys ≡ first_that test (xs ++ ys)
  unfolding first_that
  first_later [] ys e = refl
  first_later (p ∷ xs) ys e = go (test p) e (first_later xs ys)
    where
      go : (b : Bool) → (pick b (hit p) (first_that test xs)).found ≡ false
          → ((first_that test xs).found ≡ false → first_that test ys ≡ first_that test (xs ++ ys))
          → first_that test ys ≡ pick b (hit p) (first_that test (xs ++ ys))
      go true e h = absurd (false_true (sym e))
      go false e h = h e

  -- ---- what is found is one of the list, and passes; where none is found, each fails, and the shares are zeros
  pub found_stands : (xs : List (List ℕ)) → (first_that test xs).found ≡ true → Stands xs (first_that test xs).shares
  unfolding first_that
  found_stands [] e = absurd (false_true e)
  found_stands (p ∷ xs) e = go (test p) e (found_stands xs)
    where
      go : (b : Bool) → (pick b (hit p) (first_that test xs)).found ≡ true → ((first_that test xs).found ≡ true → Stands xs (first_that test xs).shares)
          → Stands (p ∷ xs) (pick b (hit p) (first_that test xs)).shares
      go true e h = record { place = 0; below = omega arith; is = refl }
      go false e h = later (h e)

  pub found_passes : (xs : List (List ℕ)) → (first_that test xs).found ≡ true → test (first_that test xs).shares ≡ true
  unfolding first_that
  found_passes [] e = absurd (false_true e)
  found_passes (p ∷ xs) e = go (test p) refl e (found_passes xs)
    where
      go : (b : Bool) → test p ≡ b → (pick b (hit p) (first_that test xs)).found ≡ true → ((first_that test xs).found ≡ true → test (first_that test xs).shares ≡ true)
          → test (pick b (hit p) (first_that test xs)).shares ≡ true
      go true f e h = f
      go false f e h = h e

  pub none_passes : (xs : List (List ℕ)) → (first_that test xs).found ≡ false → Each (λ p. test p ≡ false) xs
  unfolding first_that
  none_passes [] e k l = absurd (omega arith)
  none_passes (p ∷ xs) e k l = go (test p) refl e (none_passes xs) k l
    where
      go : (b : Bool) → test p ≡ b → (pick b (hit p) (first_that test xs)).found ≡ false → ((first_that test xs).found ≡ false → Each (λ p. test p ≡ false) xs)
          → Each (λ p. test p ≡ false) (p ∷ xs)
      go true f e h k l = absurd (false_true (sym e))
      go false f e h zero l = f
      go false f e h (suc k) l = h e k (omega arith)

  pub none_zeros : (xs : List (List ℕ)) → (first_that test xs).found ≡ false → (first_that test xs).shares ≡ replicate 16 0
  unfolding first_that
  none_zeros [] e = refl
  none_zeros (p ∷ xs) e = go (test p) e (none_zeros xs)
    where
      go : (b : Bool) → (pick b (hit p) (first_that test xs)).found ≡ false → ((first_that test xs).found ≡ false → (first_that test xs).shares ≡ replicate 16 0)
          → (pick b (hit p) (first_that test xs)).shares ≡ replicate 16 0
      go true e h = absurd (false_true (sym e))
      go false e h = h e

  -- nothing is refused
  pub first_accepted : (xs : List (List ℕ)) → (first_that test xs).refusal ≡ 0
  unfolding first_that
  first_accepted [] = refl
  first_accepted (p ∷ xs) = go (test p) (first_accepted xs)
    where
      go : (b : Bool) → (first_that test xs).refusal ≡ 0 → (pick b (hit p) (first_that test xs)).refusal ≡ 0
      go true e = refl
      go false e = e

-- the first of what f makes of a list is what f makes of the first
pub first_map : (test : List ℕ → Bool) (f : List ℕ → List ℕ) (xs : List (List ℕ))
    → first_that test (map f xs) ≡ (let a = first_that (λ p. test (f p)) xs in pick a.found (hit (f a.shares)) (not_found 0))
unfolding first_that
first_map test f [] = refl
first_map test f (p ∷ xs) = go (test (f p)) (first_map test f xs)
  where
    go : (b : Bool) → first_that test (map f xs) ≡ (let a = first_that (λ p. test (f p)) xs in pick a.found (hit (f a.shares)) (not_found 0))
        → pick b (hit (f p)) (first_that test (map f xs)) ≡ (let a = pick b (hit p) (first_that (λ p. test (f p)) xs) in pick a.found (hit (f a.shares)) (not_found 0))
    go true h = refl
    go false h = h

-- two tests that agree on a list find the same
pub first_cong : (test other : List ℕ → Bool) (xs : List (List ℕ)) → Each (λ p. test p ≡ other p) xs → first_that test xs ≡ first_that other xs
unfolding first_that
first_cong test other [] h = refl
first_cong test other (p ∷ xs) h = ap₂ (λ (b : Bool) (s : FindAnswer). pick b (hit p) s) (h 0 (omega arith)) (first_cong test other xs (λ k l. h (suc k) (omega arith)))
