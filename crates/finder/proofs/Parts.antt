-- The numbers of parts that check 15 takes: that the code looks them up, and what each of them has.
use mathlib.Core.Path.{◌≡◌, refl, sym, subst}
use mathlib.Core.Bool.{Bool, true, false}
use mathlib.Core.List.{List, [], ◌∷◌}
use Prim.Native.Nat.{ℕ, suc, ◌*◌, ◌/◌, ◌≤◌, ◌<◌}
use native.Mathlib.Omega.{arith}
use borrow.Author.Tests.{eq-eqb, ne_eqb, eqb-true, eqb-false, leb-true}
use lib.Dec.{eqb, leb}
use lib.ListN.{length, get_or}
use Rattle.std.specs.Prelude.{◌||◌}
use Rattle.std.specs.List.{list_any}
use Rattle.whole.specs.Range.{million}
use Rattle.whole.specs.Test.{pick, both, all}
use Rattle.whole.proofs.Test.{false_true, both_first, both_second, all_at}
use Rattle.finder.specs.Find.{is_among, parts_taken}

-- what a list has is among it
pub any_among : (xs : List ℕ) (d : ℕ) → list_any (λ y. eqb y d) xs ≡ is_among xs d
unfolding is_among
any_among [] d = refl
any_among (x ∷ xs) d = go (eqb x d) refl (any_among xs d)
  where
    go : (b : Bool) → eqb x d ≡ b → list_any (λ y. eqb y d) xs ≡ is_among xs d → b || list_any (λ y. eqb y d) xs ≡ pick (eqb d x) true (is_among xs d)
    go true e h = rw (eq-eqb d x (sym (eqb-true x d e))) refl
    go false e h = rw (ne_eqb d x (λ k. eqb-false x d e (sym k))) h

-- ---- what each has
pub record Parts (d : ℕ) : Type 0 where
  pub some : 1 ≤ d
  pub few : d ≤ 40
  pub exact : d * (million / d) ≡ million

each_of : (Q : ℕ → Type 0) (xs : List ℕ) → ((k : ℕ) → k < length xs → Q (get_or xs k 0)) → (d : ℕ) → is_among xs d ≡ true → Q d
unfolding is_among
each_of Q [] h d e = absurd (false_true e)
each_of Q (x ∷ xs) h d e = go (eqb d x) refl e (each_of Q xs (λ k l. h (suc k) (omega arith)) d)
  where
    go : (b : Bool) → eqb d x ≡ b → pick b true (is_among xs d) ≡ true → (is_among xs d ≡ true → Q d) → Q d
    go true e f g = subst Q (sym (eqb-true d x e)) (h 0 (omega arith))
    go false e f g = g f

abbrev has_parts : ℕ → Bool
has_parts d = both (leb 1 d) (both (leb d 40) (eqb (d * (million / d)) million))

parts_of : (d : ℕ) → has_parts d ≡ true → Parts d
parts_of d e =
    let f = both_second (leb 1 d) _ e in
    record { some = leb-true 1 d (both_first _ _ e); few = leb-true d 40 (both_first _ _ f); exact = eqb-true _ _ (both_second (leb d 40) _ f) }

each_has : all 10 (λ k. has_parts (get_or parts_taken k 0)) ≡ true
unfolding all parts_taken
each_has = refl

pub parts_have : (d : ℕ) → is_among parts_taken d ≡ true → Parts d
unfolding parts_taken
parts_have = each_of Parts parts_taken (λ k h. parts_of (get_or parts_taken k 0) (all_at 10 (λ k. has_parts (get_or parts_taken k 0)) k h each_has))

-- no number above 40 is taken
pub among_many : (d : ℕ) → 40 < d → is_among parts_taken d ≡ false
among_many d h = go (is_among parts_taken d) refl
  where
    go : (b : Bool) → is_among parts_taken d ≡ b → is_among parts_taken d ≡ false
    go true e = absurd (omega (arith, (parts_have d e).few))
    go false e = e
