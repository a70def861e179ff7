-- A chain's `all` over a list, as the test of each of its places, and over the first n of a list.
use mathlib.Core.Path.{◌≡◌, sym, ap, ◌∙◌}
use mathlib.Core.Bool.{Bool, true, false}
use mathlib.Core.List.{List}
use Prim.Native.Nat.{ℕ, zero, suc, ◌+◌, ◌-◌, ◌≤◌, ◌<◌}
use native.Mathlib.Omega.{arith}
use lib.ListN.{length, get_or, get_or-eq_default, take}
use Rattle.std.proofs.lemmas.Iterator.{YieldsList, cases_from_all}
use Rattle.std.proofs.lemmas.List.{length-take, get_or-take}
use denote.Param.Members.{Mut, Called}
use Rattle.std.specs.Bool.{MatchBool}
use Rattle.std.specs.Prelude.{Option, MatchOption}
use Rattle.std.specs.Iterator.{YieldsThen}
use Rattle.std.specs.List.{AllWithin, HoldsAt, FoldsTo}
use Rattle.whole.specs.Test.{all}
use Rattle.whole.proofs.Test.{both_yes, all_yes, all_fails, all_cong}

pub all_from : {A : Type 0} (xs : List A) (d : A) (p : A → Bool) (Yes : A → Type 0) (says : (x : A) → Yes x → p x ≡ true) (r : Bool)
    → MatchBool r (AllWithin Yes xs 0 (length xs)) ((k : ℕ) × (k < length xs) × HoldsAt (λ x. p x ≡ false) xs k)
    → r ≡ all (length xs) (λ k. p (get_or xs k d))
all_from xs d p Yes says true h = sym (all_yes (length xs) _ (λ k l. says _ (h k d (omega arith) l)))
all_from xs d p Yes says false h = sym (all_fails (length xs) _ h.0 h.1 (h.2 d))

-- a closure that keeps what it captures, and answers p of each
pub all_ran : {S A B F : Type 0} {steps : S → Option A → S → Type 0} {v : A → B} {g : Mut F (A × Unit {0}) Bool} {s : S} {xs : List B} (d : B) (p : B → Bool) (u : S) (f : F) (r : Bool)
    → (ys : List A) × (o : Option A) × (j : F) × YieldsThen steps s ys o u × FoldsTo (λ p x q. Called g p (x, tt) true q) f ys j × MatchOption o (r ≡ true) (λ x. (r ≡ false) × ((h : F) × Called g j (x, tt) false h))
    → YieldsList steps v s xs
    → ((x : A) (q : F) → Called g f (x, tt) true q → (q ≡ f) × (p (v x) ≡ true)) → ((x : A) (q : F) → Called g f (x, tt) false q → p (v x) ≡ false)
    → r ≡ all (length xs) (λ k. p (get_or xs k d))
all_ran {xs = xs} d p u f r ran list holds fails =
    all_from xs d p _ (λ x e. e) r (cases_from_all u f r (λ x. p x ≡ true) (λ x. p x ≡ false) ran list holds fails)

-- what passes from m on plays no part
all_past : (m j : ℕ) (p : ℕ → Bool) → ((k : ℕ) → m ≤ k → p k ≡ true) → all (m + j) p ≡ all m p
unfolding all
all_past m zero p past = let e : m + 0 ≡ m = omega arith in rw e
all_past m (suc j) p past =
    let e : m + suc j ≡ suc (m + j) = omega arith in
    rw (e, past (m + j) (omega arith)) (both_yes (all (m + j) p) ∙ all_past m j p past)

-- the first n of a list, where what is read past its end passes
pub all_first : {A : Type 0} (xs : List A) (d : A) (n : ℕ) (p : A → Bool) → p d ≡ true
    → all (length (take n xs)) (λ k. p (get_or (take n xs) k d)) ≡ all n (λ k. p (get_or xs k d))
all_first xs d n p end =
    let m = length (take n xs) in
    let few : m ≤ n = omega (arith, length-take n xs) in
    let e : m + (n - m) ≡ n = omega arith in
    sym (all_past m (n - m) (λ k. p (get_or (take n xs) k d)) (λ k l. ap p (get_or-eq_default (take n xs) d l) ∙ end))
    ∙ ap (λ (i : ℕ). all i (λ k. p (get_or (take n xs) k d))) e
    ∙ all_cong n _ _ (λ k l. ap p (get_or-take n xs k d l))
