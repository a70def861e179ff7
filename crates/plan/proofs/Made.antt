-- An array that a closure makes, whose first n places have the values of a function, however large n is.
use mathlib.Core.Path.{◌≡◌, refl, ap, ◌∙◌}
use mathlib.Core.List.{List, ◌∷◌}
use mathlib.Core.Logic.{⊎_elim}
use Prim.Native.Nat.{ℕ, zero, suc, ◌≤◌, ◌<◌}
use native.Mathlib.Omega.{arith}
use denote.Param.Members.{Mut, Called}
use Rattle.std.specs.Array.{IsFromFnResult}
use Rattle.whole.specs.Table.{table}
use Rattle.whole.proofs.Laws.{ℕ_cases}
use Rattle.whole.proofs.Made.{made_table, made_whole}

-- an array has no more places than it has
table_full : {A : Type 0} (m n : ℕ) (f : ℕ → A) (d : A) → m ≤ n → table m m f d ≡ table m n f d
unfolding table
table_full zero zero f d h = refl
table_full zero (suc n) f d h = refl
table_full (suc m) zero f d h = absurd (omega arith)
table_full (suc m) (suc n) f d h = ap (λ (xs : List _). f 0 ∷ xs) (table_full m n (λ k. f (suc k)) d (omega arith))

-- a closure that keeps what it captures, and answers f k below n, and d from n on
pub made_first : {F A : Type 0} {g : Mut F (ℕ × Unit {0}) A} {c : F} {ys : List A} {m : ℕ} → IsFromFnResult g c ys m → (n : ℕ) (f : ℕ → A) (d : A) →
    ((k : ℕ) (y : A) (q : F) → k < n → Called g c (k, tt) y q → (q ≡ c) × (y ≡ f k)) →
    ((k : ℕ) (y : A) (q : F) → n ≤ k → k < m → Called g c (k, tt) y q → (q ≡ c) × (y ≡ d)) → ys ≡ table m n f d
made_first {m = m} made n f d below past = ⊎_elim
    (λ (l : n < m). made_table made n f d (omega arith) below past)
    (λ (l : m ≤ n). made_whole made f d (λ k y q b called. below k y q (omega arith) called) ∙ table_full m n f d l)
    (ℕ_cases n m)
