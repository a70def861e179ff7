-- An array that a closure makes (`array::from_fn`), where the closure leaves what it captures as it was.
use mathlib.Core.Path.{◌≡◌, refl, ◌∙◌, sym, subst}
use mathlib.Core.List.{List}
use mathlib.Core.Logic.{⊎_elim}
use Prim.Native.Nat.{ℕ, zero, suc, ◌+◌, ◌≤◌, ◌<◌}
use native.Mathlib.Omega.{arith}
use lib.ListN.{length, get_or}
use denote.Param.Members.{Mut, Called}
use Rattle.std.proofs.lemmas.List.{ext_get_or}
use Rattle.std.specs.Array.{IsFromFnResultFrom, IsFromFnResult}
use Rattle.whole.specs.Table.{table}
use Rattle.whole.specs.Entry.{cut}
use Rattle.whole.proofs.Laws.{ℕ_cases}
use Rattle.whole.proofs.Table.{length_table}
use Rattle.whole.proofs.Entry.{cut_in, cut_past, table_cut}

-- m places, of which place k has the value of f below n, and d from n on
pub table_of : {A : Type 0} (m n : ℕ) (f : ℕ → A) (d : A) (ys : List A) → n ≤ m → length ys ≡ m → ((k : ℕ) → k < m → get_or ys k d ≡ cut d n f k) → ys ≡ table m n f d
table_of m n f d ys few long at =
    ext_get_or d ys (table m n f d) (long ∙ sym (length_table m n f d few)) (λ k l. at k (omega (arith, l, long)) ∙ sym (table_cut d n f m few k))

module _ {F A : Type 0} {g : Mut F (ℕ × Unit {0}) A} {c : F} {m : ℕ} {ys : List A} (made : IsFromFnResult g c ys m) where
  -- what is so of each answer is so at its place
  pub made_each : (P : ℕ → A → Type 0) → ((k : ℕ) (y : A) (q : F) → k < m → Called g c (k, tt) y q → (q ≡ c) × P k y) → (k : ℕ) (d : A) → k < m → P k (get_or ys k d)
  made_each P h k d l = walk c 0 m refl (omega arith) made.each k (omega arith) l
    where
      walk : (p : F) (i n : ℕ) → p ≡ c → i + n ≡ m → IsFromFnResultFrom g p ys i n → (k : ℕ) → i ≤ k → k < m → P k (get_or ys k d)
      walk p i zero e s r k a b = absurd (omega arith)
      walk p i (suc n) e s r k a b = ⊎_elim
          (λ (l : i < k). walk r.0 (i + 1) n (h i r.1 r.0 (omega arith) (subst (λ (p : F). Called g p (i, tt) r.1 r.0) e r.3)).0 (omega arith) r.4 k (omega arith) b)
          (λ (l : k ≤ i).
          let same : k ≡ i = omega arith in
          rw same (rw (r.2.1 d) (h i r.1 r.0 (omega arith) (subst (λ (p : F). Called g p (i, tt) r.1 r.0) e r.3)).1))
          (ℕ_cases i k)

  -- a closure that answers f k below n, and d from n on
  pub made_cut : (n : ℕ) (f : ℕ → A) (d : A) → n ≤ m → ((k : ℕ) (y : A) (q : F) → k < m → Called g c (k, tt) y q → (q ≡ c) × (y ≡ cut d n f k)) → ys ≡ table m n f d
  made_cut n f d few h = table_of m n f d ys few made.long (λ k l. made_each (λ k y. y ≡ cut d n f k) h k d l)

  -- the same, below n and from n on
  pub made_table : (n : ℕ) (f : ℕ → A) (d : A) → n ≤ m →
      ((k : ℕ) (y : A) (q : F) → k < n → Called g c (k, tt) y q → (q ≡ c) × (y ≡ f k)) →
      ((k : ℕ) (y : A) (q : F) → n ≤ k → k < m → Called g c (k, tt) y q → (q ≡ c) × (y ≡ d)) → ys ≡ table m n f d
  made_table n f d few below past = made_cut n f d few (λ k y q l called. ⊎_elim
      (λ (b : k < n). let h = below k y q b called in (h.0, h.1 ∙ sym (cut_in d n f k b)))
      (λ (b : n ≤ k). let h = past k y q b l called in (h.0, h.1 ∙ sym (cut_past d n f k b)))
      (ℕ_cases k n))

  -- a closure that answers f k at every place
  pub made_whole : (f : ℕ → A) (d : A) → ((k : ℕ) (y : A) (q : F) → k < m → Called g c (k, tt) y q → (q ≡ c) × (y ≡ f k)) → ys ≡ table m m f d
  made_whole f d h = made_table m f d (omega arith) h (λ k y q b l called. absurd (omega arith))
