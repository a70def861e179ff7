-- The laws of a table.
use Prim.Native.Nat.{ℕ, zero, suc, ◌+◌, ◌≤◌, ◌<◌}
use mathlib.Core.Path.{◌≡◌, refl, ap, ap₂, ◌∙◌, sym, subst}
use mathlib.Core.List.{List, [], ◌∷◌, ◌++◌}
use mathlib.Core.Logic.{⊎_elim}
use native.Mathlib.Nat.{not-suc-le-zero, le_of_suc-le-suc}
use native.Mathlib.Numerals.{add-one}
use native.Mathlib.Omega.{arith}
use lib.ListN.{length, get_or, set, replicate, length-replicate, get_or-replicate}
use Rattle.whole.specs.Table.{table}
use Rattle.whole.proofs.Laws.{ℕ_cases}

module _ {A : Type 0} where
  pub table_none : (m : ℕ) (f : ℕ → A) (d : A) → table m 0 f d ≡ replicate m d
  unfolding table
  table_none m f d = refl

  table_suc : (m n : ℕ) (f : ℕ → A) (d : A) → n < m → set (table m n f d) n (f n) ≡ table m (suc n) f d
  unfolding table
  table_suc zero n f d h = absurd (not-suc-le-zero h)
  table_suc (suc m) zero f d h = refl
  table_suc (suc m) (suc n) f d h = ap (λ (l : List A). f zero ∷ l) (table_suc m n (λ k. f (suc k)) d (le_of_suc-le-suc h))

  -- one more turn of a loop that fills the array
  pub table_more : (m n : ℕ) (f : ℕ → A) (d : A) → n < m → set (table m n f d) n (f n) ≡ table m (n + 1) f d
  table_more m n f d h = table_suc m n f d h ∙ ap (λ (k : ℕ). table m k f d) (sym (add-one n))

  pub length_table : (m n : ℕ) (f : ℕ → A) (d : A) → n ≤ m → length (table m n f d) ≡ m
  unfolding table
  length_table m zero f d h = length-replicate m d
  length_table zero (suc n) f d h = refl
  length_table (suc m) (suc n) f d h = ap suc (length_table m n (λ k. f (suc k)) d (le_of_suc-le-suc h))

  -- what stands at a place that is filled, and at one that is not
  pub table_at : (m n : ℕ) (f : ℕ → A) (d e : A) (k : ℕ) → k < n → n ≤ m → get_or (table m n f d) k e ≡ f k
  unfolding table
  table_at m zero f d e k h g = absurd (not-suc-le-zero h)
  table_at zero (suc n) f d e k h g = absurd (not-suc-le-zero g)
  table_at (suc m) (suc n) f d e zero h g = refl
  table_at (suc m) (suc n) f d e (suc k) h g = table_at m n (λ i. f (suc i)) d e k (le_of_suc-le-suc h) (le_of_suc-le-suc g)

  pub table_past : (m n : ℕ) (f : ℕ → A) (d e : A) (k : ℕ) → n ≤ k → k < m → get_or (table m n f d) k e ≡ d
  unfolding table
  table_past m zero f d e k h g = get_or-replicate m k d e g
  table_past zero (suc n) f d e k h g = absurd (not-suc-le-zero g)
  table_past (suc m) (suc n) f d e zero h g = absurd (not-suc-le-zero h)
  table_past (suc m) (suc n) f d e (suc k) h g = table_past m n (λ i. f (suc i)) d e k (le_of_suc-le-suc h) (le_of_suc-le-suc g)

  -- what holds of d and of each value holds at every place
  pub table_each : (Q : A → Type 0) (m n : ℕ) (f : ℕ → A) (d e : A) → n ≤ m → Q d → ((k : ℕ) → k < n → Q (f k)) → (k : ℕ) → k < m → Q (get_or (table m n f d) k e)
  table_each Q m n f d e few q h k l = ⊎_elim
      (λ (b : k < n). subst Q (sym (table_at m n f d e k b few)) (h k b))
      (λ (b : n ≤ k). subst Q (sym (table_past m n f d e k b l)) q)
      (ℕ_cases k n)

  pub table_cong : (m n : ℕ) (f g : ℕ → A) (d : A) → ((k : ℕ) → k < n → f k ≡ g k) → table m n f d ≡ table m n g d
  unfolding table
  table_cong m zero f g d h = refl
  table_cong zero (suc n) f g d h = refl
  table_cong (suc m) (suc n) f g d h =
      ap₂ (λ (a : A) (l : List A). a ∷ l) (h zero (omega arith)) (table_cong m n (λ k. f (suc k)) (λ k. g (suc k)) d (λ k l. h (suc k) (omega arith)))

  -- where the function gives d itself from n on, the whole array is its values
  pub table_whole : (m n : ℕ) (f : ℕ → A) (d : A) → n ≤ m → ((k : ℕ) → n ≤ k → f k ≡ d) → table m n f d ≡ table m m f d
  unfolding table
  table_whole zero zero f d h e = refl
  table_whole zero (suc n) f d h e = absurd (not-suc-le-zero h)
  table_whole (suc m) zero f d h e =
      ap₂ (λ (a : A) (l : List A). a ∷ l) (sym (e zero (omega arith))) (table_whole m zero (λ k. f (suc k)) d (omega arith) (λ k l. e (suc k) (omega arith)))
  table_whole (suc m) (suc n) f d h e =
      ap (λ (l : List A). f zero ∷ l) (table_whole m n (λ k. f (suc k)) d (le_of_suc-le-suc h) (λ k l. e (suc k) (omega arith)))

  -- one place set, and the others as they were
  pub table_set : (m n : ℕ) (f g : ℕ → A) (d : A) (j : ℕ) → j < n → n ≤ m → ((k : ℕ) → (k ≡ j → ⊥) → f k ≡ g k) → set (table m n f d) j (g j) ≡ table m n g d
  unfolding table
  table_set m zero f g d j h few e = absurd (not-suc-le-zero h)
  table_set zero (suc n) f g d j h few e = absurd (not-suc-le-zero few)
  table_set (suc m) (suc n) f g d zero h few e =
      ap (λ (l : List A). g zero ∷ l) (table_cong m n (λ k. f (suc k)) (λ k. g (suc k)) d (λ k l. e (suc k) (λ i. omega arith)))
  table_set (suc m) (suc n) f g d (suc j) h few e =
      ap₂ (λ (a : A) (l : List A). a ∷ l) (e zero (λ i. omega arith))
      (table_set m n (λ k. f (suc k)) (λ k. g (suc k)) d j (le_of_suc-le-suc h) (le_of_suc-le-suc few) (λ k n. e (suc k) (λ i. n (omega arith))))

  -- one value more at the end of a table that is full
  table_full : (n : ℕ) (f : ℕ → A) (d : A) → table (suc n) (suc n) f d ≡ table n n f d ++ (f n ∷ [])
  unfolding table
  table_full zero f d = refl
  table_full (suc n) f d = ap (λ (l : List A). f zero ∷ l) (table_full n (λ k. f (suc k)) d)

  pub table_last : (n : ℕ) (f : ℕ → A) (d : A) → table (n + 1) (n + 1) f d ≡ table n n f d ++ (f n ∷ [])
  table_last n f d = rw add-one (table_full n f d)

  -- every place is d
  pub table_same : (m n : ℕ) (d : A) → table m n (λ k. d) d ≡ replicate m d
  unfolding table
  table_same m zero d = refl
  table_same zero (suc n) d = refl
  table_same (suc m) (suc n) d = ap (λ (l : List A). d ∷ l) (table_same m n d)
