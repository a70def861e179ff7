-- The laws of entries by the papers' index.
use mathlib.Core.Path.{◌≡◌, refl, sym, ap, ◌∙◌, subst, fun_ext}
use mathlib.Core.Logic.{⊎_elim}
use Prim.Native.Nat.{ℕ, zero, suc, ◌+◌, ◌≤◌, ◌<◌}
use native.Mathlib.Numerals.{one-add}
use native.Mathlib.Omega.{arith}
use borrow.Author.Tests.{le-ltb, lt-ltb}
use mathlib.Core.List.{List}
use lib.ListN.{length, get_or, get_or-eq_default}
use Rattle.whole.specs.Table.{table}
use Rattle.whole.specs.Entry.{nth, cut, entry}
use Rattle.whole.proofs.Laws.{ℕ_cases}
use Rattle.whole.proofs.Table.{table_at, table_past, length_table}

module _ {A : Type 0} (z : A) (n : ℕ) (f : ℕ → A) where
  pub cut_in : (j : ℕ) → j < n → cut z n f j ≡ f j
  unfolding cut
  cut_in j h = rw (lt-ltb j n h)

  pub cut_past : (j : ℕ) → n ≤ j → cut z n f j ≡ z
  unfolding cut
  cut_past j h = rw (le-ltb j n h)

  pub entry_in : (j : ℕ) → j < n → entry z n f (suc j) ≡ f j
  unfolding entry
  entry_in j h = cut_in j h

  pub entry_at : (j : ℕ) → j < n → entry z n f (1 + j) ≡ f j
  entry_at j h = rw (one-add j) (entry_in j h)

  pub entry_past : (j : ℕ) → n ≤ j → entry z n f (suc j) ≡ z
  unfolding entry
  entry_past j h = cut_past j h

  -- before the first entry, and past the last
  pub entry_zero : entry z n f 0 ≡ z
  unfolding entry
  entry_zero = refl

  pub entry_beyond : (k : ℕ) → n < k → entry z n f k ≡ z
  unfolding entry
  entry_beyond zero h = refl
  entry_beyond (suc j) h = cut_past j (omega arith)

  -- what holds of z and of each entry holds at every index
  pub entry_each : (Q : A → Type 0) → Q z → ((j : ℕ) → j < n → Q (f j)) → (k : ℕ) → Q (entry z n f k)
  unfolding entry
  entry_each Q q h zero = q
  entry_each Q q h (suc j) =
      ⊎_elim (λ (l : j < n). subst Q (sym (cut_in j l)) (h j l)) (λ (l : n ≤ j). subst Q (sym (cut_past j l)) q) (ℕ_cases j n)

  -- an array that is filled with f, read at any place
  pub table_cut : (m : ℕ) → n ≤ m → (j : ℕ) → get_or (table m n f z) j z ≡ cut z n f j
  table_cut m few j = ⊎_elim
      (λ (l : j < n). table_at m n f z z j l few ∙ sym (cut_in j l))
      (λ (l : n ≤ j). ⊎_elim
      (λ (k : j < m). table_past m n f z z j l k)
      (λ (k : m ≤ j). get_or-eq_default (table m n f z) z (omega (arith, length_table m n f z few)))
      (ℕ_cases j m) ∙ sym (cut_past j l))
      (ℕ_cases j n)

  pub nth_table : (m : ℕ) → n ≤ m → (k : ℕ) → nth z (table m n f z) k ≡ entry z n f k
  unfolding nth entry
  nth_table m few zero = refl
  nth_table m few (suc j) = table_cut m few j

-- of no entries, every one is z
pub entry_empty : {A : Type 0} (z : A) (f : ℕ → A) (k : ℕ) → entry z 0 f k ≡ z
unfolding entry
entry_empty z f zero = refl
entry_empty z f (suc j) = cut_past z 0 f j (omega arith)

-- an index that is 0 or past the last entry
pub nth_outside : {A : Type 0} (z : A) (xs : List A) (k : ℕ) → (0 < k → length xs < k) → nth z xs k ≡ z
unfolding nth
nth_outside z xs zero h = refl
nth_outside z xs (suc j) h = let l = h (omega arith) in get_or-eq_default xs z (omega arith)

-- what stands from n on plays no part
pub entry_cong : {A : Type 0} (z : A) (n : ℕ) (f g : ℕ → A) → ((j : ℕ) → j < n → f j ≡ g j) → (k : ℕ) → entry z n f k ≡ entry z n g k
unfolding entry
entry_cong z n f g h zero = refl
entry_cong z n f g h (suc j) = ⊎_elim
    (λ (l : j < n). cut_in z n f j l ∙ h j l ∙ sym (cut_in z n g j l))
    (λ (l : n ≤ j). cut_past z n f j l ∙ sym (cut_past z n g j l))
    (ℕ_cases j n)

-- the same with a count on either side
pub entry_same : {A : Type 0} (z : A) {n m : ℕ} (f g : ℕ → A) → n ≡ m → ((j : ℕ) → j < n → f j ≡ g j) → (k : ℕ) → entry z n f k ≡ entry z m g k
entry_same z {n} f g e h k = rw (← e) (entry_cong z n f g h k)

-- entries are those of their own values, and entries that are all z are z at every index
pub entry_own : {A : Type 0} (z : A) (n : ℕ) (f : ℕ → A) → entry z n f ≡ entry z n (λ k. entry z n f (1 + k))
entry_own z n f = fun_ext (entry_cong z n f _ (λ k l. sym (entry_at z n f k l)))

pub entry_none : {A : Type 0} (z : A) (n : ℕ) → (λ (k : ℕ). z) ≡ entry z n (λ k. z)
entry_none z n = sym (fun_ext (entry_each z n (λ k. z) (λ a. a ≡ z) refl (λ k l. refl)))

-- a function that is z outside 1 to n, in an array: read by index, the array is the function
pub table_held : {A : Type 0} (z : A) (f : ℕ → A) {n m : ℕ} → n ≤ m → f 0 ≡ z → ((k : ℕ) → n < k → f k ≡ z) → (k : ℕ) → nth z (table m n (λ k. f (1 + k)) z) k ≡ f k
table_held {A} z f {n} {m} few before past k = nth_table z n (λ k. f (1 + k)) m few k ∙ go k
  where
    go : (k : ℕ) → entry z n (λ k. f (1 + k)) k ≡ f k
    go zero = entry_zero z n (λ k. f (1 + k)) ∙ sym before
    go (suc j) = ⊎_elim
        (λ (l : j < n). entry_in z n (λ k. f (1 + k)) j l ∙ ap f (one-add j))
        (λ (l : n ≤ j). entry_past z n (λ k. f (1 + k)) j l ∙ sym (past (suc j) (omega arith)))
        (ℕ_cases j n)
