-- The lists of rates: what the code tests in an array is what the checks say of its rates, and an array that is filled from a list has
-- the list's rates.
use mathlib.Core.Path.{◌≡◌, sym, ap, ◌∙◌, fun_ext}
use mathlib.Core.Bool.{Bool, true, false}
use mathlib.Core.Logic.{⊎_elim}
use mathlib.Core.List.{List}
use Prim.Native.Nat.{ℕ, ◌+◌, ◌-◌, ◌≤◌, ◌<◌}
use native.Mathlib.Omega.{arith}
use borrow.Author.Tests.{eq-eqb, ne_eqb}
use lib.Dec.{eqb}
use lib.ListN.{length, get_or}
use lib.IntN.{ℤ, pos}
use lib.Signed.{le_z}
use Rattle.std.specs.Bool.{MatchBool}
use Rattle.std.specs.List.{AllWithin, HoldsAt, zip}
use Rattle.std.proofs.lemmas.Slice.Zip.{length-zip, get_or-zip}
use Rattle.whole.specs.Test.{all, is_between}
use Rattle.whole.specs.Table.{table}
use Rattle.whole.specs.Entry.{nth}
use Rattle.whole.proofs.Bridge.{whole}
use Rattle.whole.proofs.Laws.{ℕ_cases}
use Rattle.whole.proofs.Test.{all_at, all_cong, all_yes, all_fails, both_not, between_fact}
use Rattle.whole.proofs.Entry.{nth_outside, table_held}
use Rattle.whole.proofs.Table.{table_at, table_past, table_cong}
use Rattle.reckoning.specs.Arrays.{rates_of, amounts_of, Rates}
use Rattle.reckoning.proofs.Pattern.{rate_at, amount_at}
use Rattle.plan.specs.Refusal.{top}
use Rattle.cash.specs.Call.{lengths_refusal, list_ok, is_in_order, lists_refusal}

-- ---- a chain's `all` over a list is the test of each of its places
pub all_of : {A : Type 0} (xs : List A) (d : A) (p : A → Bool) (r : Bool)
    → MatchBool r (AllWithin (λ x. p x ≡ true) xs 0 (length xs)) ((k : ℕ) × (k < length xs) × HoldsAt (λ x. p x ≡ false) xs k)
    → r ≡ all (length xs) (λ k. p (get_or xs k d))
all_of xs d p true h = sym (all_yes (length xs) _ (λ k l. h k d (omega arith) l))
all_of xs d p false h = sym (all_fails (length xs) _ h.0 h.1 (h.2 d))

-- and over two lists of one length
pub all_of_two : (xs ys : List ℤ) (p : ℤ → ℤ → Bool) → length xs ≡ length ys
    → all (length (zip xs ys)) (λ k. let z = get_or (zip xs ys) k (pos 0, pos 0) in p z.0 z.1) ≡ all (length xs) (λ k. p (get_or xs k (pos 0)) (get_or ys k (pos 0)))
all_of_two xs ys p e =
    let n : length (zip xs ys) ≡ length xs = length-zip xs ys ∙ omega (arith, e) in
    ap (λ (n : ℕ). all n (λ k. let z = get_or (zip xs ys) k (pos 0, pos 0) in p z.0 z.1)) n
    ∙ all_cong (length xs) _ _ (λ k l. ap (λ (z : ℤ × ℤ). p z.0 z.1) (get_or-zip xs ys k (pos 0, pos 0) l (omega (arith, e))))

one_less : (n : ℕ) → n + 1 - 1 ≡ n
one_less n = omega arith

-- what is tested of the rates of years 2 to N, and of a list that has just these
pub list_ok_law : (N : ℕ) (rates : List ℤ) → all (N - 1) (λ l. is_between (pos 0) (pos top) (get_or rates l (pos 0))) ≡ list_ok N (rates_of rates)
unfolding list_ok
list_ok_law N rates = all_cong (N - 1) _ _ (λ l k. ap (is_between (pos 0) (pos top)) (sym (rate_at rates l)))

pub list_ok_of : (list : List ℤ) → all (length list) (λ l. is_between (pos 0) (pos top) (get_or list l (pos 0))) ≡ list_ok (length list + 1) (rates_of list)
list_ok_of list =
    ap (λ (n : ℕ). all n (λ l. is_between (pos 0) (pos top) (get_or list l (pos 0)))) (sym (one_less (length list)))
    ∙ list_ok_law (length list + 1) list

pub in_order : (N : ℕ) (lending borrowing : List ℤ) → all (N - 1) (λ l. le_z (get_or lending l (pos 0)) (get_or borrowing l (pos 0))) ≡ is_in_order N (rates_of lending) (rates_of borrowing)
unfolding is_in_order
in_order N lending borrowing = all_cong (N - 1) _ _ (λ l k. sym (rw (rate_at lending l, rate_at borrowing l)))

pub in_order_of : (lending borrowing : List ℤ) → all (length lending) (λ l. le_z (get_or lending l (pos 0)) (get_or borrowing l (pos 0))) ≡ is_in_order (length lending + 1) (rates_of lending) (rates_of borrowing)
in_order_of lending borrowing =
    ap (λ (n : ℕ). all n (λ l. le_z (get_or lending l (pos 0)) (get_or borrowing l (pos 0)))) (sym (one_less (length lending)))
    ∙ in_order (length lending + 1) lending borrowing

-- of a list of n rates
pub rates_held : (list : List ℤ) (n : ℕ) → n ≤ 30 → length list ≡ n → rates_of (table 30 n (λ l. get_or list l (pos 0)) (pos 0)) ≡ rates_of list
unfolding rates_of amounts_of
rates_held list n few long =
    let outside : (k : ℕ) → (0 < k → n < k) → nth (pos 0) list k ≡ pos 0 = λ k h. nth_outside (pos 0) list k (λ l. omega (arith, h l)) in
    fun_ext (λ t.
    ap (λ (v : List ℤ). nth (pos 0) v (t - 1)) (table_cong 30 n _ (λ l. nth (pos 0) list (1 + l)) (pos 0) (λ l h. sym (amount_at list l)))
    ∙ table_held (pos 0) (nth (pos 0) list) few (outside 0 (λ l. absurd (omega arith))) (λ k h. outside k (λ l. h)) (t - 1))

-- rates that check 8 takes, with zeros past them, can be reckoned with
pub rates_ready : (list : List ℤ) {v : List ℤ} → list_ok (length list + 1) (rates_of list) ≡ true → v ≡ table 30 (length list) (λ l. get_or list l (pos 0)) (pos 0) → length list ≤ 30 → Rates v
unfolding list_ok
rates_ready list {v} ok e few = rw e (record {
  rate = λ k b. ⊎_elim
      (λ (l : k < length list). rw (table_at 30 (length list) (λ l. get_or list l (pos 0)) (pos 0) (pos 0) k l few)
      (let b = rw rate_at at (between_fact _ _ _ (all_at (length list) _ k l (rw one_less at ok))) in omega (whole, b)))
      (λ (l : length list ≤ k). rw (table_past 30 (length list) (λ l. get_or list l (pos 0)) (pos 0) (pos 0) k l b) (omega whole))
      (ℕ_cases k (length list));
})

-- ---- what the checks refuse
module _ (N : ℕ) (lending borrowing : List ℤ) where
  pub lengths_first : (length lending ≡ N - 1 → ⊥) → 5 ≡ lengths_refusal N lending borrowing
  unfolding lengths_refusal
  lengths_first h = rw (ne_eqb (length lending) (N - 1) h)

  pub lengths_second : (length borrowing ≡ N - 1 → ⊥) → 5 ≡ lengths_refusal N lending borrowing
  unfolding lengths_refusal
  lengths_second h = rw (ne_eqb (length borrowing) (N - 1) h, both_not (eqb (length lending) (N - 1)))

  pub lengths_none : length lending ≡ N - 1 → length borrowing ≡ N - 1 → 0 ≡ lengths_refusal N lending borrowing
  unfolding lengths_refusal
  lengths_none e f = rw (eq-eqb (length lending) (N - 1) e, eq-eqb (length borrowing) (N - 1) f)

module _ (N : ℕ) (lending borrowing : ℕ → ℤ) where
  pub lending_refused : list_ok N lending ≡ false → 8 ≡ lists_refusal N lending borrowing
  unfolding lists_refusal
  lending_refused e = rw e

  pub borrowing_refused : list_ok N borrowing ≡ false → 8 ≡ lists_refusal N lending borrowing
  unfolding lists_refusal
  borrowing_refused e = rw (e, both_not (list_ok N lending))

  module _ (l : list_ok N lending ≡ true) (b : list_ok N borrowing ≡ true) where
    pub order_refused : is_in_order N lending borrowing ≡ false → 14 ≡ lists_refusal N lending borrowing
    unfolding lists_refusal
    order_refused e = rw (l, b, e)

    pub lists_taken : is_in_order N lending borrowing ≡ true → 0 ≡ lists_refusal N lending borrowing
    unfolding lists_refusal
    lists_taken e = rw (l, b, e)
