-- An array that is written over from its front on: one part after the other, and rows of thirty.
use mathlib.Core.Path.{◌≡◌, refl, sym, ap, ◌∙◌}
use mathlib.Core.List.{List, [], ◌∷◌, ◌++◌}
use Prim.Native.Nat.{ℕ, ◌+◌, ◌*◌, ◌≤◌, ◌<◌}
use native.Mathlib.Numerals.{add-one}
use native.Mathlib.Omega.{arith}
use borrow.Rule.Slice.PartMut.{put_mid}
use mathlib.Core.Logic.{⊎_elim}
use lib.ListN.{length, get_or, set, take, length-set}
use lib.Seq.{paste, length-paste, take-paste, take_all, ext_get_or}
use Rattle.std.proofs.lemmas.List.{take_more_set}
use Rattle.std.proofs.lemmas.Slice.{put_mid-paste}
use Rattle.std.proofs.lemmas.List.{get_or-set_other}
use Rattle.std.proofs.lemmas.Grind.{get_or-set_at}
use Rattle.whole.specs.Table.{table}
use Rattle.whole.proofs.Laws.{ℕ_cases}
use Rattle.whole.proofs.Table.{length_table, table_at}
use Rattle.plan.specs.declared.Pattern.{Pattern}
use Rattle.arrays.specs.Arrays.{joined, of_each}

module _ {A : Type 0} where
  -- an array l of `size` places begins with the n values xs
  pub record Front (size : ℕ) (l : List A) (n : ℕ) (xs : List A) : Type 0 where
    pub long : length l ≡ size
    pub is : take n l ≡ xs

  pub front_none : {size : ℕ} {l : List A} → length l ≡ size → Front size l 0 []
  front_none long = record { long = long; is = refl }

  -- m values more
  pub front_paste : {size n m : ℕ} {l l' xs : List A} (ys : List A) → Front size l n xs → n + m ≤ size → length ys ≡ m → l' ≡ paste l n ys m → Front size l' (n + m) (xs ++ ys)
  front_paste {n = n} {m} {l} ys f fits few e =
      let long = f.long in
      let whole : take m ys ≡ ys = take_all m ys (omega arith) in
      record {
        long = ap length e ∙ length-paste l n ys m (omega arith) (omega arith) ∙ long;
        is = rw (e, take-paste l n ys m (omega arith) (omega arith), whole, f.is);
      }

  -- the same as a slice of m places that is written over with zs, which is ys
  pub front_part : {size n m : ℕ} {l xs zs : List A} (ys : List A) → Front size l n xs → n + m ≤ size → length ys ≡ m → zs ≡ ys → Front size (put_mid n m l zs) (n + m) (xs ++ ys)
  front_part {n = n} {m} {l} {zs = zs} ys f fits few e = front_paste ys f fits few (put_mid-paste n m l zs ys m e refl (sym few))

  -- one value more
  pub front_set : {size n : ℕ} {l xs : List A} (x : A) → Front size l n xs → n < size → Front size (set l n x) (n + 1) (xs ++ x ∷ [])
  front_set {n = n} {l} {xs} x f fits =
      let long = f.long in
      record { long = length-set l n x ∙ long; is = take_more_set l n x (omega arith) ∙ ap (λ (front : List A). front ++ x ∷ []) f.is }

  -- they fill it up
  pub front_all : {size : ℕ} {l xs : List A} → Front size l size xs → l ≡ xs
  front_all {size} {l} f = let long = f.long in sym (take_all size l (omega arith)) ∙ f.is

  -- how many are made of 64 patterns
  pub length_each : (f : Pattern → A) (none : A) (rows : List Pattern) → length (of_each f none rows) ≡ 64
  unfolding of_each
  length_each f none rows = length_table 64 64 _ none (omega arith)

  -- an array that begins with the first j of n rows
  pub record Joining (size n : ℕ) (row : ℕ → List A) (l : List A) (j : ℕ) : Type 0 where
    pub upto : j ≤ n
    pub front : Front size l (30 * j) (joined j row)

  module _ {size n : ℕ} {row : ℕ → List A} where
    pub join_start : {l : List A} → length l ≡ size → Joining size n row l 0
    unfolding joined
    join_start long = record { upto = omega arith; front = front_none long }

    pub join_turn : {l l' : List A} {j : ℕ} → 30 * n ≤ size → j < n → Joining size n row l j → length (row j) ≡ 30 → l' ≡ paste l (30 * j) (row j) 30 → Joining size n row l' (j + 1)
    unfolding joined
    join_turn {j = j} fits h s few e =
        let next : 30 * (j + 1) ≡ 30 * j + 30 = omega arith in
        record { upto = omega arith; front = rw (next, add-one) (front_paste (row j) s.front (omega arith) few e) }

    pub join_end : {l : List A} {j : ℕ} → n ≤ j → Joining size n row l j → Front size l (30 * n) (joined n row)
    join_end {l} {j} h s = let e : j ≡ n = omega (arith, s.upto) in rw e at s.front

  -- an array of `size` places whose first t are filled in with f
  pub record Filled (size : ℕ) (f : ℕ → A) (l : List A) (t : ℕ) : Type 0 where
    pub long : length l ≡ size
    pub each : (k : ℕ) (d : A) → k < t → get_or l k d ≡ f k

  module _ {size : ℕ} {f : ℕ → A} where
    pub filled_start : {l : List A} → length l ≡ size → Filled size f l 0
    filled_start long = record { long = long; each = λ k d h. absurd (omega (arith, h)) }

    pub filled_turn : {l : List A} {t : ℕ} {x : A} → t < size → Filled size f l t → x ≡ f t → Filled size f (set l t x) (t + 1)
    filled_turn {l} {t} {x} h s e =
        let long = s.long in
        record {
          long = length-set l t x ∙ long;
          each = λ k d m. ⊎_elim
              (λ (n : k < t). get_or-set_other l t k x d (λ same. omega (arith, same, n)) ∙ s.each k d n)
              (λ (n : t ≤ k). let same : k ≡ t = omega (arith, n, m) in get_or-set_at l t k x d same (omega (arith, long, h)) ∙ e ∙ ap f (sym same))
              (ℕ_cases k t);
        }

    pub filled_end : {l : List A} {t : ℕ} (none : A) → size ≤ t → Filled size f l t → l ≡ table size size f none
    filled_end {l} none all s =
        let long = s.long in
        ext_get_or none l _ (long ∙ sym (length_table size size f none (omega arith)))
        (λ k h. let m : k < size = omega (arith, long, h) in s.each k none (omega (arith, m, all)) ∙ sym (table_at size size f none none k m (omega arith)))
