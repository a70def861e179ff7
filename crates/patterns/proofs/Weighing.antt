-- The loop of a weighted sum: n amounts x within the limit, each times its part p, where the parts come to at most 1,000,000.
-- Every sum on the way then fits a machine's word. What is left of the allocation at the horizon is such a sum.
use mathlib.Core.Path.{◌≡◌, refl, sym, ap, ap₂, ◌∙◌}
use mathlib.Core.List.{List, [], ◌∷◌}
use Prim.Native.Nat.{ℕ, zero, suc, ◌+◌, ◌-◌, ◌*◌, ◌≤◌, ◌<◌}
use native.Mathlib.Nat.{le_trans}
use native.Mathlib.Omega.{arith}
use lib.ListN.{length, get_or, get_or-eq_default, take}
use Rattle.std.specs.Prelude.{Option, Some, None, is_some, map}
use Rattle.std.proofs.lemmas.List.{length-take, get_or-take}
use lib.IntN.{ℤ, pos, ◌+ℤ◌, ◌*ℤ◌, zero-*ℤ}
use mir.Syntax.{w64}
use mir.Val.{SFits}
use Rattle.whole.specs.Range.{million, limit, Within}
use Rattle.whole.specs.Floor.{floor}
use Rattle.whole.specs.Sum.{sum, sum_ℕ}
use Rattle.whole.specs.Table.{table}
use Rattle.whole.specs.Test.{pick}
use Rattle.whole.proofs.Bridge.{same, #, ◌⊕◌}
use Rattle.whole.proofs.Range.{within_pos, within_mul, within_fits}
use Rattle.whole.specs.Entry.{entry}
use Rattle.whole.proofs.Entry.{entry_at, entry_each, cut_past, table_cut}
use Rattle.whole.proofs.Table.{table_at}
use Rattle.whole.proofs.Sum.{Σℤ_from, sum_none, sum_zeros, sum_more, sum_split, sum_cong, sum_within_parts, sum_ℕ_one, sum_ℕ_more, sum_ℕ_past, sum_ℕ_cong}
use Rattle.reckoning.specs.Reckoning.{left}
use Rattle.plan.specs.Held.{amounts_in}
use Rattle.plan.proofs.Held.{held_at}
use Rattle.patterns.specs.Pattern.{Shared, exact_left_of, left_of}
use Rattle.patterns.specs.Prepared.{Parts}
use Rattle.patterns.specs.Arrays.{shared_in, left_with, left_in, Weighable}
use Rattle.patterns.specs.declared.common.Common.{Common}

-- what is left of costs that are 0, of any allocation
pub no_left : (n : ℕ) {cost : ℕ → ℤ} (p : ℕ → ℕ) → ((j : ℕ) → cost j ≡ pos 0) → left n cost p ≡ pos 0
unfolding left
no_left n {cost} p none = sum_zeros (suc n - 1) _ (λ j l. ap (λ (z : ℤ). z *ℤ pos (p (1 + j))) (none (1 + j)) ∙ zero-*ℤ (pos (p (1 + j))))

-- what n amounts weigh, each by its part
abbrev pub weighed_by : (p : List ℕ) (n : ℕ) (x : List ℤ) → ℤ
weighed_by p n x = sum n (λ j. get_or x j (pos 0) *ℤ pos (get_or p j 0))

-- what stands in column k of some rows
abbrev pub column : (rows : List (List ℤ)) (k : ℕ) → List ℤ
column rows k = map (λ (row : List ℤ). get_or row k (pos 0)) rows

pub column_at : (rows : List (List ℤ)) (k j : ℕ) → get_or (column rows k) j (pos 0) ≡ get_or (get_or rows j []) k (pos 0)
column_at [] k j = refl
column_at (x ∷ xs) k zero = refl
column_at (x ∷ xs) k (suc j) = column_at xs k j

pub column_weighs : (rows : List (List ℤ)) (k n : ℕ) (p : List ℕ) → sum n (λ j. get_or (get_or rows j []) k (pos 0) *ℤ pos (get_or p j 0)) ≡ weighed_by p n (column rows k)
column_weighs rows k n p = sum_cong n _ _ (λ j l. ap (λ (z : ℤ). z *ℤ pos (get_or p j 0)) (sym (column_at rows k j)))

-- s is the sum of the first j
pub record Weighing (n : ℕ) (x : List ℤ) (p : List ℕ) (s : ℤ) (j : ℕ) : Type 0 where
  pub upto : j ≤ n
  pub is : s ≡ weighed_by p j x

pub weigh_start : (n : ℕ) (x : List ℤ) (p : List ℕ) → Weighing n x p (pos 0) 0
weigh_start n x p = record { upto = omega arith; is = sym (sum_none (λ j. get_or x j (pos 0) *ℤ pos (get_or p j 0))) }

pub weigh_end : {n : ℕ} {x : List ℤ} {p : List ℕ} {s : ℤ} {j : ℕ} → n ≤ j → Weighing n x p s j → s ≡ weighed_by p n x
weigh_end {n} {j = j} l a = let e : j ≡ n = omega (arith, a.upto) in rw e at a.is

module _ {n : ℕ} {x : List ℤ} {p : List ℕ} (w : Weighable n x p) where
  sum_within : (j : ℕ) → j ≤ n → Within (limit * million) (weighed_by p j x)
  sum_within j l = sum_within_parts j limit million (λ j. get_or x j (pos 0)) (λ j. get_or p j 0) (λ m b. w.amount m (omega arith)) (le_trans (sum_ℕ_more j n (λ j. get_or p j 0) l) w.parts)

  pub weighted_within : {z : ℤ} → z ≡ weighed_by p n x → Within (limit * million) z
  weighted_within e = rw e (sum_within n (omega arith))

  -- a turn adds v times q, the amount at j and its part
  module _ {j : ℕ} (l : j < n) {v q : ℤ} (amount : v ≡ get_or x j (pos 0)) (part : q ≡ pos (get_or p j 0)) where
    pub product_fits : SFits w64 (v *ℤ q)
    product_fits = rw (amount, part) (within_fits {b = limit * million} (omega arith) (within_mul (w.amount j l) (within_pos (le_trans (sum_ℕ_one n (λ j. get_or p j 0) j l) w.parts))))

    module _ {s : ℤ} (a : Weighing n x p s j) where
      pub weigh_turn : Weighing n x p (s +ℤ v *ℤ q) (j + 1)
      weigh_turn = record { upto = omega arith; is = sum_more (λ j. get_or x j (pos 0) *ℤ pos (get_or p j 0)) j a.is (ap₂ ◌*ℤ◌ amount part) }

      pub sum_fits : SFits w64 (s +ℤ v *ℤ q)
      sum_fits = rw weigh_turn.is (within_fits (omega arith) (sum_within (j + 1) (omega arith)))

-- a sum to m whose terms from n on are 0
pub sum_upto : (n m : ℕ) (g : ℕ → ℤ) → n ≤ m → ((j : ℕ) → n ≤ j → j < m → g j ≡ pos 0) → sum n g ≡ sum m g
sum_upto n m g few none =
    let e : n + (m - n) ≡ m = omega arith in
    same (# (sum n g)) (# (sum n g) ⊕ # (pos 0)) (omega arith)
    ∙ ap (λ (z : ℤ). sum n g +ℤ z) (sym (sum_zeros (m - n) (λ k. g (n + k)) (λ k l. none (n + k) (omega arith) (omega arith))))
    ∙ sym (sum_split n (m - n) g) ∙ ap (λ (k : ℕ). sum k g) e

-- the first n amounts alone
module _ {n : ℕ} {x : List ℤ} {p : List ℕ} (w : Weighable n x p) where
  abbrev k : ℕ
  k = length (take n x)

  pub taken : Weighable k (take n x) p
  taken =
      let short = length-take n x in
      record {
        few = omega (arith, short, w.few);
        amount = λ j h. rw (get_or-take n x j (pos 0) (omega (arith, h, short))) (w.amount j (omega (arith, h, short)));
        parts = le_trans (sum_ℕ_more k n (λ j. get_or p j 0) (omega (arith, short))) w.parts;
      }

  pub weighed_taken : weighed_by p k (take n x) ≡ weighed_by p n x
  weighed_taken =
      let short = length-take n x in
      sum_cong k _ _ (λ j h. ap (λ (x : ℤ). x *ℤ pos (get_or p j 0)) (get_or-take n x j (pos 0) (omega (arith, h, short))))
      ∙ sum_upto k n _ (omega (arith, short)) (λ j l h. ap (λ (x : ℤ). x *ℤ pos (get_or p j 0)) (get_or-eq_default x (pos 0) (omega (arith, l, h, short))) ∙ zero-*ℤ (pos (get_or p j 0)))

-- sixteen parts of at most 1,000,000 together, and n of them
pub parts_first : (p : List ℕ) (n : ℕ) → n ≤ 16 → Parts 16 p → Parts n p
parts_first p n few parts = le_trans (sum_ℕ_more n 16 (λ j. get_or p j 0) few) parts

-- n parts of at most as many, and zeros past them
pub parts_table : (n : ℕ) (f : ℕ → ℕ) → n ≤ 16 → sum_ℕ n f ≤ million → Parts 16 (table 16 n f 0)
parts_table n f few parts =
    let all : 16 ≡ n + (16 - n) = omega arith in
    let part : ℕ → ℕ = λ j. get_or (table 16 n f 0) j 0 in
    let past : (j : ℕ) → n ≤ j → part j ≡ 0 = λ j h. table_cut 0 n f 16 few j ∙ cut_past 0 n f j h in
    rw (ap (λ (m : ℕ). sum_ℕ m part) all ∙ sum_ℕ_past n (16 - n) part past ∙ sum_ℕ_cong n part f (λ j h. table_at 16 n f 0 0 j h few)) parts

-- ---- what is left of costs, held or not: the weighted sum, in whole amounts, of any amounts that are these, 0 where none is held
left_by : (cost : Option (List ℤ)) (n : ℕ) (shares : List ℕ) (costs : List ℤ) → ((j : ℕ) → j < n → get_or costs j (pos 0) ≡ get_or (amounts_in cost) j (pos 0))
    → floor (weighed_by shares n costs) million ≡ left_with cost n shares
unfolding left
left_by cost n shares costs same = sym (ap (λ (z : ℤ). floor z million)
    (Σℤ_from 1 n n (λ j. entry (pos 0) (pick (is_some cost) n 0) (λ j. get_or (amounts_in cost) j (pos 0)) j *ℤ pos (entry 0 n (λ j. get_or shares j 0) j)) _ (omega arith)
    (λ j h. ap₂ (λ (x : ℤ) (p : ℕ). x *ℤ pos p) (held_at cost n j h ∙ sym (same j h)) (entry_at 0 n (λ j. get_or shares j 0) j h))))

-- of costs that are held
pub left_some : (costs : List ℤ) (n : ℕ) (shares : List ℕ) → floor (weighed_by shares n costs) million ≡ left_with (Some costs) n shares
left_some costs n shares = left_by (Some costs) n shares costs (λ j h. refl)

-- nothing where no cost is held
pub left_none : (n : ℕ) (shares : List ℕ) → pos 0 ≡ left_with None n shares
unfolding floor
left_none n shares = sym (ap (λ (z : ℤ). floor z million) (no_left n (entry 0 n (λ j. get_or shares j 0)) (entry_each (pos 0) 0 _ (λ (z : ℤ). z ≡ pos 0) refl (λ j h. absurd (omega arith)))))

-- ---- of what all patterns share
module _ (c : Common) (shares : List ℕ) where
  abbrev S : Shared
  S = shared_in c shares

  pub part_at : (j : ℕ) → j < c.instruments → S.p (1 + j) ≡ get_or shares j 0
  part_at = entry_at 0 c.instruments (λ j. get_or shares j 0)

  pub cost_at : (j : ℕ) → j < c.instruments → S.cost (1 + j) ≡ get_or (amounts_in c.cost) j (pos 0)
  cost_at = held_at c.cost c.instruments

  -- any amounts that are the instruments' costs
  module _ (costs : List ℤ) (same : (j : ℕ) → j < c.instruments → get_or costs j (pos 0) ≡ get_or (amounts_in c.cost) j (pos 0)) where
    pub cost_weighable : Parts c.instruments shares → Weighable c.instruments costs shares
    cost_weighable parts = record { few = c.prepared.few; amount = λ j h. rw (same j h) (c.prepared.costs j h); parts = parts }

    pub left_is : floor (weighed_by shares c.instruments costs) million ≡ left_in c shares
    unfolding left_of exact_left_of
    left_is = left_by c.cost c.instruments shares costs same

  -- any that are their payments in year 1 + k
  pub column_weighable : Parts c.instruments shares → (k : ℕ) → k < 30 → (x : List ℤ)
      → ((j : ℕ) → j < c.instruments → get_or x j (pos 0) ≡ get_or (get_or c.payments j []) k (pos 0)) → Weighable c.instruments x shares
  column_weighable parts k few x is = record { few = c.prepared.few; amount = λ j h. rw (is j h) ((c.prepared.payments j h).amount k few); parts = parts }
