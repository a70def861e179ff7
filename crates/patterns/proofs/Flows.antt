-- The allocation's flow: of payments and parts as those of a plan, and of what the code prepares.
use mathlib.Core.Path.{◌≡◌, refl, sym, ap, ap₂, ◌∙◌, fun_ext}
use mathlib.Core.List.{List, []}
use Prim.Native.Nat.{ℕ, suc, ◌+◌, ◌-◌, ◌*◌, ◌<◌}
use native.Mathlib.Nat.{le_of_eq, le_trans}
use native.Mathlib.Omega.{arith}
use lib.ListN.{get_or}
use lib.IntN.{ℤ, pos, ◌+ℤ◌, ◌*ℤ◌, zero-*ℤ}
use Rattle.whole.specs.Range.{million, limit, Within}
use Rattle.whole.specs.Floor.{floor}
use Rattle.whole.specs.Entry.{nth, entry}
use Rattle.whole.proofs.Range.{within_more, within_add, within_pos}
use Rattle.whole.proofs.Floor.{floor_within}
use Rattle.whole.proofs.Sum.{Σℤ_from, Σℕ_from, sum_zeros, sum_within_parts}
use Rattle.whole.proofs.Table.{table_each}
use Rattle.whole.proofs.Entry.{entry_at, entry_each, table_held}
use Rattle.reckoning.specs.Reckoning.{paid, flow}
use Rattle.reckoning.specs.Arrays.{amounts_of, Amounts}
use Rattle.reckoning.proofs.Pattern.{amount_at}
use Rattle.plan.specs.Refusal.{most}
use Rattle.patterns.specs.Pattern.{Shared, flow_of}
use Rattle.patterns.specs.Prepared.{Parts}
use Rattle.patterns.specs.Arrays.{shared_in, flow_array, Allocated}
use Rattle.patterns.specs.declared.common.Common.{Common}
use Rattle.patterns.proofs.Weighing.{weighed_by, part_at}

-- ---- what is prepared of a plan: payments of which each is within the most that one may be, and a flow of Q within twice as much
module _ (n : ℕ) (payments : List (List ℤ)) (constant : ℕ → ℤ) (shares : List ℕ) where
  abbrev a : (k j : ℕ) → ℤ
  a k = entry (pos 0) n (λ j. amounts_of (get_or payments j []) k)

  abbrev p : (j : ℕ) → ℕ
  p = entry 0 n (λ j. get_or shares j 0)

  -- the parts come to at most 1,000,000, so the instruments together pay within the most that one may
  paid_most : Parts n shares → (k : ℕ) → ((j : ℕ) → j < n → Within most (amounts_of (get_or payments j []) k)) → Within (most * million) (paid n a p k)
  unfolding paid
  paid_most parts k most_each = sum_within_parts (suc n - 1) most million (λ j. a k (1 + j)) (λ j. p (1 + j))
      (λ j l. rw (entry_at (pos 0) n (λ j. amounts_of (get_or payments j []) k) j (omega arith)) (most_each j (omega arith)))
      (le_trans (le_of_eq (Σℕ_from 1 n n p _ (omega arith) (entry_at 0 n (λ j. get_or shares j 0)))) parts)

  pub flow_most : Parts n shares → (k : ℕ) → ((j : ℕ) → j < n → Within most (amounts_of (get_or payments j []) k)) → Within (most + most) (constant k) → Within limit (flow n a constant p k)
  unfolding flow
  flow_most parts k most_each constant_most = within_more (omega arith) (within_add (floor_within most {m = million} (omega arith) (paid_most parts k most_each)) constant_most)

  pub flow_none : (k : ℕ) → ((j : ℕ) → j < n → amounts_of (get_or payments j []) k ≡ pos 0) → constant k ≡ pos 0 → flow n a constant p k ≡ pos 0
  unfolding flow paid floor
  flow_none k none e = ap₂ (λ (s c : ℤ). floor s million +ℤ c)
      (sum_zeros (suc n - 1) _ (λ j l. ap (λ (z : ℤ). z *ℤ pos (p (1 + j))) (entry_each (pos 0) n _ (λ (z : ℤ). z ≡ pos 0) refl none (1 + j)) ∙ zero-*ℤ (pos (p (1 + j)))))
      e

-- ---- of the code's record of it
module _ (c : Common) (shares : List ℕ) where
  abbrev S : Shared
  S = shared_in c shares

  -- row j as a flow
  pub row_flow : (j : ℕ) → j < c.instruments → (k : ℕ) → S.a k (1 + j) ≡ amounts_of (get_or c.payments j []) k
  row_flow j h k = entry_at (pos 0) c.instruments (λ j. amounts_of (get_or c.payments j []) k) j h

  -- one that is 0 past year N is what its array holds
  pub flow_held_law : ((k : ℕ) → c.rollover.horizon.years < k → flow_of S k ≡ pos 0) → amounts_of (flow_array S) ≡ flow_of S
  unfolding flow_of amounts_of nth flow_array
  flow_held_law past = fun_ext (table_held (pos 0) (flow_of S) c.rollover.horizon.held.few (flow_none c.instruments c.payments (amounts_of c.constant.amounts) shares 0 (λ j h. refl) refl) past)

  pub flow_fit : Allocated c shares → Amounts (flow_array S)
  unfolding flow_array
  flow_fit a = record {
    amount = table_each (Within limit) 30 c.rollover.horizon.years (λ k. flow_of S (1 + k)) (pos 0) (pos 0) c.rollover.horizon.held.few (within_pos (omega arith)) (λ k h. a.flow (1 + k));
  }

  -- ---- the flow in year 1 + k: the weighted sum of a column of the payments, in whole amounts, and the flow of Q
  module _ (k : ℕ) (x : List ℤ) (is : (j : ℕ) → j < c.instruments → get_or x j (pos 0) ≡ get_or (get_or c.payments j []) k (pos 0)) where
    column_paid : weighed_by shares c.instruments x ≡ paid c.instruments S.a S.p (1 + k)
    unfolding paid
    column_paid = sym (Σℤ_from 1 c.instruments c.instruments (λ j. S.a (1 + k) j *ℤ pos (S.p j)) _ (omega arith) (λ j h.
        ap₂ (λ (x : ℤ) (p : ℕ). x *ℤ pos p) (row_flow j h (1 + k) ∙ amount_at (get_or c.payments j []) k ∙ sym (is j h)) (part_at c shares j h)))

    pub flow_is : floor (weighed_by shares c.instruments x) million +ℤ get_or c.constant.amounts k (pos 0) ≡ flow_of S (1 + k)
    unfolding flow_of flow
    flow_is = ap₂ (λ (s x : ℤ). floor s million +ℤ x) column_paid (sym (amount_at c.constant.amounts k))
