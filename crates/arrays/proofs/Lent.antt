-- What stands at places that play no part is not held.
use mathlib.Core.Path.{◌≡◌, refl, sym, ap, ◌∙◌, fun_ext}
use mathlib.Core.Bool.{Bool, true, false}
use mathlib.Core.List.{List, []}
use mathlib.Core.Logic.{⊎_elim}
use Prim.Native.Nat.{ℕ, ◌+◌, ◌-◌, ◌*◌, ◌≤◌, ◌<◌}
use native.Mathlib.Omega.{arith}
use lib.IntN.{ℤ, pos}
use Rattle.std.proofs.Math.Nat.{min-le_left}
use lib.ListN.{length, get_or, take, drop, get_or-eq_default}
use Rattle.std.proofs.lemmas.List.{get_or-take, get_or-drop, length-take}
use Rattle.std.specs.Bool.{then_some}
use Rattle.std.specs.Prelude.{is_some}
use Rattle.whole.specs.Test.{pick}
use Rattle.whole.specs.Entry.{entry}
use Rattle.whole.specs.Table.{table}
use Rattle.whole.proofs.Laws.{ℕ_cases}
use Rattle.whole.proofs.Entry.{entry_cong}
use Rattle.whole.proofs.Table.{table_at, length_table}
use Rattle.plan.specs.declared.Pattern.{Pattern}
use Rattle.plan.specs.declared.Pattern.TheVariants.{Rates, Slope}
use Rattle.plan.specs.Held.{unheld_instrument, unheld_pattern, instrument_held, pattern_held, missing_pattern, amounts_in, shape_of, instruments_held, outflows_held, rollover_held, patterns_held, allocation_held, opening_held, cost_held, no_instrument, no_pattern}
use Rattle.plan.specs.Numbers.{numbers}
use Rattle.plan.proofs.Held.{opening_none, cost_none}
use Rattle.arrays.specs.Arrays.{values_at, byte_of, outflows_from, opening_from, cost_from, allocation_from, sloped_from, until_from, start_from, step_from, instruments_of, pattern_of, patterns_of, plan_of_arrays}
use Rattle.arrays.specs.Lent.{Lent, plan_in, count_at, rate_at, opened_in, costed_in, sloped_in, Agree, ReadAlike, HeldAlike}

-- parts of two arrays that agree there
module _ {A : Type 0} (none : A) (places at : ℕ) (xs ys : List A) where
  part_at : (zs : List A) (k : ℕ) → k < places → get_or (values_at zs at places) k none ≡ get_or zs (at + k) none
  unfolding values_at
  part_at zs k h = get_or-take places (drop at zs) k none h ∙ get_or-drop at zs k none

  part_past : (zs : List A) (k : ℕ) → places ≤ k → get_or (values_at zs at places) k none ≡ none
  unfolding values_at
  part_past zs k h =
      let few = length-take places (drop at zs) in
      let least = min-le_left places (length (drop at zs)) in
      get_or-eq_default (take places (drop at zs)) none (omega (arith, few, least))

  part_same : {n : ℕ} → Agree none n places at xs ys → (k : ℕ) → k < n → get_or (values_at xs at places) k none ≡ get_or (values_at ys at places) k none
  part_same same k h = ⊎_elim
      (λ (l : k < places). part_at xs k l ∙ same k h l ∙ sym (part_at ys k l))
      (λ (l : places ≤ k). part_past xs k l ∙ sym (part_past ys k l))
      (ℕ_cases k places)

-- entries of two that agree below their number
entry_same : {A : Type 0} (z : A) (f g : ℕ → A) {n m : ℕ} → n ≡ m → ((k : ℕ) → k < n → f k ≡ g k) → entry z n f ≡ entry z m g
entry_same z f g {n} {m} e same = fun_ext (entry_cong z n f g same) ∙ ap (λ (n : ℕ). entry z n g) e

-- rows of two tables that agree below theirs, read at any place
row_same : {A : Type 0} (none missing : A) (places : ℕ) {n : ℕ} {f g : ℕ → A} {B : Type 0} (what what' : A → B) → what missing ≡ what' missing
    → ((k : ℕ) → k < n → k < places → what (f k) ≡ what' (g k))
    → (k : ℕ) → k < n → what (get_or (table places places f none) k missing) ≡ what' (get_or (table places places g none) k missing)
row_same none missing places {f = f} {g} what what' outside same k h = ⊎_elim
    (λ (l : k < places).
    let at = λ (f : ℕ → _). table_at places places f none missing k l (omega arith) in
    ap what (at f) ∙ same k h l ∙ sym (ap what' (at g)))
    (λ (l : places ≤ k).
    let past = λ (f : ℕ → _). get_or-eq_default (table places places f none) missing {n = k} (omega (arith, length_table places places f none (omega arith))) in
    ap what (past f) ∙ outside ∙ sym (ap what' (past g)))
    (ℕ_cases k places)

-- the amounts of a kind
kind_same : (xs ys : List ℤ) {n m : ℕ} {b c : Bool} → b ≡ c → n ≡ m → (b ≡ true → (k : ℕ) → k < n → get_or xs k (pos 0) ≡ get_or ys k (pos 0))
    → entry (pos 0) (pick (is_some (then_some b xs)) n 0) (λ k. get_or (amounts_in (then_some b xs)) k (pos 0))
    ≡ entry (pos 0) (pick (is_some (then_some c ys)) m 0) (λ k. get_or (amounts_in (then_some c ys)) k (pos 0))
kind_same xs ys {n} {m} {b} is few same = rw (← is) (go b same)
  where
    go : (b : Bool) → (b ≡ true → (k : ℕ) → k < n → get_or xs k (pos 0) ≡ get_or ys k (pos 0))
        → entry (pos 0) (pick (is_some (then_some b xs)) n 0) (λ k. get_or (amounts_in (then_some b xs)) k (pos 0))
        ≡ entry (pos 0) (pick (is_some (then_some b ys)) m 0) (λ k. get_or (amounts_in (then_some b ys)) k (pos 0))
    go true same = entry_same (pos 0) _ _ few (same refl)
    go false same = refl

some_is : {A : Type 0} (b : Bool) (x : A) → is_some (then_some b x) ≡ b
some_is true x = refl
some_is false x = refl

module _ (A B : Lent) (same : ReadAlike A B) where
  years : count_at A 0 ≡ count_at B 0
  years = same.head 0 (omega arith) (omega arith)

  instruments : count_at A 1 ≡ count_at B 1
  instruments = same.head 1 (omega arith) (omega arith)

  terms : count_at A 2 ≡ count_at B 2
  terms = same.head 2 (omega arith) (omega arith)

  patterns : count_at A 3 ≡ count_at B 3
  patterns = same.head 3 (omega arith) (omega arith)

  -- of fewer years by one there are fewer rates by one
  rated : count_at A 0 - 1 ≡ count_at B 0 - 1
  rated = ap (λ (n : ℕ). n - 1) years

  shape_same : shape_of (plan_in A) ≡ shape_of (plan_in B)
  unfolding plan_of_arrays
  shape_same =
      rw (some_is (opened_in A) (values_at A.amounts opening_from 30), some_is (opened_in B) (values_at B.amounts opening_from 30), some_is (costed_in A) (values_at A.amounts cost_from 16), some_is (costed_in B) (values_at B.amounts cost_from 16))
      (rw (years, instruments, terms, patterns, same.opened, same.costed) refl)

  instruments_same : instruments_held (plan_in A) ≡ instruments_held (plan_in B)
  unfolding instruments_held plan_of_arrays instruments_of
  instruments_same =
      entry_same unheld_instrument _ _ instruments (row_same no_instrument (record { payments = [] }) 16 (instrument_held (count_at A 0)) (instrument_held (count_at B 0)) (ap (λ (n : ℕ). instrument_held n (record { payments = [] })) years)
      (λ j h l. ap (λ (f : ℕ → ℤ). record { payment = f }) (entry_same (pos 0) _ _ years (part_same (pos 0) 30 (30 * j) A.amounts B.amounts (same.payments j h l)))))

  outflows_same : outflows_held (plan_in A) ≡ outflows_held (plan_in B)
  unfolding outflows_held plan_of_arrays
  outflows_same = entry_same (pos 0) _ _ years (part_same (pos 0) 30 outflows_from A.amounts B.amounts same.outflows)

  rollover_same : rollover_held (plan_in A) ≡ rollover_held (plan_in B)
  unfolding rollover_held plan_of_arrays
  rollover_same = entry_same 0 _ _ terms (part_same 0 30 0 A.shares B.shares same.rollover)

  allocation_same : allocation_held (plan_in A) ≡ allocation_held (plan_in B)
  unfolding allocation_held plan_of_arrays
  allocation_same = entry_same 0 _ _ instruments (part_same 0 16 allocation_from A.shares B.shares same.allocation)

  opening_same : opening_held (plan_in A) ≡ opening_held (plan_in B)
  unfolding opening_held plan_of_arrays
  opening_same = kind_same _ _ same.opened years (λ e. part_same (pos 0) 30 opening_from A.amounts B.amounts (same.opening e))

  cost_same : cost_held (plan_in A) ≡ cost_held (plan_in B)
  unfolding cost_held plan_of_arrays
  cost_same = kind_same _ _ same.costed instruments (λ e. part_same (pos 0) 16 cost_from A.amounts B.amounts (same.cost e))

  slope_at : Lent → (t : ℕ) → Pattern
  slope_at C t = Slope (rate_at C (start_from + t)) (rate_at C (step_from + t)) (byte_of (count_at C (until_from + t)))

  pattern_same : (t : ℕ) → t < count_at A 3 → t < 64 → pattern_held (count_at A 0) (pattern_of A.counts A.rates t) ≡ pattern_held (count_at B 0) (pattern_of B.counts B.rates t)
  unfolding slope_at
  pattern_same t h l = rw (← same.sloped t h l) (go (sloped_in A t) refl)
    where
      go : (b : Bool) → sloped_in A t ≡ b
          → pattern_held (count_at A 0) (pick b (slope_at A t) (Rates (values_at A.rates (30 * t) 30)))
          ≡ pattern_held (count_at B 0) (pick b (slope_at B t) (Rates (values_at B.rates (30 * t) 30)))
      go true e = rw (same.start t h l e, same.step t h l e, same.until t h l e) refl
      go false e =
          ap (λ (f : ℕ → ℤ). record { sloped = false; rate = f; start = pos 0; step = pos 0; until = 0 })
          (entry_same (pos 0) _ _ rated (part_same (pos 0) 30 (30 * t) A.rates B.rates (same.rates t h l e)))

  patterns_same : patterns_held (plan_in A) ≡ patterns_held (plan_in B)
  unfolding patterns_held plan_of_arrays patterns_of
  patterns_same =
      entry_same unheld_pattern _ _ patterns (row_same no_pattern missing_pattern 64 (pattern_held (count_at A 0)) (pattern_held (count_at B 0)) (ap (λ (n : ℕ). pattern_held n missing_pattern) years) pattern_same)

pub held_alike : (A : Lent) → HeldAlike A
held_alike A B same =
    rw (shape_same A B same, instruments_same A B same, outflows_same A B same, rollover_same A B same, patterns_same A B same, allocation_same A B same, opening_same A B same, cost_same A B same) refl

-- money already invested that is not held pays nothing, and a cost that is not held is none, whatever stands in their places
pub opening_unheld : (A : Lent) → opened_in A ≡ false → (k : ℕ) → (numbers (plan_in A)).b k ≡ pos 0
unfolding plan_of_arrays
opening_unheld A e = opening_none (plan_in A) (some_is (opened_in A) (values_at A.amounts opening_from 30) ∙ e)

pub cost_unheld : (A : Lent) → costed_in A ≡ false → (j : ℕ) → (numbers (plan_in A)).cost j ≡ pos 0
unfolding plan_of_arrays
cost_unheld A e = cost_none (plan_in A) (some_is (costed_in A) (values_at A.amounts cost_from 16) ∙ e)
