-- The allocations on the grid: every one of the list is on it, and every one on it stands in the list.
use mathlib.Core.Path.{◌≡◌, refl, ap, ◌∙◌, sym, subst}
use mathlib.Core.List.{List, [], ◌∷◌, ◌++◌, map}
use mathlib.Core.Logic.{⊎_elim}
use Prim.Native.Nat.{ℕ, zero, suc, ◌+◌, ◌-◌, ◌*◌, ◌/◌, ◌≤◌, ◌<◌}
use native.Mathlib.Nat.{mul_comm, mul-div_cancel}
use native.Mathlib.Omega.{arith}
use lib.ListN.{length, get_or}
use Rattle.whole.specs.Range.{million}
use Rattle.whole.specs.Sum.{sum_ℕ}
use Rattle.whole.specs.Table.{table}
use Rattle.whole.proofs.Laws.{ℕ_cases}
use Rattle.whole.proofs.Sum.{sum_ℕ_first, sum_ℕ_none, sum_ℕ_cong, sum_ℕ_scale}
use Rattle.whole.proofs.Table.{table_at, length_table}
use Rattle.whole.proofs.Entry.{table_cut, cut_past}
use Rattle.finder.specs.Grid.{OnGrid, down_from, splits, allocation_of, allocations}
use Rattle.finder.proofs.Parts.{Parts}

-- ---- what holds of each of a list of lists
abbrev pub Each : (Q : List ℕ → Type 0) → List (List ℕ) → Type 0
Each Q l = (k : ℕ) → k < length l → Q (get_or l k [])

each_append : (Q : List ℕ → Type 0) (l r : List (List ℕ)) → Each Q l → Each Q r → Each Q (l ++ r)
each_append Q [] r f g k h = g k h
each_append Q (x ∷ l) r f g zero h = f 0 (omega arith)
each_append Q (x ∷ l) r f g (suc k) h = each_append Q l r (λ k b. f (suc k) (omega arith)) g k (omega arith)

each_map : (Q : List ℕ → Type 0) (f : List ℕ → List ℕ) (l : List (List ℕ)) → Each (λ x. Q (f x)) l → Each Q (map f l)
each_map Q f [] g k h = absurd (omega arith)
each_map Q f (x ∷ l) g zero h = g 0 (omega arith)
each_map Q f (x ∷ l) g (suc k) h = each_map Q f l (λ k b. g (suc k) (omega arith)) k (omega arith)

pub each_unmap : (Q : List ℕ → Type 0) (f : List ℕ → List ℕ) (l : List (List ℕ)) → Each Q (map f l) → Each (λ x. Q (f x)) l
each_unmap Q f [] g k h = absurd (omega arith)
each_unmap Q f (x ∷ l) g zero h = g 0 (omega arith)
each_unmap Q f (x ∷ l) g (suc k) h = each_unmap Q f l (λ k b. g (suc k) (omega arith)) k (omega arith)

each_down : (Q : List ℕ → Type 0) (s : ℕ) (f : ℕ → List (List ℕ)) → ((k : ℕ) → k < s → Each Q (f k)) → Each Q (down_from s f)
unfolding down_from
each_down Q zero f h k b = absurd (omega arith)
each_down Q (suc s) f h k b = each_append Q (f s) (down_from s f) (h s (omega arith)) (each_down Q s f (λ k b. h k (omega arith))) k b

-- ---- x stands in a list at a place
pub record Stands (l : List (List ℕ)) (x : List ℕ) : Type 0 where
  pub place : ℕ
  pub below : place < length l
  pub is : get_or l place [] ≡ x

pub later : {y x : List ℕ} {l : List (List ℕ)} → Stands l x → Stands (y ∷ l) x
later s = record { place = suc s.place; below = omega (arith, s.below); is = s.is }

in_first : (l r : List (List ℕ)) (k : ℕ) (x : List ℕ) → k < length l → get_or l k [] ≡ x → Stands (l ++ r) x
in_first [] r k x h e = absurd (omega arith)
in_first (y ∷ l) r zero x h e = record { place = 0; below = omega arith; is = e }
in_first (y ∷ l) r (suc k) x h e = later (in_first l r k x (omega arith) e)

in_second : (l r : List (List ℕ)) {x : List ℕ} → Stands r x → Stands (l ++ r) x
in_second [] r s = s
in_second (y ∷ l) r s = later (in_second l r s)

mapped : (f : List ℕ → List ℕ) (l : List (List ℕ)) (k : ℕ) (x : List ℕ) → k < length l → get_or l k [] ≡ x → Stands (map f l) (f x)
mapped f [] k x h e = absurd (omega arith)
mapped f (y ∷ l) zero x h e = record { place = 0; below = omega arith; is = ap f e }
mapped f (y ∷ l) (suc k) x h e = later (mapped f l k x (omega arith) e)

in_map : (f : List ℕ → List ℕ) {l : List (List ℕ)} {x : List ℕ} → Stands l x → Stands (map f l) (f x)
in_map f {l} {x} s = mapped f l s.place x s.below s.is

in_down : (s : ℕ) (f : ℕ → List (List ℕ)) (k : ℕ) {x : List ℕ} → k < s → Stands (f k) x → Stands (down_from s f) x
unfolding down_from
in_down zero f k h g = absurd (omega arith)
in_down (suc s) f k {x} h g = ⊎_elim
    (λ (l : k < s). in_second (f s) (down_from s f) (in_down s f k l g))
    (λ (l : s ≤ k). let e : k ≡ s = omega arith in let g' = subst (λ (k : ℕ). Stands (f k) x) e g in in_first (f s) (down_from s f) g'.place x g'.below g'.is)
    (ℕ_cases k s)

-- ---- splits: the counts of 1 + n instruments, of so many parts together
pub record Counts (n parts : ℕ) (xs : List ℕ) : Type 0 where
  pub long : length xs ≡ suc n
  pub total : sum_ℕ (suc n) (λ j. get_or xs j 0) ≡ parts

one_total : (x : ℕ) → sum_ℕ 1 (λ j. get_or (x ∷ []) j 0) ≡ x
one_total x = let e = sum_ℕ_first 0 (λ j. get_or (x ∷ []) j 0) in let z = sum_ℕ_none (λ j. get_or {A = ℕ} [] j 0) in omega arith

more_total : (n x : ℕ) (xs : List ℕ) → sum_ℕ (suc (suc n)) (λ j. get_or (x ∷ xs) j 0) ≡ x + sum_ℕ (suc n) (λ j. get_or xs j 0)
more_total n x xs = sum_ℕ_first (suc n) (λ j. get_or (x ∷ xs) j 0)

-- each of them is one
pub splits_each : (n parts : ℕ) → Each (Counts n parts) (splits n parts)
unfolding splits
splits_each zero parts zero h = record { long = refl; total = one_total parts }
splits_each zero parts (suc k) h = absurd (omega arith)
splits_each (suc n) parts k h = each_down (Counts (suc n) parts) (suc parts) (λ s. map (λ (xs : List ℕ). s ∷ xs) (splits n (parts - s))) (λ s b.
    each_map (Counts (suc n) parts) (λ xs. s ∷ xs) (splits n (parts - s)) (λ k l.
    let g = splits_each n (parts - s) k l in
    let xs = get_or (splits n (parts - s)) k [] in
    record { long = ap suc g.long; total = more_total n s xs ∙ ap (λ (t : ℕ). s + t) g.total ∙ omega arith })) k h

-- and each one is among them
splits_have : (n parts : ℕ) (xs : List ℕ) → Counts n parts xs → Stands (splits n parts) xs
unfolding splits
splits_have n parts [] h = absurd (omega (arith, h.long))
splits_have zero parts (x ∷ []) h = record { place = 0; below = omega arith; is = ap (λ (k : ℕ). k ∷ []) (sym h.total ∙ one_total x) }
splits_have zero parts (x ∷ y ∷ xs) h = absurd (omega (arith, h.long))
splits_have (suc n) parts (x ∷ xs) h =
    let e = more_total n x xs in
    let t = h.total in
    in_down (suc parts) (λ s. map (λ (xs : List ℕ). s ∷ xs) (splits n (parts - s))) x (omega arith)
    (in_map (λ (xs : List ℕ). x ∷ xs) (splits_have n (parts - x) xs (record { long = omega (arith, h.long); total = omega arith })))

sum_units : (n unit : ℕ) (g : ℕ → ℕ) → sum_ℕ n (λ j. g j * unit) ≡ sum_ℕ n g * unit
sum_units n unit g = sum_ℕ_cong n _ _ (λ j l. mul_comm (g j) unit) ∙ sum_ℕ_scale n unit g ∙ mul_comm unit (sum_ℕ n g)

-- ---- the shares of a split
module _ (n D : ℕ) (some : 1 ≤ n) (few : n ≤ 16) (d : Parts D) where
  abbrev unit : ℕ
  unit = million / D

  unit_some : 0 < unit
  unit_some = go unit refl
    where
      go : (k : ℕ) → k ≡ unit → 0 < unit
      go zero e = absurd (let f : D * 0 ≡ million = ap (λ (k : ℕ). D * k) e ∙ d.exact in omega arith)
      go (suc k) e = omega arith

  module _ (xs : List ℕ) (long : length xs ≡ n) where
    shares_at : (j : ℕ) → j < n → get_or (allocation_of unit xs) j 0 ≡ get_or xs j 0 * unit
    unfolding allocation_of
    shares_at j l = table_at 16 (length xs) (λ j. get_or xs j 0 * unit) 0 0 j (omega arith) (omega arith)

    shares_past : (j : ℕ) → n ≤ j → get_or (allocation_of unit xs) j 0 ≡ 0
    unfolding allocation_of
    shares_past j l = table_cut 0 (length xs) (λ j. get_or xs j 0 * unit) 16 (omega arith) j ∙ cut_past 0 (length xs) (λ j. get_or xs j 0 * unit) j (omega arith)

    shares_sum : sum_ℕ n (λ j. get_or (allocation_of unit xs) j 0) ≡ sum_ℕ n (λ j. get_or xs j 0) * unit
    shares_sum = sum_ℕ_cong n _ _ shares_at ∙ sum_units n unit (λ j. get_or xs j 0)

  -- ---- each of the allocations is on the grid, and has no share past n
  pub record OfList (shares : List ℕ) : Type 0 where
    pub on_grid : OnGrid n D shares
    pub past : (j : ℕ) → n ≤ j → get_or shares j 0 ≡ 0

  pub allocations_each : Each OfList (allocations n D)
  unfolding allocations
  allocations_each = each_map OfList (allocation_of unit) (splits (n - 1) D) (λ k l.
      let g = splits_each (n - 1) D k l in
      let xs = get_or (splits (n - 1) D) k [] in
      let e : suc (n - 1) ≡ n = omega arith in
      let long = g.long ∙ e in
      record {
        on_grid = record {
          parts = λ j. get_or xs j 0;
          multiple = shares_at xs long;
          whole = shares_sum xs long ∙ ap (λ (k : ℕ). k * unit) (ap (λ (m : ℕ). sum_ℕ m (λ j. get_or xs j 0)) (sym e) ∙ g.total) ∙ d.exact;
        };
        past = shares_past xs long;
      })

  -- ---- and every list of shares on the grid is one of them, but for what stands past n
  module _ (shares : List ℕ) (g : OnGrid n D shares) where
    abbrev counts : List ℕ
    counts = table n n g.parts 0

    counts_long : length counts ≡ n
    counts_long = length_table n n g.parts 0 (omega arith)

    counts_at : (j : ℕ) → j < n → get_or counts j 0 ≡ g.parts j
    counts_at j l = table_at n n g.parts 0 0 j l (omega arith)

    units : sum_ℕ n g.parts * unit ≡ D * unit
    units = sym (sum_units n unit g.parts) ∙ sum_ℕ_cong n _ _ (λ j l. sym (g.multiple j l)) ∙ g.whole ∙ sym d.exact

    counted : sum_ℕ n g.parts ≡ D
    counted = sym (mul-div_cancel (sum_ℕ n g.parts) unit_some) ∙ ap (λ (k : ℕ). k / unit) units ∙ mul-div_cancel D unit_some

    pub grid_stands : Stands (allocations n D) (allocation_of unit counts)
    unfolding allocations
    grid_stands =
        let e : suc (n - 1) ≡ n = omega arith in
        in_map (allocation_of unit) (splits_have (n - 1) D counts (record {
          long = counts_long ∙ sym e;
          total = ap (λ (m : ℕ). sum_ℕ m (λ j. get_or counts j 0)) e ∙ sum_ℕ_cong n _ _ counts_at ∙ counted;
        }))

    pub grid_same : (j : ℕ) → j < n → get_or shares j 0 ≡ get_or (allocation_of unit counts) j 0
    grid_same j l = g.multiple j l ∙ ap (λ (k : ℕ). k * unit) (sym (counts_at j l)) ∙ sym (shares_at counts counts_long j l)
