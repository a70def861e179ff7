-- The recursion goes through the allocations on the grid, in their order.
use mathlib.Core.Path.{◌≡◌, refl, ap, ap₂, ◌∙◌, sym}
use mathlib.Core.List.{List, [], ◌∷◌, ◌++◌, map}
use Prim.Native.Nat.{ℕ, zero, suc, ◌+◌, ◌-◌, ◌*◌, ◌/◌, ◌≤◌, ◌<◌}
use native.Mathlib.Numerals.{add-one}
use native.Mathlib.Omega.{arith}
use lib.ListN.{length, get_or, set, replicate}
use Rattle.whole.specs.Range.{million}
use Rattle.whole.specs.Sum.{sum_ℕ}
use Rattle.whole.specs.Table.{table}
use Rattle.whole.specs.Entry.{cut}
use Rattle.whole.proofs.Sum.{sum_ℕ_cong}
use Rattle.whole.proofs.Table.{table_at, table_cong, table_whole}
use Rattle.whole.proofs.Entry.{cut_in, cut_past, table_cut}
use Rattle.patterns.proofs.Weighing.{parts_table}
use Rattle.finder.specs.Grid.{down_from, splits, allocation_of, allocations}
use Rattle.finder.specs.Lines.{wide_of}
use Rattle.finder.specs.Placing.{placements}
use Rattle.finder.proofs.Grid.{Each, splits_each}

-- ---- a list of counts placed one by one, from a place on
unfoldable placed : (unit : ℕ) (shares : List ℕ) (at : ℕ) → List ℕ → List ℕ
placed unit shares at [] = shares
placed unit shares at (x ∷ xs) = placed unit (set shares at (x * unit)) (at + 1) xs

map_append : {A B : Type 0} (f : A → B) (xs ys : List A) → map f (xs ++ ys) ≡ map f xs ++ map f ys
map_append f [] ys = refl
map_append {A} {B} f (x ∷ xs) ys = ap (λ (l : List B). f x ∷ l) (map_append f xs ys)

map_twice : {A B C : Type 0} (f : B → C) (g : A → B) (xs : List A) → map f (map g xs) ≡ map (λ x. f (g x)) xs
map_twice f g [] = refl
map_twice {A} {B} {C} f g (x ∷ xs) = ap (λ (l : List C). f (g x) ∷ l) (map_twice f g xs)

map_cong : (f g : List ℕ → List ℕ) (l : List (List ℕ)) → Each (λ x. f x ≡ g x) l → map f l ≡ map g l
map_cong f g [] h = refl
map_cong f g (x ∷ l) h = ap₂ (λ (y : List ℕ) (r : List (List ℕ)). y ∷ r) (h 0 (omega arith)) (map_cong f g l (λ k b. h (suc k) (omega arith)))

down_map : {A B : Type 0} (h : A → B) (s : ℕ) (f : ℕ → List A) (g : ℕ → List B) → ((k : ℕ) → g k ≡ map h (f k)) → down_from s g ≡ map h (down_from s f)
unfolding down_from
down_map h zero f g e = refl
down_map {A} {B} h (suc s) f g e = ap₂ (λ (a b : List B). a ++ b) (e s) (down_map h s f g e) ∙ sym (map_append h (f s) (down_from s f))

placements_are : (unit : ℕ) (shares : List ℕ) (at others parts : ℕ) → placements unit shares at others parts ≡ map (placed unit shares at) (splits others parts)
unfolding placements splits placed
placements_are unit shares at zero parts = refl
placements_are unit shares at (suc others) parts = down_map (placed unit shares at) (suc parts) _ _ (λ s.
    placements_are unit (set shares at (s * unit)) (at + 1) others (parts - s) ∙ sym (map_twice (placed unit shares at) (λ (xs : List ℕ). s ∷ xs) (splits others (parts - s))))

-- ---- placed from the first place on, they are the array of shares
table_next : {A : Type 0} (m n : ℕ) (f : ℕ → A) (d : A) → set (table m n f d) n (f n) ≡ table m (suc n) f d
unfolding table
table_next zero zero f d = refl
table_next zero (suc n) f d = refl
table_next (suc m) zero f d = refl
table_next {A} (suc m) (suc n) f d = ap (λ (l : List A). f zero ∷ l) (table_next m n (λ k. f (suc k)) d)

placed_table : (m unit : ℕ) (F : ℕ → ℕ) (xs : List ℕ) (at : ℕ) → ((j : ℕ) → F (at + j) ≡ get_or xs j 0 * unit) → placed unit (table m at F 0) at xs ≡ table m (at + length xs) F 0
unfolding placed
placed_table m unit F [] at h = let e : at ≡ at + 0 = omega arith in ap (λ (k : ℕ). table m k F 0) e
placed_table m unit F (x ∷ xs) at h =
    let here : x * unit ≡ F at = (let e : at + 0 ≡ at = omega arith in sym (h 0) ∙ ap F e) in
    let e : suc at + length xs ≡ at + suc (length xs) = omega arith in
    ap (λ (v : ℕ). placed unit (set (table m at F 0) at v) (at + 1) xs) here
    ∙ ap (λ (l : List ℕ). placed unit l (at + 1) xs) (table_next m at F 0)
    ∙ ap (λ (k : ℕ). placed unit (table m (suc at) F 0) k xs) (add-one at)
    ∙ placed_table m unit F xs (suc at) (λ j. let g : suc at + j ≡ at + suc j = omega arith in ap F g ∙ h (suc j))
    ∙ ap (λ (k : ℕ). table m k F 0) e

-- four of them in an array, and in that of an allocation
abbrev four_of : (unit : ℕ) → List ℕ → List ℕ
four_of unit xs = table 4 (length xs) (λ j. get_or xs j 0 * unit) 0

placed_all : (unit : ℕ) (xs : List ℕ) → placed unit (replicate 4 0) 0 xs ≡ four_of unit xs
unfolding table
placed_all unit xs =
    let e : 0 + length xs ≡ length xs = omega arith in
    placed_table 4 unit (λ j. get_or xs j 0 * unit) xs 0 (λ j. let g : 0 + j ≡ j = omega arith in ap (λ (k : ℕ). get_or xs k 0 * unit) g)
    ∙ ap (λ (k : ℕ). table 4 k (λ j. get_or xs j 0 * unit) 0) e

pub wide_at : (shares : List ℕ) (j : ℕ) → j < 4 → get_or shares j 0 ≡ get_or (wide_of shares) j 0
unfolding wide_of
wide_at shares j l = sym (table_at 16 4 (λ j. get_or shares j 0) 0 0 j l (omega arith))

-- all sixteen come to at most 1,000,000 where the four do
pub wide_few : (shares : List ℕ) {wide : List ℕ} → sum_ℕ 4 (λ j. get_or shares j 0) ≤ million → wide ≡ wide_of shares → sum_ℕ 16 (λ j. get_or wide j 0) ≤ million
unfolding wide_of
wide_few shares h e = rw e (parts_table 4 (λ j. get_or shares j 0) (omega arith) h)

-- the first n come to as much as they did
pub wide_whole : (n : ℕ) (shares : List ℕ) → n ≤ 4 → sum_ℕ n (λ j. get_or shares j 0) ≡ million → sum_ℕ n (λ j. get_or (wide_of shares) j 0) ≡ million
wide_whole n shares few whole = sym (sum_ℕ_cong n _ _ (λ j l. wide_at shares j (omega arith))) ∙ whole

four_wide : (unit : ℕ) (xs : List ℕ) → length xs ≤ 4 → wide_of (four_of unit xs) ≡ allocation_of unit xs
unfolding wide_of allocation_of
four_wide unit xs few =
    let k = length xs in
    let f : ℕ → ℕ = λ j. get_or xs j 0 * unit in
    let past : (j : ℕ) → k ≤ j → cut 0 k f j ≡ 0 = cut_past 0 k f in
    table_cong 16 4 _ (cut 0 k f) 0 (λ j l. table_cut 0 k f 4 few j)
    ∙ table_whole 16 4 (cut 0 k f) 0 (omega arith) (λ j l. past j (omega arith))
    ∙ sym (table_whole 16 k (cut 0 k f) 0 (omega arith) past)
    ∙ table_cong 16 k (cut 0 k f) f 0 (cut_in 0 k f)

-- what the recursion goes through, each in the array of an allocation, are the allocations
pub placements_all : (n D : ℕ) → 1 ≤ n → n ≤ 4 → map wide_of (placements (million / D) (replicate 4 0) 0 (n - 1) D) ≡ allocations n D
unfolding allocations
placements_all n D some few =
    let unit = million / D in
    ap (map wide_of) (placements_are unit (replicate 4 0) 0 (n - 1) D)
    ∙ map_twice wide_of (placed unit (replicate 4 0) 0) (splits (n - 1) D)
    ∙ map_cong (λ xs. wide_of (placed unit (replicate 4 0) 0 xs)) (allocation_of unit) (splits (n - 1) D) (λ k l.
    let xs = get_or (splits (n - 1) D) k [] in
    ap wide_of (placed_all unit xs) ∙ four_wide unit xs (omega (arith, (splits_each (n - 1) D k l).long)))
