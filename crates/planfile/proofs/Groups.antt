-- The laws of groups: a spot and a place are the same thing, and what holds of each group holds of each role.
use mathlib.Core.Path.{◌≡◌, refl, sym, ap, ap₂, ◌∙◌, subst}
use mathlib.Core.Bool.{Bool, true, false, not}
use mathlib.Core.Logic.{⊎_elim}
use mathlib.Core.List.{List, [], ◌∷◌, ◌++◌}
use Prim.Native.Nat.{ℕ, zero, suc, ◌+◌, ◌*◌, ◌-◌, ◌≤◌, ◌<◌}
use native.Mathlib.Nat.{zero-add}
use native.Mathlib.Numerals.{add-one}
use native.Mathlib.Omega.{arith}
use borrow.Author.Tests.{le-ltb, lt-ltb, eqb-true, eq-eqb, ne_eqb}
use lib.Dec.{eqb}
use lib.ListN.{length, get_or, drop, drop_of_length-le, length-append, get_or-append}
use lib.Seq.{get_or-append-add, drop-cons, ext_get_or}
use Rattle.std.specs.List.{fold, sum_by}
use Rattle.std.proofs.lemmas.List.{get_or-map, length-map}
use Rattle.whole.specs.Entry.{nth}
use Rattle.whole.specs.Test.{pick, both}
use Rattle.whole.specs.Table.{table}
use Rattle.whole.proofs.Laws.{ℕ_cases}
use Rattle.whole.proofs.Table.{length_table, table_at}
use Rattle.whole.proofs.Test.{both_first, both_second, false_true, pick_few}
use Rattle.records.specs.Record.{Rec}
use Rattle.plan.specs.declared.Shape.{Shape}
use Rattle.plan.specs.Held.{flag}
use Rattle.planfile.specs.declared.Group as group
use Rattle.planfile.specs.declared.Role.{Role}
use Rattle.planfile.specs.Kinds.{role_number}
use Rattle.planfile.specs.Groups.{Group, Spot, groups_of, total, spot_at, count_of, place_of, none, laid, group_shown, groups_shown}
use Rattle.planfile.specs.Reading.{InRange}
use Rattle.planfile.proofs.Bodies.{longest}

-- ---- record t: of the first group, or past it
module _ (g : Group) (gs : List Group) (t : ℕ) where
  pub spot_here : t < g.count → spot_at (g ∷ gs) t ≡ record { role = g.role; index = t }
  unfolding spot_at
  spot_here h = rw (lt-ltb t g.count h)

  pub spot_past : g.count ≤ t → spot_at (g ∷ gs) t ≡ spot_at gs (t - g.count)
  unfolding spot_at
  spot_past h = rw (le-ltb t g.count h)

-- ---- by role
-- what holds of each record of each group
abbrev pub Each : List Group → (Q : (role j : ℕ) → Type 0) → Type 0
Each [] Q = Unit
Each (g ∷ gs) Q = ((j : ℕ) → j < g.count → Q g.role j) × Each gs Q

-- one group's, and those of the rest
infixr 20 ◌▸◌
abbrev pub ◌▸◌ : {A B : Type 0} → A → B → A × B
◌▸◌ a b = (a, b)

-- holds of each record of each role
pub each_role : (gs : List Group) (Q : (role j : ℕ) → Type 0) → Each gs Q → (role j : ℕ) → j < count_of gs role → Q role j
unfolding count_of
each_role [] Q e role j h = absurd (omega arith)
each_role (g ∷ gs) Q e role j h = go (λ l. each_role gs Q e.1 role j l) (eqb g.role role) refl
  where
    go : (j < count_of gs role → Q role j) → (b : Bool) → eqb g.role role ≡ b → Q role j
    go later true i =
        subst (λ (r : ℕ). Q r j) (eqb-true g.role role i) (e.0 j (subst (λ (b : Bool). j < pick b g.count (count_of gs role)) i h))
    go later false i = later (subst (λ (b : Bool). j < pick b g.count (count_of gs role)) i h)

-- ---- the place of record j of a role
pub record At (gs : List Group) (role j t : ℕ) : Type 0 where
  pub inside : t < total gs
  pub spot : spot_at gs t ≡ record { role = role; index = j }

pub place_spot : (gs : List Group) (role j : ℕ) → j < count_of gs role → At gs role j (place_of gs role j)
unfolding total place_of count_of
place_spot [] role j h = absurd (omega arith)
place_spot (g ∷ gs) role j h = go (λ l. place_spot gs role j l) (eqb g.role role) refl
  where
    go : (j < count_of gs role → At gs role j (place_of gs role j)) → (b : Bool) → eqb g.role role ≡ b
        → At (g ∷ gs) role j (pick (eqb g.role role) j (g.count + place_of gs role j))
    go later true e =
        let i = eqb-true g.role role e in
        let l : j < g.count = subst (λ (b : Bool). j < pick b g.count (count_of gs role)) e h in
        rw e (record { inside = omega arith; spot = spot_here g gs j l ∙ ap (λ (r : ℕ). record { role = r; index = j }) i })
    go later false e =
        let l : j < count_of gs role = subst (λ (b : Bool). j < pick b g.count (count_of gs role)) e h in
        let p = place_of gs role j in
        let rest = later l in
        let back : g.count + p - g.count ≡ p = omega arith in
        rw e (record { inside = omega (arith, rest.inside); spot = spot_past g gs (g.count + p) (omega arith) ∙ ap (spot_at gs) back ∙ rest.spot })

-- ---- where no role has two groups, every record is at the place of its spot
unfoldable pub lacks : (role : ℕ) → List Group → Bool
lacks role [] = true
lacks role (g ∷ gs) = both (not (eqb g.role role)) (lacks role gs)

unfoldable pub distinct : List Group → Bool
distinct [] = true
distinct (g ∷ gs) = both (lacks g.role gs) (distinct gs)

pub lacks_spot : (gs : List Group) (role : ℕ) → lacks role gs ≡ true → (t : ℕ) → t < total gs → eqb role (spot_at gs t).role ≡ false
unfolding lacks total
lacks_spot [] role e t h = absurd (omega arith)
lacks_spot (g ∷ gs) role e t h = ⊎_elim
    (λ (l : t < g.count).
    rw (spot_here g gs t l)
    (ne_eqb role g.role (λ i. false_true (sym (ap not (eq-eqb g.role role (sym i))) ∙ both_first _ _ e))))
    (λ (l : g.count ≤ t). rw (spot_past g gs t l) (lacks_spot gs role (both_second (not (eqb g.role role)) _ e) (t - g.count) (omega arith)))
    (ℕ_cases t g.count)

pub record Back (gs : List Group) (s : Spot) (t : ℕ) : Type 0 where
  pub place : place_of gs s.role s.index ≡ t
  pub index : s.index < count_of gs s.role

pub spot_place : (gs : List Group) → distinct gs ≡ true → (t : ℕ) → t < total gs → Back gs (spot_at gs t) t
unfolding distinct total place_of count_of
spot_place [] d t h = absurd (omega arith)
spot_place (g ∷ gs) d t h = ⊎_elim
    (λ (l : t < g.count).
    rw (spot_here g gs t l) (record { place = rw (eq-eqb g.role g.role refl); index = rw (eq-eqb g.role g.role refl) l }))
    (λ (l : g.count ≤ t).
    let b = spot_place gs (both_second (lacks g.role gs) _ d) (t - g.count) (omega arith) in
    let n = lacks_spot gs g.role (both_first _ _ d) (t - g.count) (omega arith) in
    rw (spot_past g gs t l) (record { place = rw n (omega (arith, b.place)); index = rw n b.index }))
    (ℕ_cases t g.count)

-- and each has all the records of its role
lacks_at : (gs : List Group) (role : ℕ) → lacks role gs ≡ true → (d : Group) (g : ℕ) → g < length gs → eqb role (get_or gs g d).role ≡ false
unfolding lacks
lacks_at [] role e d g h = absurd (omega arith)
lacks_at (a ∷ gs) role e d zero h = ne_eqb role a.role (λ i. false_true (sym (ap not (eq-eqb a.role role (sym i))) ∙ both_first _ _ e))
lacks_at (a ∷ gs) role e d (suc g) h = lacks_at gs role (both_second (not (eqb a.role role)) _ e) d g (omega arith)

pub count_at : (gs : List Group) → distinct gs ≡ true → (d : Group) (g : ℕ) → g < length gs → (get_or gs g d).count ≡ count_of gs (get_or gs g d).role
unfolding distinct count_of
count_at [] u d g h = absurd (omega arith)
count_at (a ∷ gs) u d zero h = rw (eq-eqb a.role a.role refl) refl
count_at (a ∷ gs) u d (suc g) h =
    let n = lacks_at gs a.role (both_first _ _ u) d g (omega arith) in
    rw n (count_at gs (both_second (lacks a.role gs) _ u) d g (omega arith))

-- ---- the records that are laid out by groups
module _ (f : (role j : ℕ) → Rec) where
  pub length_laid : (gs : List Group) → length (laid gs f) ≡ total gs
  unfolding laid total
  length_laid [] = refl
  length_laid (g ∷ gs) = rw (length-append, length_laid gs, length_table g.count g.count (f g.role) _ (omega arith))

  pub laid_at : (gs : List Group) (t : ℕ) → t < total gs → get_or (laid gs f) t none ≡ f (spot_at gs t).role (spot_at gs t).index
  unfolding laid total
  laid_at [] t h = absurd (omega arith)
  laid_at (g ∷ gs) t h =
      let first = table g.count g.count (f g.role) none in
      let n : length first ≡ g.count = length_table g.count g.count (f g.role) none (omega arith) in
      ⊎_elim
      (λ (l : t < g.count).
      rw (spot_here g gs t l)
      (get_or-append first (laid gs f) none t (omega (arith, n)) ∙ table_at g.count g.count (f g.role) none none t l (omega arith)))
      (λ (l : g.count ≤ t).
      let e : t ≡ length first + (t - g.count) = omega (arith, n) in
      rw (spot_past g gs t l)
      (ap (λ (u : ℕ). get_or (first ++ laid gs f) u none) e ∙ get_or-append-add first (laid gs f) (t - g.count) none ∙ laid_at gs (t - g.count) (omega arith)))
      (ℕ_cases t g.count)

  -- record j of a role, at its place
  pub laid_place : (gs : List Group) (role j : ℕ) → j < count_of gs role → get_or (laid gs f) (place_of gs role j) none ≡ f role j
  laid_place gs role j h =
      let a = place_spot gs role j h in
      laid_at gs (place_of gs role j) a.inside ∙ ap (λ (s : Spot). f s.role s.index) a.spot

-- ---- by an array of groups: the rest of them from group g on
module _ (gs : List Group) (d : Group) (g : ℕ) (h : g < length gs) where
  pub total_rest : total (drop g gs) ≡ (get_or gs g d).count + total (drop (g + 1) gs)
  unfolding total
  total_rest = rw (add-one, drop-cons gs g d h)

  pub spot_first : (t : ℕ) → t < (get_or gs g d).count → spot_at (drop g gs) t ≡ record { role = (get_or gs g d).role; index = t }
  spot_first t l = rw (drop-cons gs g d h) (spot_here (get_or gs g d) (drop (suc g) gs) t l)

  pub spot_rest : (t : ℕ) → (get_or gs g d).count ≤ t → spot_at (drop g gs) t ≡ spot_at (drop (g + 1) gs) (t - (get_or gs g d).count)
  spot_rest t l = rw (add-one, drop-cons gs g d h) (spot_past (get_or gs g d) (drop (suc g) gs) t l)

-- none is left
pub total_none : (gs : List Group) (g : ℕ) → length gs ≤ g → total (drop g gs) ≡ 0
unfolding total
total_none gs g h = rw (drop_of_length-le gs h)

pub spot_none : (gs : List Group) (g t : ℕ) → length gs ≤ g → spot_at (drop g gs) t ≡ record { role = 0; index = 0 }
unfolding spot_at
spot_none gs g t h = rw (drop_of_length-le gs h)

-- ---- by the code's array of groups: the spot of record t of those from group g on
module _ (gs : List group.Group) (d : group.Group) (g : ℕ) (h : g < length gs) where
  pub shown_first : (t : ℕ) → t < (get_or gs g d).count
      → spot_at (groups_shown (drop g gs)) t ≡ record { role = role_number (get_or gs g d).role; index = t }
  shown_first t l = rw (drop-cons gs g d h) (spot_here (group_shown (get_or gs g d)) (groups_shown (drop (suc g) gs)) t l)

  pub shown_rest : (t : ℕ) → (get_or gs g d).count ≤ t
      → spot_at (groups_shown (drop g gs)) t ≡ spot_at (groups_shown (drop (g + 1) gs)) (t - (get_or gs g d).count)
  shown_rest t l = rw (add-one, drop-cons gs g d h) (spot_past (group_shown (get_or gs g d)) (groups_shown (drop (suc g) gs)) t l)

-- none is left
pub shown_none : (gs : List group.Group) (g t : ℕ) → length gs ≤ g → spot_at (groups_shown (drop g gs)) t ≡ record { role = 0; index = 0 }
unfolding spot_at
shown_none gs g t h = rw (drop_of_length-le gs h)

-- how many records they have
counted : (gs : List group.Group) (n : ℕ) → fold (λ (a : ℕ) (g : group.Group). a + g.count) n gs ≡ n + total (groups_shown gs)
unfolding total
counted [] n = omega arith
counted (g ∷ gs) n = omega (arith, counted gs (n + g.count))

pub total_shown : (gs : List group.Group) → sum_by (λ g. g.count) gs ≡ total (groups_shown gs)
total_shown gs = counted gs 0 ∙ zero-add (total (groups_shown gs))

-- ---- the most bytes that the records of the groups take
abbrev pub most : List Group → ℕ
most [] = 0
most (g ∷ gs) = (4 + longest g.role) * g.count + most gs

-- ---- the groups of a shape
-- a kind that may be absent has one record at most, and where it has one, all its n numbers are held
pub held_few : (is_held : Bool) → flag is_held ≤ 1
held_few is_held = pick_few is_held 1

pub held_all : (is_held : Bool) {j : ℕ} → j < flag is_held → (n : ℕ) → pick is_held n 0 ≡ n
held_all true l n = refl
held_all false l n = absurd (omega arith)

module _ (h : Shape) where
  pub length_groups : length (groups_of h) ≡ 8
  unfolding groups_of
  length_groups = refl

  distinct_groups : distinct (groups_of h) ≡ true
  unfolding groups_of distinct lacks
  distinct_groups = refl

  -- 0 is no role
  pub role_some : (role j : ℕ) → j < count_of (groups_of h) role → 0 < role
  unfolding groups_of count_of
  role_some zero j l = absurd (omega arith)
  role_some (suc role) j l = omega arith

  pub total_few : InRange h → total (groups_of h) ≤ 255
  unfolding groups_of total
  total_few r = omega (arith, r.instruments_few, r.patterns_few, held_few h.opened, held_few h.costed)

  pub most_few : InRange h → most (groups_of h) ≤ 12_404
  unfolding groups_of nth
  most_few r = omega (arith, r.instruments_few, r.patterns_few, held_few h.opened, held_few h.costed)

  -- the spot of record t is that of a record of its role, whose place is t
  pub spot_back : (t : ℕ) → t < total (groups_of h) → Back (groups_of h) (spot_at (groups_of h) t) t
  spot_back = spot_place (groups_of h) distinct_groups

-- the group at a place of the code's array, which has this role
pub group_at : (h : Shape) (groups : List group.Group) (g : ℕ) (d : group.Group) {role : Role} → groups_shown groups ≡ groups_of h → g < 8 → (get_or groups g d).role ≡ role
    → let own : Group = record { role = role_number role; count = count_of (groups_of h) (role_number role) } in get_or (groups_of h) g own ≡ own
group_at h groups g d {role} e l is =
    let own : Group = record { role = role_number role; count = count_of (groups_of h) (role_number role) } in
    let here : get_or (groups_of h) g own ≡ group_shown (get_or groups g d) = ap (λ (gs : List Group). get_or gs g own) (sym e)
    ∙ get_or-map group_shown groups g d own (omega (arith, length-map groups group_shown, ap (λ (gs : List Group). length gs) e, length_groups h)) in
    let of_role : (get_or (groups_of h) g own).role ≡ role_number role = ap (λ (x : Group). x.role) here ∙ ap role_number is in
    let count = count_at (groups_of h) (distinct_groups h) own g (omega (arith, length_groups h)) ∙ ap (count_of (groups_of h)) of_role in
    ap₂ (λ (r n : ℕ). record { role = r; count = n }) of_role count

-- records that are the same by role are the same, laid out
pub laid_cong : (h : Shape) (f g : (role j : ℕ) → Rec) → ((role j : ℕ) → j < count_of (groups_of h) role → f role j ≡ g role j)
    → laid (groups_of h) f ≡ laid (groups_of h) g
laid_cong h f g e =
    let gs = groups_of h in
    ext_get_or none (laid gs f) (laid gs g) (length_laid f gs ∙ sym (length_laid g gs))
    (λ t l.
    let i : t < total gs = omega (arith, length_laid f gs) in
    laid_at f gs t i ∙ e (spot_at gs t).role (spot_at gs t).index (spot_back h t i).index ∙ sym (laid_at g gs t i))
