-- How many records of each role stand before record t: what a loop over the records of a file has filled after t of them.
use mathlib.Core.Path.{◌≡◌, refl, sym, ap, ◌∙◌, fun_ext}
use mathlib.Core.Bool.{Bool, true, false}
use mathlib.Core.Logic.{⊎_elim}
use mathlib.Core.List.{List, [], ◌∷◌}
use Prim.Native.Nat.{ℕ, ◌+◌, ◌-◌, ◌≤◌, ◌<◌, min}
use native.Mathlib.Omega.{arith}
use borrow.Author.Tests.{eqb-true, eq-eqb}
use lib.Dec.{eqb}
use Rattle.whole.specs.Test.{pick}
use Rattle.whole.proofs.Laws.{ℕ_cases}
use Rattle.whole.proofs.Test.{false_true}
use Rattle.plan.specs.declared.Shape.{Shape}
use Rattle.planfile.specs.Groups.{Group}
use Rattle.planfile.specs.Groups.{Spot}
use Rattle.planfile.specs.Groups.{groups_of, total, spot_at, count_of, place_of}
use Rattle.planfile.proofs.Groups.{place_spot, spot_back}

-- of those of a role, which stand one after the other
unfoldable pub seen : List Group → (t role : ℕ) → ℕ
seen gs t role = min (count_of gs role) (t - place_of gs role 0)

-- one more of a role
abbrev pub bump : (role : ℕ) → (c : ℕ → ℕ) → (ℕ → ℕ)
bump role c r = pick (eqb role r) (c r + 1) (c r)

-- ---- the records of a role stand one after the other, within the file
place_add : (gs : List Group) (role j : ℕ) → place_of gs role j ≡ place_of gs role 0 + j
unfolding place_of
place_add [] role j = omega arith
place_add (g ∷ gs) role j = go (place_add gs role j) (eqb g.role role)
  where
    go : place_of gs role j ≡ place_of gs role 0 + j → (b : Bool) → pick b j (g.count + place_of gs role j) ≡ pick b 0 (g.count + place_of gs role 0) + j
    go e true = omega arith
    go e false = omega arith

place_end : (gs : List Group) (role : ℕ) → place_of gs role 0 + count_of gs role ≤ total gs
unfolding place_of count_of total
place_end [] role = omega arith
place_end (g ∷ gs) role = go (place_end gs role) (eqb g.role role)
  where
    go : place_of gs role 0 + count_of gs role ≤ total gs → (b : Bool) → pick b 0 (g.count + place_of gs role 0) + pick b g.count (count_of gs role) ≤ g.count + total gs
    go e true = omega arith
    go e false = omega arith

-- ---- before the first record, and after the last
module _ (h : Shape) where
  abbrev gs : List Group
  gs = groups_of h

  pub seen_none : seen gs 0 ≡ (λ role. 0)
  unfolding seen
  seen_none = fun_ext (λ role. omega arith)

  pub seen_all : seen gs (total gs) ≡ count_of gs
  unfolding seen
  seen_all = fun_ext (λ role. omega (arith, place_end gs role))

  -- ---- a turn of the loop: record t has number `index` of its role, and its role has one more after it
  module _ (t : ℕ) (l : t < total gs) where
    pub seen_index : seen gs t (spot_at gs t).role ≡ (spot_at gs t).index
    unfolding seen
    seen_index = let b = spot_back h t l in omega (arith, b.place, b.index, place_add gs (spot_at gs t).role (spot_at gs t).index)

    pub seen_more : seen gs (t + 1) ≡ bump (spot_at gs t).role (seen gs t)
    unfolding seen
    seen_more = fun_ext (λ role. go role (eqb (spot_at gs t).role role) refl)
      where
        -- record t is none of the role
        other : (role : ℕ) → eqb (spot_at gs t).role role ≡ false → place_of gs role 0 ≤ t → t < place_of gs role 0 + count_of gs role → ⊥
        other role e a z =
            let j = t - place_of gs role 0 in
            let p : place_of gs role j ≡ t = omega (arith, place_add gs role j) in
            let is = ap (λ (u : ℕ). (spot_at gs u).role) (sym p) ∙ ap (λ (x : Spot). x.role) (place_spot gs role j (omega arith)).spot in
            false_true (sym e ∙ eq-eqb _ _ is)

        go : (role : ℕ) (b : Bool) → eqb (spot_at gs t).role role ≡ b → seen gs (t + 1) role ≡ pick b (seen gs t role + 1) (seen gs t role)
        go role true e =
            let b = spot_back h t l in
            let j = (spot_at gs t).index in
            let i = eqb-true (spot_at gs t).role role e in
            omega (arith, b.place, b.index, ap (count_of gs) i, ap (λ (r : ℕ). place_of gs r j) i, place_add gs role j)
        go role false e = ⊎_elim
            (λ (a : t < place_of gs role 0). omega arith)
            (λ (a : place_of gs role 0 ≤ t). ⊎_elim
            (λ (z : t < place_of gs role 0 + count_of gs role). absurd (other role e a z))
            (λ (z : place_of gs role 0 + count_of gs role ≤ t). omega arith)
            (ℕ_cases t (place_of gs role 0 + count_of gs role)))
            (ℕ_cases t (place_of gs role 0))
