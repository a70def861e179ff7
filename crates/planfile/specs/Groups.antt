-- Which records a file has, in which order: groups of records of one role (document 01, "Plan file"; kinds 7 and 9: document 02,
-- items 1 and 6).
use Rattle.std.specs.Prelude.{List, [], ◌∷◌, ◌++◌, map, ℕ, ◌+◌, ◌-◌, ltb, eqb, Option, Some, None}
use Rattle.whole.specs.Test.{pick}
use Rattle.whole.specs.Table.{table}
use Rattle.records.specs.Record.{Rec}
use Rattle.plan.specs.declared.Shape.{Shape}
use Rattle.plan.specs.Held.{flag}
use Rattle.planfile.specs.declared.Group as group
use Rattle.planfile.specs.declared.Spot as spot
use Rattle.planfile.specs.Kinds.{role_number}

-- so many records of one role, by its number, one after the other
pub record Group : Type 0 where
  pub role : ℕ
  pub count : ℕ

-- a record's role, by its number, and which of its group it is, counted from 0
pub record Spot : Type 0 where
  pub role : ℕ
  pub index : ℕ

-- so many of a role; one
abbrev pub many : (role count : ℕ) → Group
many role count = record { role = role; count = count }

abbrev pub one : (role : ℕ) → Group
one role = many role 1

-- the sequence that a shape requires; a kind that may be absent has one record or none
unfoldable pub groups_of : Shape → List Group
groups_of h =
    one 1
    ∷ many 2 h.instruments
    ∷ one 3
    ∷ many 7 (flag h.opened)
    ∷ many 9 (flag h.costed)
    ∷ one 4
    ∷ many 5 h.patterns
    ∷ one 6
    ∷ []

-- how many records the groups have
unfoldable pub total : List Group → ℕ
total [] = 0
total (g ∷ gs) = g.count + total gs

-- the role of record t, and which of its group it is, both counted from 0; role 0 past the last
unfoldable pub spot_at : List Group → (t : ℕ) → Spot
spot_at [] t = record { role = 0; index = 0 }
spot_at (g ∷ gs) t = pick (ltb t g.count) (record { role = g.role; index = t }) (spot_at gs (t - g.count))

-- how many records there are of a role, and the place of record j of them
unfoldable pub count_of : List Group → (role : ℕ) → ℕ
count_of [] role = 0
count_of (g ∷ gs) role = pick (eqb g.role role) g.count (count_of gs role)

unfoldable pub place_of : List Group → (role j : ℕ) → ℕ
place_of [] role j = j
place_of (g ∷ gs) role j = pick (eqb g.role role) j (g.count + place_of gs role j)

-- no record
abbrev pub none : Rec
none = record { kind = 0; body = [] }

-- the records of the groups, one after the other, where record j of a role is f role j
unfoldable pub laid : List Group → (f : (role j : ℕ) → Rec) → List Rec
laid [] f = []
laid (g ∷ gs) f = table g.count g.count (f g.role) none ++ laid gs f

-- ---- the code's groups and spots; role 0 where there is no spot
abbrev pub group_shown : group.Group → Group
group_shown g = record { role = role_number g.role; count = g.count }

abbrev pub groups_shown : List group.Group → List Group
groups_shown gs = map group_shown gs

abbrev pub spot_shown : Option spot.Spot → Spot
spot_shown None = record { role = 0; index = 0 }
spot_shown (Some s) = record { role = role_number s.role; index = s.index }
