-- A file that holds none of document 02's kinds is one of document 01: its checks 4 and 5, and the places of its records, are that
-- document's. Without kinds 7 and 9 the places are; without kind 8 as well the kinds are.
use Rattle.std.specs.Prelude.{◌≡◌, Bool, List, [], ◌∷◌, ℕ, eqb, length}
use Rattle.whole.specs.Test.{both, all}
use Rattle.records.specs.Cursor.{whole_at, place, kind_at}
use Rattle.plan.specs.declared.Shape.{Shape}
use Rattle.planfile.specs.Groups.{Group, many, one, groups_of, total, spot_at, place_of}
use Rattle.planfile.specs.Checks.{shape_in, roles_ok, size_ok, sizes_ok}

-- document 01, "Plan file": 1, n times 2, 3, 4, m times 5, 6
unfoldable pub groups_plain : Shape → List Group
groups_plain h =
    one 1
    ∷ many 2 h.instruments
    ∷ one 3
    ∷ one 4
    ∷ many 5 h.patterns
    ∷ one 6
    ∷ []

module _ (s : List ℕ) where
  -- neither a kind 7 nor a kind 9 stands where it may: the file has that document's groups, by their roles and places
  pub record PlainFile : Type 0 where
    pub kinds : roles_ok s (groups_of (shape_in s)) ≡ roles_ok s (groups_plain (shape_in s))
    pub sizes : sizes_ok s (shape_in s) ≡ all (total (groups_plain (shape_in s))) (size_ok s (shape_in s))
    pub places : (role j : ℕ) → (role ≡ 7 → ⊥) → (role ≡ 9 → ⊥) → place_of (groups_of (shape_in s)) role j ≡ place_of (groups_plain (shape_in s)) role j

  -- check 4 by the kinds of the records and not by their roles: they are those of the groups, and the file ends with the last of them
  unfoldable pub kinds_plain : (gs : List Group) → Bool
  kinds_plain gs = both (all (total gs) (λ t. both (whole_at s (place s t)) (eqb (kind_at s t) (spot_at gs t).role))) (eqb (place s (total gs)) (length s))

  -- no kind 8 either: check 4 asks for that document's kinds
  pub record PlainKinds : Type 0 where
    pub kinds : roles_ok s (groups_of (shape_in s)) ≡ kinds_plain (groups_plain (shape_in s))
