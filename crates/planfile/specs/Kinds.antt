-- Each kind of record: its role and the length of its body (document 01, "Plan file"; kinds 7, 8 and 9: document 02, items 1, 2 and 6),
-- from kind 1 on.
use Rattle.std.specs.Prelude.{List, [], ◌∷◌, ℕ, ◌*◌, ◌-◌, Option, Some, None}
use Rattle.whole.specs.Entry.{nth}
use Rattle.plan.specs.declared.Shape.{Shape}
use Rattle.planfile.specs.declared.Kind.{Kind}
use Rattle.planfile.specs.declared.Kind.TheVariants as kind
use Rattle.planfile.specs.declared.Role.{Role}
use Rattle.planfile.specs.declared.Role.TheVariants as role

-- the roles of the kinds by their numbers: a role is the first kind that may stand where it stands
abbrev pub roles : List ℕ
roles =
    1
    ∷ 2
    ∷ 3
    ∷ 4
    ∷ 5
    ∷ 6
    ∷ 7
    ∷ 5
    ∷ 9
    ∷ []

-- the role of a kind; 0 where the number is no kind
unfoldable pub role_of : (kind : ℕ) → ℕ
role_of = nth 0 roles

-- the bytes in the bodies of the kinds
abbrev pub sizes : Shape → List ℕ
sizes h =
    4
    ∷ 8 * h.years
    ∷ 8 * h.years
    ∷ 4 * h.terms
    ∷ 4 * (h.years - 1)
    ∷ 4 * h.instruments
    ∷ 8 * h.years
    ∷ 9
    ∷ 8 * h.instruments
    ∷ []

-- those of one kind
unfoldable pub size_of : Shape → (kind : ℕ) → ℕ
size_of h = nth 0 (sizes h)

-- ---- the code's kinds and roles
-- the number of a kind
abbrev pub kind_number : Kind → ℕ
kind_number kind.Head = 1
kind_number kind.Instrument = 2
kind_number kind.Outflows = 3
kind_number kind.Rollover = 4
kind_number kind.Rates = 5
kind_number kind.Allocation = 6
kind_number kind.Opening = 7
kind_number kind.Slope = 8
kind_number kind.Cost = 9

-- the number of a role, which is that of the first kind that may stand where it stands; 0 for none
abbrev pub role_number : Role → ℕ
role_number role.Head = 1
role_number role.Instrument = 2
role_number role.Outflows = 3
role_number role.Rollover = 4
role_number role.Pattern = 5
role_number role.Allocation = 6
role_number role.Opening = 7
role_number role.Cost = 9

abbrev pub role_shown : Option Role → ℕ
role_shown None = 0
role_shown (Some role) = role_number role
