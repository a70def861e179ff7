-- Checks 1 to 5, on the records of any bytes s (document 01, "Checking order"; kinds 7 and 9: document 02, items 1
-- and 6).
use Rattle.std.specs.Prelude.{Bool, List, ℕ, ◌+◌, leb, eqb, length, get_or}
use Rattle.whole.specs.Test.{both, all}
use Rattle.records.specs.Cursor.{whole_at, whole_file, place, kind_at, body_at}
use Rattle.plan.specs.declared.Shape.{Shape}
use Rattle.plan.specs.Held.{flag}
use Rattle.plan.specs.Refusal.{check, shape_ok}
use Rattle.planfile.specs.Kinds.{role_of, size_of}
use Rattle.planfile.specs.Groups.{Group, groups_of, total, spot_at}

module _ (s : List ℕ) where
  -- record t is there, and has this role
  unfoldable pub has_role : (t role : ℕ) → Bool
  has_role t role = both (whole_at s (place s t)) (eqb (role_of (kind_at s t)) role)

  -- the shape of a file: the four numbers of its first record; whether a kind 7 stands right after where kind 3 stands: the head, n
  -- instruments and the outflows come before it; and whether a kind 9 stands right after where kind 3 stands, or right after kind 7 where that
  -- is there
  unfoldable pub shape_in : Shape
  shape_in =
      let n = get_or s 5 0 in
      let opened = has_role (2 + n) 7 in
      record {
        years = get_or s 4 0;
        instruments = n;
        terms = get_or s 6 0;
        patterns = get_or s 7 0;
        opened = opened;
        costed = has_role (2 + n + flag opened) 9;
      }

  -- 3: the first record is there, is a kind 1 of four bytes, and its numbers are in their ranges
  unfoldable pub first_ok : Bool
  first_ok =
      both (whole_at s 0)
      (both (eqb (kind_at s 0) 1)
      (both (eqb (length (body_at s 0)) 4)
      (shape_ok shape_in)))

  -- 4: the roles of the records are those of the groups, and the file ends with the last of them
  module _ (gs : List Group) where
    unfoldable pub role_ok : (t : ℕ) → Bool
    role_ok t = has_role t (spot_at gs t).role

    unfoldable pub roles_ok : Bool
    roles_ok = both (all (total gs) role_ok) (eqb (place s (total gs)) (length s))

  -- 5: each body has the length that its kind and the shape require
  module _ (h : Shape) where
    unfoldable pub size_ok : (t : ℕ) → Bool
    size_ok t = eqb (length (body_at s t)) (size_of h (kind_at s t))

    unfoldable pub sizes_ok : Bool
    sizes_ok = all (total (groups_of h)) size_ok

  -- the number of the first of them that fails; 0 if none does
  unfoldable pub layout_refusal : ℕ
  layout_refusal =
      check (leb (length s) 16_384) 1
      (check (whole_file s) 2
      (check first_ok 3
      (check (roles_ok (groups_of shape_in)) 4
      (check (sizes_ok shape_in) 5
      0))))
