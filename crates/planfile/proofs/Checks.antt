-- What checks 3, 4 and 5 say of the records of a file s: what a file that passes has, and what passes.
use mathlib.Core.Path.{◌≡◌, ap}
use mathlib.Core.Bool.{Bool, true, false}
use mathlib.Core.List.{List}
use Prim.Native.Nat.{ℕ, ◌≤◌, ◌<◌}
use native.Mathlib.Omega.{arith}
use borrow.Author.Tests.{eqb-true, eq-eqb}
use lib.Dec.{eqb, leb}
use lib.ListN.{length}
use Rattle.whole.specs.Test.{both, all}
use Rattle.whole.proofs.Test.{both_first, both_second, all_at, all_fails, all_yes}
use Rattle.records.specs.Cursor.{whole_at, whole_file, place, kind_at, body_at}
use Rattle.records.proofs.Cursor.{whole_end, length_body, Consists}
use Rattle.plan.specs.declared.Shape.{Shape}
use Rattle.plan.specs.Held.{Held}
use Rattle.plan.specs.Numbers.{meaning}
use Rattle.plan.specs.Refusal.{check, shape_ok, head_ok, Head}
use Rattle.plan.proofs.Checks.{check_true, check_rest, head_is}
use Rattle.planfile.specs.Groups.{Group}
use Rattle.planfile.specs.Kinds.{role_of, size_of}
use Rattle.planfile.specs.Groups.{groups_of, total, spot_at, none}
use Rattle.planfile.specs.Checks.{shape_in, has_role, first_ok, role_ok, roles_ok, size_ok, sizes_ok, layout_refusal}
use Rattle.planfile.specs.Records.{held_of}
use Rattle.planfile.specs.Reading.{InRange, Laid}

-- ---- check 3
pub head_range : (H : Held) → Head (meaning H) → InRange H.shape
head_range H k = record {
  years_some = k.years_some;
  years_few = k.years_few;
  instruments_few = k.instruments_few;
  terms_few = k.terms_few;
  patterns_few = k.patterns_few;
}

pub shape_range : (h : Shape) → shape_ok h ≡ true → InRange h
unfolding shape_ok head_ok held_of
shape_range h e = let H = held_of h (λ role j. none) in head_range H (head_is (meaning H) e)

module _ (s : List ℕ) where
  -- what a file that passes has
  module _ (e : first_ok s ≡ true) where
    body_passed : both (eqb (length (body_at s 0)) 4) (shape_ok (shape_in s)) ≡ true
    unfolding first_ok
    body_passed = both_second (eqb (kind_at s 0) 1) _ (both_second (whole_at s 0) _ e)

    pub first_shape : shape_ok (shape_in s) ≡ true
    first_shape = both_second (eqb (length (body_at s 0)) 4) _ body_passed

    pub first_long : 8 ≤ length s
    unfolding first_ok place
    first_long =
        let w : whole_at s 0 ≡ true = both_first _ _ e in
        let four = eqb-true (length (body_at s 0)) 4 (both_first _ _ body_passed) in
        omega (arith, whole_end s 0 w, length_body s 0 w)

-- ---- the role of record t
module _ (s : List ℕ) (t role : ℕ) where
  -- no record is whole there
  pub has_none : whole_at s (place s t) ≡ false → has_role s t role ≡ false
  unfolding has_role
  has_none w = rw w

-- ---- check 4
module _ (s : List ℕ) (gs : List Group) where
  pub roles_fail : (t : ℕ) → t < total gs → role_ok s gs t ≡ false → roles_ok s gs ≡ false
  unfolding roles_ok
  roles_fail t l e = ap (λ (b : Bool). both b (eqb (place s (total gs)) (length s))) (all_fails _ _ t l e)

  -- what a file that passes has
  module _ (e : roles_ok s gs ≡ true) where
    passed : (t : ℕ) → t < total gs → has_role s t (spot_at gs t).role ≡ true
    unfolding roles_ok role_ok
    passed t l = all_at _ (role_ok s gs) t l (both_first _ _ e)

    pub roles_consist : Consists s (total gs)
    unfolding roles_ok has_role
    roles_consist = record {
      whole = λ t l. both_first _ _ (passed t l);
      ends = eqb-true _ _ (both_second (all (total gs) (role_ok s gs)) _ e);
    }

    pub role_there : (t : ℕ) → t < total gs → role_of (kind_at s t) ≡ (spot_at gs t).role
    unfolding has_role
    role_there t l = eqb-true _ _ (both_second (whole_at s (place s t)) _ (passed t l))

  -- and what passes
  pub roles_pass : ((t : ℕ) → t < total gs → has_role s t (spot_at gs t).role ≡ true) → place s (total gs) ≡ length s → roles_ok s gs ≡ true
  unfolding roles_ok role_ok
  roles_pass r e = rw (all_yes (total gs) (role_ok s gs) r) (eq-eqb _ _ e)

-- ---- check 5
module _ (s : List ℕ) (h : Shape) where
  -- what record t of a file that passes has
  pub size_there : sizes_ok s h ≡ true → (t : ℕ) → t < total (groups_of h) → length (body_at s t) ≡ size_of h (kind_at s t)
  unfolding sizes_ok size_ok
  size_there e t l = eqb-true _ _ (all_at _ (size_ok s h) t l e)

  -- and what passes
  pub sizes_pass : ((t : ℕ) → t < total (groups_of h) → length (body_at s t) ≡ size_of h (kind_at s t)) → sizes_ok s h ≡ true
  unfolding sizes_ok size_ok
  sizes_pass r = all_yes (total (groups_of h)) (size_ok s h) (λ t l. eq-eqb _ _ (r t l))

-- ---- checks 1 to 5 together
module _ (s : List ℕ) (e : layout_refusal s ≡ 0) where
  from_3 : check (first_ok s) 3 (check (roles_ok s (groups_of (shape_in s))) 4 (check (sizes_ok s (shape_in s)) 5 0)) ≡ 0
  unfolding layout_refusal
  from_3 = check_rest (whole_file s) 2 _ (omega arith) (check_rest (leb (length s) 16_384) 1 _ (omega arith) e)

  pub layout_first : first_ok s ≡ true
  layout_first = check_true (first_ok s) 3 _ (omega arith) from_3

  pub layout_laid : Laid s (shape_in s)
  layout_laid =
      let from-4 = check_rest (first_ok s) 3 _ (omega arith) from_3 in
      let from-5 = check_rest (roles_ok s (groups_of (shape_in s))) 4 _ (omega arith) from-4 in
      record {
        range = shape_range (shape_in s) (first_shape s layout_first);
        roles = check_true (roles_ok s (groups_of (shape_in s))) 4 _ (omega arith) from-4;
        sizes = check_true (sizes_ok s (shape_in s)) 5 _ (omega arith) from-5;
      }
