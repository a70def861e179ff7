-- `layout` makes checks 1 to 5 in their order: past each, what is left of them decides.
use mathlib.Core.Path.{◌≡◌, sym, ◌∙◌}
use mathlib.Core.Bool.{Bool, true, false}
use mathlib.Core.List.{List}
use Prim.Native.Nat.{ℕ}
use native.Mathlib.Omega.{arith}
use lib.Dec.{leb}
use lib.ListN.{length}
use Rattle.std.proofs.lemmas.Result.{err_from_is_err_and}
use Rattle.refusal.specs.declared.Refusal.{Refusal}
use Rattle.refusal.specs.Number.{number_of}
use Rattle.records.specs.Cursor.{whole_file}
use Rattle.plan.specs.declared.Shape.{Shape}
use Rattle.plan.specs.Refusal.{check}
use Rattle.plan.proofs.Checks.{check_true}
use Rattle.plan.proofs.Number.{number_some}
use Rattle.planfile.specs.Groups.{groups_of}
use Rattle.planfile.specs.Checks.{shape_in, first_ok, roles_ok, sizes_ok, layout_refusal}
use Rattle.reader.proofs.layout.Goals as goal
use Rattle.reader.proofs.layout.Goals.{In_ok-head}

-- a check that refuses, whatever comes after it
fails : (b : Bool) (k rest : ℕ) (refused : Refusal) → number_of refused ≡ check b k 0 → number_of refused ≡ check b k rest
fails true k rest refused e = absurd (number_some refused e)
fails false k rest refused e = e

module _ (s : List ℕ) where
  abbrev after_4 : Shape → ℕ
  after_4 h = check (sizes_ok s h) 5 0

  abbrev after_3 : Shape → ℕ
  after_3 h = check (roles_ok s (groups_of h)) 4 (after_4 h)

  abbrev after_2 : ℕ
  after_2 = check (first_ok s) 3 (after_3 (shape_in s))

  abbrev after_1 : ℕ
  after_1 = check (whole_file s) 2 after_2

  refuses_1 : (refused : Refusal) → number_of refused ≡ check (leb (length s) 16_384) 1 0 → number_of refused ≡ layout_refusal s
  unfolding layout_refusal
  refuses_1 refused e = fails (leb (length s) 16_384) 1 after_1 refused e

  module _ (passed_1 : 0 ≡ check (leb (length s) 16_384) 1 0) where
    from_2 : layout_refusal s ≡ check (whole_file s) 2 after_2
    unfolding layout_refusal
    from_2 = rw (check_true (leb (length s) 16_384) 1 0 (omega arith) (sym passed_1))

    refuses_2 : (refused : Refusal) → number_of refused ≡ check (whole_file s) 2 0 → number_of refused ≡ layout_refusal s
    refuses_2 refused e = fails (whole_file s) 2 after_2 refused e ∙ sym from_2

    module _ (passed_2 : 0 ≡ check (whole_file s) 2 0) where
      from_3 : layout_refusal s ≡ after_2
      from_3 = from_2 ∙ rw (check_true (whole_file s) 2 0 (omega arith) (sym passed_2))

      refuses_3 : (refused : Refusal) → number_of refused ≡ check (first_ok s) 3 0 → number_of refused ≡ layout_refusal s
      refuses_3 refused e = fails (first_ok s) 3 (after_3 (shape_in s)) refused e ∙ sym from_3

      module _ (passed_3 : 0 ≡ check (first_ok s) 3 0) {h : Shape} (shape : h ≡ shape_in s) where
        from_4 : layout_refusal s ≡ after_3 h
        from_4 = from_3 ∙ rw (check_true (first_ok s) 3 0 (omega arith) (sym passed_3), shape)

        refuses_4 : (refused : Refusal) → number_of refused ≡ check (roles_ok s (groups_of h)) 4 0 → number_of refused ≡ layout_refusal s
        refuses_4 refused e = fails (roles_ok s (groups_of h)) 4 (after_4 h) refused e ∙ sym from_4

        from_5 : 0 ≡ check (roles_ok s (groups_of h)) 4 0 → layout_refusal s ≡ after_4 h
        from_5 passed_4 = from_4 ∙ rw (check_true (roles_ok s (groups_of h)) 4 0 (omega arith) (sym passed_4))

pub returns-in_err-length_ok-clause-is : goal.returns-in_err-length_ok-clause-is
returns-in_err-length_ok-clause-is c =
    let p = err_from_is_err_and c.from_residual.result c.from_residual.ensures.1 in
    rw (p.1, p.2) (refuses_1 _ _ c.in_err-length_ok.ensures)

pub returns-in_err-whole_file-clause-is : goal.returns-in_err-whole_file-clause-is
returns-in_err-whole_file-clause-is c =
    let p = err_from_is_err_and c.from_residual-in_err-whole_file.result c.from_residual-in_err-whole_file.ensures.1 in
    rw (p.1, p.2) (refuses_2 _ c.in_ok-length_ok.ensures _ c.in_err-whole_file.ensures)

pub returns-in_err-head-clause-is : goal.returns-in_err-head-clause-is
returns-in_err-head-clause-is c =
    let p = err_from_is_err_and c.from_residual-in_err-head.result c.from_residual-in_err-head.ensures.1 in
    rw (p.1, p.2) (refuses_3 _ c.in_ok-length_ok.ensures c.in_ok-whole_file.ensures _ c.in_err-head.ensures.is)

pub returns-in_err-roles_ok-clause-is : goal.returns-in_err-roles_ok-clause-is
returns-in_err-roles_ok-clause-is c =
    let p = err_from_is_err_and c.from_residual-in_err-roles_ok.result c.from_residual-in_err-roles_ok.ensures.1 in
    let b = c.in_ok-head.ensures in
    rw (p.1, p.2) (refuses_4 _ c.in_ok-length_ok.ensures c.in_ok-whole_file.ensures b.is b.shape _ c.in_err-roles_ok.ensures)

pub returns-in_err-sizes_ok-clause-is : goal.returns-in_err-sizes_ok-clause-is
returns-in_err-sizes_ok-clause-is c =
    let p = err_from_is_err_and c.from_residual-in_err-sizes_ok.result c.from_residual-in_err-sizes_ok.ensures.1 in
    let b = c.in_ok-head.ensures in
    rw (p.1, p.2) (c.in_err-sizes_ok.ensures ∙ sym (from_5 _ c.in_ok-length_ok.ensures c.in_ok-whole_file.ensures b.is b.shape c.in_ok-roles_ok.ensures))

pub returns-clause-is : goal.returns-clause-is
returns-clause-is c =
    let b = c.in_ok-head.ensures in
    c.in_ok-sizes_ok.ensures ∙ sym (from_5 _ c.in_ok-length_ok.ensures c.in_ok-whole_file.ensures b.is b.shape c.in_ok-roles_ok.ensures)
