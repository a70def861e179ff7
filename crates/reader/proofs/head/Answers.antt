-- `head` is check 3: the first record, and then the numbers of its body.
use mathlib.Core.Path.{◌≡◌, sym, ap, ◌∙◌}
use mathlib.Core.Bool.{not}
use mathlib.Core.List.{List}
use Prim.Native.Nat.{ℕ, ◌+◌, ◌<◌}
use native.Mathlib.Omega.{arith}
use lib.Dec.{eqb}
use lib.ListN.{length, get_or}
use Rattle.plan.specs.Refusal.{shape_ok}
use Rattle.planfile.specs.Checks.{first_ok, shape_in}
use Rattle.reader.proofs.Walks.{Stands, front, stands, stops}
use Rattle.reader.proofs.Roles.{is_other, is_same}
use Rattle.reader.proofs.First.{is_head, none_first, other_kind, other_length, shape_left, byte, shape_made}
use Rattle.reader.proofs.head.Goals as goal
use Rattle.reader.proofs.head.Goals.{In-Some, After-ne, After-of-3}

pub returns-in_default-clause-is : goal.returns-in_default-clause-is
returns-in_default-clause-is c = rw (none_first c.args.file.now (stops (front c.of.ensures) c.in_default.ensures.steps.0))

-- the first record, and its kind
module _ (c : In-Some) where
  there : Stands c.args.file.now 0 c.in-Some.first
  there = stands (front c.of.ensures) c.in-Some.ensures.steps

module _ (c : After-ne) where
  tested : c.ne.result ≡ not (eqb c.in-Some.first.kind 1)
  tested = c.ne.ensures ∙ ap not (is_head c.in-Some.first.kind _ c.of-2.ensures)

pub returns-then-ne-clause-is : goal.returns-then-ne-clause-is
returns-then-ne-clause-is c =
    let d = (goal.at.returns-then-ne-clause-is c).In-Some in
    rw (other_kind c.args.file.now (there d) (is_other _ (sym (tested (goal.at.returns-then-ne-clause-is c).After-ne) ∙ c.if-ne.true)))

pub returns-in_default-body-clause-is : goal.returns-in_default-body-clause-is
returns-in_default-body-clause-is c =
    let d = (goal.at.returns-in_default-body-clause-is c).In-Some in
    rw (other_length c.args.file.now (there d) (λ e. omega (arith, c.in_default-body.len_below)))

pub returns-in_default-body-2-clause-is : goal.returns-in_default-body-2-clause-is
returns-in_default-body-2-clause-is c =
    let d = (goal.at.returns-in_default-body-2-clause-is c).In-Some in
    rw (other_length c.args.file.now (there d) (λ e. omega (arith, c.in_default-body.len_at_least)))

-- the shape that is made
module _ (c : After-of-3) where
  abbrev s : List ℕ
  s = c.args.file.now

  d : Stands s 0 c.in-Some.first
  d = there (goal.at.After-of-3 c).In-Some

  four : length c.in-Some.first.body.now ≡ 4
  four = omega (arith, c.in-len4.len_at_least, c.in-len4.len_below)

  left : first_ok s ≡ shape_ok (shape_in s)
  left = shape_left s d (is_same _ (sym (tested (goal.at.After-of-3 c).After-ne) ∙ c.if-ne.false)) four

  number : (k : ℕ) → k < 4 → get_or c.in-Some.first.body.now k 0 ≡ get_or s (4 + k) 0
  number = byte s d four

  made : record {
    years = c.from.result;
    instruments = c.from-n.result;
    terms = c.from-2.result;
    patterns = c.from-3.result;
    opened = c.has_role-opened.result;
    costed = c.has_role.result;
  } ≡ shape_in s
  made = shape_made s
      (c.from.ensures ∙ number 0 (omega arith))
      (c.from-n.ensures ∙ number 1 (omega arith))
      (c.from-2.ensures ∙ number 2 (omega arith))
      (c.from-3.ensures ∙ number 3 (omega arith))
      c.has_role-opened.ensures
      c.from-4.ensures
      c.has_role.ensures

pub returns-clause-is : goal.returns-clause-is
returns-clause-is c =
    let a = (goal.at.returns-clause-is c).After-of-3 in
    c.of-3.ensures.is ∙ rw (left a, made a)

pub returns-clause-shape : goal.returns-clause-shape
returns-clause-shape c =
    let a = (goal.at.returns-clause-shape c).After-of-3 in
    rw (← made a) c.of-3.ensures.kept
