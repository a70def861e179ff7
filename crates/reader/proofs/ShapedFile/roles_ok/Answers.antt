-- `roles_ok` is check 4.
use mathlib.Core.Path.{◌≡◌, sym, ap, ap₂, ◌∙◌}
use mathlib.Core.Bool.{true, not}
use native.Mathlib.Omega.{arith}
use lib.Dec.{eqb}
use Rattle.std.proofs.Common.{rules}
use Rattle.whole.specs.Test.{all}
use Rattle.whole.proofs.Test.{all_none, all_more}
use Rattle.records.proofs.Cursor.{place_none}
use Rattle.planfile.specs.Kinds.{role_of}
use Rattle.planfile.specs.Groups.{Spot, groups_of, spot_at, spot_shown}
use Rattle.planfile.specs.Checks.{role_ok}
use Rattle.reader.proofs.Walks.{IsAt, Stands, front, stands, goes_on, stops}
use Rattle.reader.proofs.Roles.{same_role, is_other, is_same}
use Rattle.reader.proofs.Order.{past_fails, other_fails, role_is, all_seen, not_at_end, not_all, spotless}
use Rattle.reader.proofs.ShapedFile.roles_ok.Goals as goal
use Rattle.reader.proofs.ShapedFile.roles_ok.Goals.{In-Some, After-ne, In-None, else-seen-count-via-then-seen-count+else-end-self, else-seen-count-via-else-seen-count}

pub loop-t-init : goal.loop-t-init
loop-t-init c =
    let e = c.into_iter-t-iterator.ensures.into_iter_gives in
    let n = c.enumerate-t-items.ensures in
    (search rules, tt, rw e n.count, rw e (front (n.source ∙ c.of.ensures)), sym (place_none _), all_none _)

-- record t
module _ (c : In-Some) where
  at_t : c.in-Some.t ≡ c.loop-t.seen
  at_t = c.in-Some.ensures.steps.1 ∙ c.loop-t.invariant.2

  here : IsAt c.args.self.file.now c.in-Some.t c.loop-t.t-iterator.iter
  here = rw at_t c.loop-t.invariant.3

  there : Stands c.args.self.file.now c.in-Some.t c.in-Some.record
  there = stands here c.in-Some.ensures.steps.0

  passed : all c.in-Some.t (role_ok c.args.self.file.now (groups_of c.args.self.shaped.shape)) ≡ true
  passed = rw at_t c.loop-t.invariant.5

pub returns-in_default : goal.returns-in_default
returns-in_default c =
    let f = there (goal.at.returns-in_default c).In-Some in
    rw (past_fails c.args.self.file.now (groups_of c.args.self.shaped.shape) c.in-Some.t (spotless c.args.self.shaped.shape c.in-Some.t c.spot_at.ensures c.in_default.is) f.whole)

-- its role, and that of its spot
module _ (c : After-ne) where
  tested : c.ne.result ≡ not (eqb (role_of c.in-Some.record.kind) (spot_at (groups_of c.args.self.shaped.shape) c.in-Some.t).role)
  tested =
      let x = ap (λ (x : Spot). x.role) (ap spot_shown (sym c.in-Some-spot_at.is) ∙ c.spot_at.ensures) in
      c.ne.ensures ∙ ap not (same_role _ _ ∙ ap₂ eqb c.role_of.ensures x)

pub returns-then-ne : goal.returns-then-ne
returns-then-ne c =
    let d = (goal.at.returns-then-ne c).In-Some in
    let n = is_other _ (sym (tested (goal.at.returns-then-ne c).After-ne) ∙ c.if-ne.true) in
    rw (other_fails c.args.self.file.now (groups_of c.args.self.shaped.shape) (there d) n)

pub loop-t-preserved : goal.loop-t-preserved
loop-t-preserved c =
    let d = (goal.at.loop-t-preserved c).In-Some in
    let g = c.in-Some.ensures.steps in
    let i = is_same _ (sym (tested (goal.at.loop-t-preserved c).After-ne) ∙ c.if-ne.false) in (
      c.in-Some.ensures.goes.keeps,
      tt,
      omega (arith, g.1, g.2),
      goes_on (here d) g.0,
      (there d).end,
      all_more _ _ (passed d) (role_is c.args.self.file.now (groups_of c.args.self.shaped.shape) (there d) ∙ i),
    )

pub returns-then-end-self : goal.returns-then-end-self
returns-then-end-self c =
    let l = c.loop-t.invariant in
    rw (all_seen c.args.self.file.now (groups_of c.args.self.shaped.shape) c.loop-t.seen l.5 (c.if-seen-count.true ∙ c.count.ensures) (sym l.4 ∙ c.if-end-self.true))

pub returns-else-seen-count : goal.returns-else-seen-count
returns-else-seen-count c =
    let s = c.args.self.file.now in
    let gs = groups_of c.args.self.shaped.shape in
    let l = c.loop-t.invariant in
    elim c.else-seen-count.branch [
      | else-seen-count-via-then-seen-count+else-end-self w ↦ rw (not_at_end s gs c.loop-t.seen l.5 (w.if-seen-count.true ∙ c.count.ensures) (λ e. w.if-end-self.false (l.4 ∙ e)))
      | else-seen-count-via-else-seen-count w ↦ rw (not_all s gs c.loop-t.seen l.5 (λ e. w.if-seen-count.false (e ∙ sym c.count.ensures)) (stops l.3 c.in-None.ensures.steps.0.0))
    ]
