-- `put` reads record after record: the plan is that after t records (Filling, `plan_after`), and the walk is at the next.
use mathlib.Core.Path.{◌≡◌, refl, sym, ap, ◌∙◌}
use mathlib.Core.Logic.{⊎_elim}
use mathlib.Core.List.{List}
use Prim.Native.Nat.{ℕ, ◌+◌, ◌≤◌, ◌<◌}
use native.Mathlib.Omega.{arith}
use lib.ListN.{length}
use Rattle.std.specs.Prelude.{Some}
use Rattle.std.proofs.Common.{rules}
use Rattle.whole.specs.Entry.{nth}
use Rattle.whole.proofs.Laws.{ℕ_cases}
use Rattle.whole.proofs.Test.{false_true}
use Rattle.records.specs.Cursor.{kind_at, body_at}
use Rattle.plan.specs.declared.Plan.{Plan}
use Rattle.plan.specs.declared.Shape.{Shape}
use Rattle.plan.specs.declared.Pattern.TheVariants.{Rates}
use Rattle.planfile.specs.Kinds.{role_of, kind_number, size_of}
use Rattle.planfile.specs.Groups.{Spot, groups_of, total, spot_at, count_of}
use Rattle.planfile.specs.Reading.{InRange}
use Rattle.planfile.proofs.Checks.{roles_consist, role_there, size_there}
use Rattle.planfile.proofs.Groups.{spot_back, role_some}
use Rattle.reader.proofs.Walks.{IsAt, Stands, front, stands, goes_to, stops}
use Rattle.reader.proofs.Order.{none_past, spotless}
use Rattle.reader.proofs.Filling.{
  Turn,
  turn,
  list_row,
  slope_row,
  plan_after,
  after_none,
  after_all,
  fill_head,
  fill_instrument,
  fill_outflows,
  fill_rollover,
  fill_pattern,
  fill_allocation,
  fill_opening,
  fill_cost,
}
use Rattle.reader.proofs.ShapedFile.put.Given.{iterator-loop-t}
use Rattle.reader.proofs.ShapedFile.put.Goals as goal
use Rattle.reader.proofs.ShapedFile.put.Goals.{In-Some, In-Some-Some}

pub loop-t-init : goal.loop-t-init
loop-t-init c =
    let e = c.into_iter-t-iterator.ensures.into_iter_gives in
    let n = c.enumerate-t-items.ensures in
    let z : c.into_iter-t-iterator.result.count ≡ 0 = rw e n.count in
    (search rules, tt, omega (arith, z), rw z (rw e (front (n.source ∙ c.of.ensures))), rw z (c.requires.empty ∙ after_none _ _))

-- ---- the record that was found
module _ (c : In-Some) where
  abbrev s : List ℕ
  s = c.args.self.file.now

  abbrev h : Shape
  h = c.args.self.shaped.shape

  abbrev t : ℕ
  t = c.loop-t.t-iterator.count

  here : IsAt s t c.loop-t.t-iterator.iter
  here = c.loop-t.invariant.3

  there : Stands s t c.in-Some.record
  there = stands here c.in-Some.ensures.steps.0

  inside : t < total (groups_of h)
  inside = ⊎_elim
      (λ (l : t < total (groups_of h)). l)
      (λ (l : total (groups_of h) ≤ t). absurd (false_true (sym (none_past s (groups_of h) c.requires.laid.roles t l) ∙ there.whole)))
      (ℕ_cases t (total (groups_of h)))

  -- it is of some kind
  some : 0 < role_of c.in-Some.record.kind
  some =
      let b = role_some h (spot_at (groups_of h) t).role (spot_at (groups_of h) t).index (spot_back h t inside).index in
      omega (arith, b, ap role_of there.kind, role_there s (groups_of h) c.requires.laid.roles t inside)

  next : IsAt s c.next.new.self.count c.next.new.self.iter
  next = goes_to here c.in-Some.ensures.steps.0 c.in-Some.ensures.steps.2

  few : c.next.new.self.count ≤ total (groups_of h)
  few = omega (arith, c.in-Some.ensures.steps.2, inside)

pub returns-in_default : goal.returns-in_default
returns-in_default c =
    let d = (goal.at.returns-in_default c).In-Some in
    let past = spotless (h d) c.in-Some.t c.spot_at.ensures c.in_default.is-1 in
    absurd (omega (arith, inside d, past, c.in-Some.ensures.steps.1))

pub returns-in_default-2 : goal.returns-in_default-2
returns-in_default-2 c =
    let d = (goal.at.returns-in_default-2 c).In-Some in
    let none = rw c.in_default.is-0 at c.of-in-loop-t.ensures in
    absurd (omega (arith, some d, none))

-- ---- its kind, and which of its role it is
module _ (c : In-Some-Some) where
  abbrev d : In-Some
  d = (goal.at.In-Some-Some c).In-Some

  range : InRange (h d)
  range = c.requires.laid.range

  module _ {k : ℕ} (e : kind_number c.in-Some-Some.kind ≡ k) where
    is : kind_at (s d) (t d) ≡ k
    is = sym (there d).kind ∙ sym c.in-Some-Some.ensures ∙ e

    sized : length c.in-Some.record.body.now ≡ size_of (h d) k
    sized = ap length (there d).body ∙ size_there (s d) (h d) c.requires.laid.sizes (t d) (inside d) ∙ ap (size_of (h d)) is

    turned : Turn (s d) (h d) (t d) (role_of k) c.in-Some-Some.spot.index
    turned = turn (s d) (h d) c.requires.laid.roles (t d) (inside d) (ap role_of is)
        (ap (λ (x : Spot). x.index) (c.in-Some-Some.ensures' ∙ ap (spot_at (groups_of (h d))) c.in-Some.ensures.steps.1))

  -- an instrument and a pattern have their places
  instrument_few : kind_number c.in-Some-Some.kind ≡ 2 → c.in-Some-Some.spot.index < 16
  unfolding role_of nth groups_of count_of
  instrument_few e = omega (arith, (turned e).few, range.instruments_few)

  pattern_few : {k : ℕ} → kind_number c.in-Some-Some.kind ≡ k → role_of k ≡ 5 → c.in-Some-Some.spot.index < 64
  unfolding groups_of count_of
  pattern_few e r = omega (arith, rw r at (turned e).few, range.patterns_few)

  -- the plan before it, its body, and the next turn
  held : c.loop-t.plan ≡ plan_after (s d) (h d) (t d)
  held = c.loop-t.invariant.4

  given : c.in-Some.record.body.now ≡ body_at (s d) (t d)
  given = (there d).body

  kept : {plan : Plan} → plan ≡ plan_after (s d) (h d) (t d + 1)
      → (iterator-loop-t).can_next c.next.new.self
      × (iterator-loop-t).is_finite c.next.new.self
      × (c.next.new.self.count ≤ total (groups_of (h d)))
      × IsAt (s d) c.next.new.self.count c.next.new.self.iter
      × (plan ≡ plan_after (s d) (h d) c.next.new.self.count)
  kept e = (c.in-Some.ensures.goes.keeps, tt, few d, next d, e ∙ ap (plan_after (s d) (h d)) (sym c.in-Some.ensures.steps.2))

pub loop-t-preserved-in-Head : goal.loop-t-preserved-in-Head
unfolding role_of nth
loop-t-preserved-in-Head c =
    let a = (goal.at.loop-t-preserved-in-Head c).In-Some-Some in
    let e = ap kind_number c.in-Head.is in
    kept a (fill_head _ _ (held a) (given a) (turned a e) refl refl refl refl refl)

pub numbers-payments-requires : goal.numbers-payments-requires
unfolding size_of nth
numbers-payments-requires c =
    let a = (goal.at.numbers-payments-requires c).In-Some-Some in
    let r = range a in
    let size = sized a (ap kind_number c.in-Instrument.is) in
    (omega arith, (omega arith, omega arith))

pub offset_bounds-plan-spot : goal.offset_bounds-plan-spot
offset_bounds-plan-spot c = let a = (goal.at.offset_bounds-plan-spot c).In-Some-Some in omega (arith, instrument_few a (ap kind_number c.in-Instrument.is))

pub bounds-plan-spot : goal.bounds-plan-spot
bounds-plan-spot c = let a = (goal.at.bounds-plan-spot c).In-Some-Some in instrument_few a (ap kind_number c.in-Instrument.is)

pub loop-t-preserved-in-Instrument : goal.loop-t-preserved-in-Instrument
unfolding role_of nth
loop-t-preserved-in-Instrument c =
    let a = (goal.at.loop-t-preserved-in-Instrument c).In-Some-Some in
    let e = ap kind_number c.in-Instrument.is in
    kept a (fill_instrument _ _ (held a) (given a) (turned a e) refl refl c.numbers-payments.ensures (instrument_few a e))

pub numbers-plan-requires : goal.numbers-plan-requires
unfolding size_of nth
numbers-plan-requires c =
    let a = (goal.at.numbers-plan-requires c).In-Some-Some in
    let r = range a in
    let size = sized a (ap kind_number c.in-Outflows.is) in
    (omega arith, (omega arith, omega arith))

pub loop-t-preserved-in-Outflows : goal.loop-t-preserved-in-Outflows
unfolding role_of nth
loop-t-preserved-in-Outflows c =
    let a = (goal.at.loop-t-preserved-in-Outflows c).In-Some-Some in
    let e = ap kind_number c.in-Outflows.is in
    kept a (fill_outflows _ _ (held a) (given a) (turned a e) refl c.numbers-plan.ensures)

pub numbers-plan-requires-in-Rollover : goal.numbers-plan-requires-in-Rollover
unfolding size_of nth
numbers-plan-requires-in-Rollover c =
    let a = (goal.at.numbers-plan-requires-in-Rollover c).In-Some-Some in
    let r = range a in
    let size = sized a (ap kind_number c.in-Rollover.is) in
    (omega arith, (omega arith, omega arith))

pub loop-t-preserved-in-Rollover : goal.loop-t-preserved-in-Rollover
unfolding role_of nth
loop-t-preserved-in-Rollover c =
    let a = (goal.at.loop-t-preserved-in-Rollover c).In-Some-Some in
    let e = ap kind_number c.in-Rollover.is in
    kept a (fill_rollover _ _ (held a) (given a) (turned a e) refl c.numbers-plan-in-Rollover.ensures)

pub rates-requires : goal.rates-requires
unfolding size_of nth
rates-requires c =
    let a = (goal.at.rates-requires c).In-Some-Some in
    let r = range a in
    let size = sized a (ap kind_number c.in-Rates.is) in
    record { few = omega arith; sized = omega arith }

pub offset_bounds-plan-spot-in-Rates : goal.offset_bounds-plan-spot-in-Rates
unfolding role_of nth
offset_bounds-plan-spot-in-Rates c = let a = (goal.at.offset_bounds-plan-spot-in-Rates c).In-Some-Some in omega (arith, pattern_few a (ap kind_number c.in-Rates.is) refl)

pub bounds-plan-spot-in-Rates : goal.bounds-plan-spot-in-Rates
unfolding role_of nth
bounds-plan-spot-in-Rates c = let a = (goal.at.bounds-plan-spot-in-Rates c).In-Some-Some in pattern_few a (ap kind_number c.in-Rates.is) refl

pub loop-t-preserved-in-Rates : goal.loop-t-preserved-in-Rates
unfolding role_of nth
loop-t-preserved-in-Rates c =
    let a = (goal.at.loop-t-preserved-in-Rates c).In-Some-Some in
    let e = ap kind_number c.in-Rates.is in
    kept a (fill_pattern _ _ (held a) (given a) (turned a e) refl refl (ap Rates c.rates.ensures ∙ list_row _ _ _ (is a e)) (pattern_few a e refl))

pub numbers-plan-requires-in-Allocation : goal.numbers-plan-requires-in-Allocation
unfolding size_of nth
numbers-plan-requires-in-Allocation c =
    let a = (goal.at.numbers-plan-requires-in-Allocation c).In-Some-Some in
    let r = range a in
    let size = sized a (ap kind_number c.in-Allocation.is) in
    (omega arith, (omega arith, omega arith))

pub loop-t-preserved-in-Allocation : goal.loop-t-preserved-in-Allocation
unfolding role_of nth
loop-t-preserved-in-Allocation c =
    let a = (goal.at.loop-t-preserved-in-Allocation c).In-Some-Some in
    let e = ap kind_number c.in-Allocation.is in
    kept a (fill_allocation _ _ (held a) (given a) (turned a e) refl c.numbers-plan-in-Allocation.ensures)

pub numbers-requires : goal.numbers-requires
unfolding size_of nth
numbers-requires c =
    let a = (goal.at.numbers-requires c).In-Some-Some in
    let r = range a in
    let size = sized a (ap kind_number c.in-Opening.is) in
    (omega arith, (omega arith, omega arith))

pub loop-t-preserved-in-Opening : goal.loop-t-preserved-in-Opening
unfolding role_of nth
loop-t-preserved-in-Opening c =
    let a = (goal.at.loop-t-preserved-in-Opening c).In-Some-Some in
    let e = ap kind_number c.in-Opening.is in
    kept a (fill_opening _ _ (held a) (given a) (turned a e) refl (ap Some c.numbers.ensures))

pub slope-requires : goal.slope-requires
unfolding size_of nth
slope-requires c =
    let a = (goal.at.slope-requires c).In-Some-Some in
    let r = range a in
    let size = sized a (ap kind_number c.in-Slope.is) in
    omega arith

pub offset_bounds-plan-spot-in-Slope : goal.offset_bounds-plan-spot-in-Slope
unfolding role_of nth
offset_bounds-plan-spot-in-Slope c = let a = (goal.at.offset_bounds-plan-spot-in-Slope c).In-Some-Some in omega (arith, pattern_few a (ap kind_number c.in-Slope.is) refl)

pub bounds-plan-spot-in-Slope : goal.bounds-plan-spot-in-Slope
unfolding role_of nth
bounds-plan-spot-in-Slope c = let a = (goal.at.bounds-plan-spot-in-Slope c).In-Some-Some in pattern_few a (ap kind_number c.in-Slope.is) refl

pub loop-t-preserved-in-Slope : goal.loop-t-preserved-in-Slope
unfolding role_of nth
loop-t-preserved-in-Slope c =
    let a = (goal.at.loop-t-preserved-in-Slope c).In-Some-Some in
    let e = ap kind_number c.in-Slope.is in
    kept a (fill_pattern _ _ (held a) (given a) (turned a e) refl refl (c.slope.ensures ∙ slope_row _ _ _ (is a e)) (pattern_few a e refl))

pub numbers-requires-in-Cost : goal.numbers-requires-in-Cost
unfolding size_of nth
numbers-requires-in-Cost c =
    let a = (goal.at.numbers-requires-in-Cost c).In-Some-Some in
    let r = range a in
    let size = sized a (ap kind_number c.in-Cost.is) in
    (omega arith, (omega arith, omega arith))

pub loop-t-preserved : goal.loop-t-preserved
unfolding role_of nth
loop-t-preserved c =
    let a = (goal.at.loop-t-preserved c).In-Some-Some in
    let e = ap kind_number c.in-Cost.is in
    kept a (fill_cost _ _ (held a) (given a) (turned a e) refl (ap Some c.numbers-in-Cost.ensures))

pub returns : goal.returns
returns c =
    let s = c.args.self.file.now in
    let h = c.args.self.shaped.shape in
    let l = c.loop-t.invariant in
    let none = stops l.3 c.in-None.ensures.steps.0.0 in
    let e : c.loop-t.t-iterator.count ≡ total (groups_of h) = ⊎_elim
    (λ (m : c.loop-t.t-iterator.count < total (groups_of h)). absurd (false_true (sym none ∙ (roles_consist s (groups_of h) c.requires.laid.roles).whole c.loop-t.t-iterator.count m)))
    (λ (m : total (groups_of h) ≤ c.loop-t.t-iterator.count). omega (arith, m, l.2))
    (ℕ_cases c.loop-t.t-iterator.count (total (groups_of h))) in
    l.4 ∙ ap (plan_after s h) e ∙ after_all s h
