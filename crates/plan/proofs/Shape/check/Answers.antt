-- `Shape::check` is check 3: each of the four counts is tested.
use mathlib.Core.Path.{◌≡◌, ◌∙◌}
use Rattle.whole.specs.Test.{is_from}
use Rattle.plan.specs.Refusal.{shape_ok}
use Rattle.plan.proofs.Inside.{counted}
use Rattle.plan.proofs.Shape.check.Goals as goal
use Rattle.plan.proofs.Shape.check.Goals.{
  After-contains-patterns,
  else-years-via-then-years+then-instruments+then-terms+else-patterns,
  else-years-via-then-years+then-instruments+else-terms,
  else-years-via-then-years+else-instruments,
  else-years-via-else-years,
}

tested : (c : After-contains-patterns) → (is_from 1 30 c.args.self.years ≡ c.contains-years.result) × (is_from 1 16 c.args.self.instruments ≡ c.contains-instruments.result)
    × (is_from 1 30 c.args.self.terms ≡ c.contains-terms.result) × (is_from 1 64 c.args.self.patterns ≡ c.contains-patterns.result)
tested c = (
  counted _ c.new.ensures.start c.new.ensures.end c.new.ensures.exhausted c.contains-years.ensures.value,
  counted _ c.new-2.ensures.start c.new-2.ensures.end c.new-2.ensures.exhausted c.contains-instruments.ensures.value,
  counted _ c.new-3.ensures.start c.new-3.ensures.end c.new-3.ensures.exhausted c.contains-terms.ensures.value,
  counted _ c.new-4.ensures.start c.new-4.ensures.end c.new-4.ensures.exhausted c.contains-patterns.ensures.value,
)

pub returns-then-patterns : goal.returns-then-patterns
unfolding shape_ok
returns-then-patterns c =
    let t = tested c.before.before.before.before in
    rw (t.0 ∙ c.if-years.true, t.1 ∙ c.if-instruments.true, t.2 ∙ c.if-terms.true, t.3 ∙ c.if-patterns.true)

pub returns-else-years : goal.returns-else-years
unfolding shape_ok
returns-else-years c =
    let t = tested c.before in
    elim c.else-years.branch [
      | else-years-via-then-years+then-instruments+then-terms+else-patterns w ↦
          rw (t.0 ∙ w.if-years.true, t.1 ∙ w.if-instruments.true, t.2 ∙ w.if-terms.true, t.3 ∙ w.if-patterns.false)
      | else-years-via-then-years+then-instruments+else-terms w ↦ rw (t.0 ∙ w.if-years.true, t.1 ∙ w.if-instruments.true, t.2 ∙ w.if-terms.false)
      | else-years-via-then-years+else-instruments w ↦ rw (t.0 ∙ w.if-years.true, t.1 ∙ w.if-instruments.false)
      | else-years-via-else-years w ↦ rw (t.0 ∙ w.if-years.false)
    ]
