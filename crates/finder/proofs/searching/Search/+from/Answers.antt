-- `finder::searching::Search::from` goes instrument by instrument, and the instruments left fall (Placing).
use mathlib.Core.Path.{refl, ap, ◌∙◌}
use mathlib.Core.Bool.{Bool}
use Prim.Native.Nat.{◌-◌}
use native.Mathlib.Nat.{mul-le-mul_right}
use native.Mathlib.Omega.{arith}
use Rattle.whole.specs.Test.{pick}
use Rattle.finder.specs.Find.{not_found}
use Rattle.finder.proofs.First.{hit}
use Rattle.finder.proofs.LineLaws.{passes_not, passes_looked}
use Rattle.finder.proofs.Placing.{set_few, last_whole, next_placing, last_tells, try_start, try_found, try_turn, try_end}
use Rattle.finder.proofs.searching.Search.+from.Goals as goal
use Rattle.finder.proofs.searching.Search.+from.Goals.{else-below_none-via-then-below_none+else-look, else-below_none-via-else-below_none}

pub with-last-requires-clause-few : goal.with-last-requires-clause-few
with-last-requires-clause-few t c = set_few c.requires c.args.self.now.instruments_few _ (omega arith)

pub look-requires : goal.look-requires
look-requires t c = last_whole c.requires c.args.self.now.instruments_few c.if-others-eq0.true c.with-last.ensures

pub returns-then-look : goal.returns-then-look
returns-then-look t c =
    ap (λ (b : Bool). pick b (hit c.with-last.result.shares) (not_found 0)) (passes_looked _ _ _ _ c.if-below_none.ensures c.if-look.ensures)
    ∙ last_tells _ _ _ _ _ _ c.if-others-eq0.true c.with-last.ensures

pub returns-else-below_none : goal.returns-else-below_none
returns-else-below_none t c =
    elim c.else-below_none.branch [
      | else-below_none-via-then-below_none+else-look w ↦
          ap (λ (b : Bool). pick b (hit c.with-last.result.shares) (not_found 0)) (passes_looked _ _ _ _ w.if-below_none.ensures w.if-look.ensures)
          ∙ last_tells _ _ _ _ _ _ c.if-others-eq0.true c.with-last.ensures
      | else-below_none-via-else-below_none w ↦
          ap (λ (b : Bool). pick b (hit c.with-last.result.shares) (not_found 0)) (passes_not _ _ _ _ w.if-below_none.ensures)
          ∙ last_tells _ _ _ _ _ _ c.if-others-eq0.true c.with-last.ensures
    ]

pub loop-s-init : goal.loop-s-init
loop-s-init t c = try_start _ _ _ _ _ _ c.if-others-eq0.false

pub with-next-requires-clause-few : goal.with-next-requires-clause-few
with-next-requires-clause-few t c = set_few c.requires c.args.self.now.instruments_few _ (mul-le-mul_right c.args.self.now.unit (omega (arith, c.loop-s.invariant.upto)))

pub from-requires : goal.from-requires
from-requires t c = (
  omega (arith, c.decreases, c.if-others-eq0.false),
  next_placing c.requires c.args.self.now.instruments_few c.if-others-eq0.false (c.loop-s.s - 1) (omega (arith, c.loop-s.invariant.upto)) c.with-next.ensures,
)

pub returns-in-Some : goal.returns-in-Some
returns-in-Some t c = try_found _ _ _ _ _ _ c.loop-s-test.true c.loop-s.invariant c.with-next.ensures c.in-Some.ensures refl

pub loop-s-preserved : goal.loop-s-preserved
loop-s-preserved t c = try_turn _ _ _ _ _ _ c.loop-s-test.true c.loop-s.invariant c.with-next.ensures c.in_default.ensures refl

pub returns : goal.returns
returns t c = try_end _ _ _ _ _ _ _ (omega (arith, c.loop-s-test.false)) c.loop-s.invariant
