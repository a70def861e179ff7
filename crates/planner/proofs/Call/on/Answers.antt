-- `planner::Call::on`: the checks of the plan, then the pattern's number.
use mathlib.Core.Path.{◌≡◌, sym, ap, ◌∙◌}
use Rattle.whole.specs.Test.{is_from}
use Rattle.plan.specs.declared.Plan.{Plan}
use Rattle.plan.proofs.Inside.{counted}
use Rattle.planner.proofs.Answers.{refused_plan, refused_pattern, refused_none}
use Rattle.planner.proofs.Call.on.Goals as goal
use Rattle.planner.proofs.Call.on.Goals.{After-contains}

pub returns-in_err-plan-clause-is : goal.returns-in_err-plan-clause-is
returns-in_err-plan-clause-is c = refused_plan _ _ _ c.from_residual.result c.from_residual.ensures.1 c.in_err-plan.ensures.is

among : (c : After-contains) → is_from 1 c.args.plan.now.patterns c.args.t ≡ c.contains.result
among c = ap (λ (plan : Plan). is_from 1 plan.patterns c.args.t) (sym c.in_ok-plan.ensures.plan) ∙ counted _ c.new.ensures.start c.new.ensures.end c.new.ensures.exhausted c.contains.ensures.value

pub returns-then-not-contains-clause-is : goal.returns-then-not-contains-clause-is
returns-then-not-contains-clause-is c = refused_pattern _ _ (sym c.in_ok-plan.ensures.is) (among c.before ∙ c.if-not-contains.true)

pub returns-clause-is : goal.returns-clause-is
returns-clause-is c = refused_none _ _ (sym c.in_ok-plan.ensures.is) (among c.before.before ∙ c.if-not-contains.false)
