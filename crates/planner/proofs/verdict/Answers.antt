-- `planner::verdict` is the verdict of the plan's judgement, and what it means.
use mathlib.Core.Path.{◌≡◌, ◌∙◌}
use Rattle.whole.proofs.Answer.{passed_on}
use Rattle.plan.specs.Numbers.{numbers}
use Rattle.planner.specs.Shown.{verdict_shown}
use Rattle.planner.specs.Verdict.{verdict_answer}
use Rattle.planner.proofs.Demand3.{verdict_answered}
use Rattle.planner.proofs.VerdictLaws.{verdict_judged}
use Rattle.planner.proofs.verdict.Goals as goal
use Rattle.planner.proofs.verdict.Goals.{After-from_residual}

refused : (c : After-from_residual) → verdict_shown c.from_residual.result ≡ verdict_answer (numbers c.args.plan.now)
refused c = rw (passed_on c.from_residual.result c.from_residual.ensures.1) (verdict_judged _ c.in_err-judge.ensures)

pub returns-in_err-judge : goal.returns-in_err-judge
returns-in_err-judge c = let a = verdict_answered _ (refused c) in record { is = a.0; near = a.1.0; flow = a.1.1.0; horizon = a.1.1.1.0; plain = a.1.1.1.1.0; alike = a.1.1.1.1.1 }

pub returns : goal.returns
returns c = let a = verdict_answered _ (c.verdict.ensures ∙ verdict_judged _ c.in_ok-judge.ensures) in record { is = a.0; near = a.1.0; flow = a.1.1.0; horizon = a.1.1.1.0; plain = a.1.1.1.1.0; alike = a.1.1.1.1.1 }
