-- `planner::judge` is refused with the plan, or judges one that is accepted.
use Rattle.whole.proofs.Answer.{passed_on}
use Rattle.planner.proofs.VerdictLaws.{plan_refuses, judged_refused}
use Rattle.planner.proofs.judge.Goals as goal

pub returns-in_err-accepted : goal.returns-in_err-accepted
returns-in_err-accepted c = rw (passed_on c.from_residual.result c.from_residual.ensures.1) (judged_refused _ _ (plan_refuses _ _ c.in_err-accepted.ensures.is))
