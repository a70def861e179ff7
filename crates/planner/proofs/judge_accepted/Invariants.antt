-- `planner::judge_accepted` fills in the row of one pattern after the other, until check 11 refuses one (RowLaws, `Rowed`).
use Rattle.plan.specs.Numbers.{numbers}
use Rattle.planner.proofs.RowLaws.{Rowed}
use Rattle.planner.proofs.judge_accepted.Given as goal

abbrev pub invariant-loop-t : goal.invariant-loop-t
invariant-loop-t l = Rowed (numbers l.plan.plan.now) l.row-items l.t
