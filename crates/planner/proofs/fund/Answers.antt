-- `planner::fund` is the fund of the allocation at the pattern's rates.
use mathlib.Core.Path.{◌≡◌, refl, ap₂, ◌∙◌}
use Rattle.reckoning.specs.Answers.{fund_shown}
use Rattle.plan.specs.Numbers.{numbers}
use Rattle.patterns.specs.Pattern.{flow_reckoned}
use Rattle.planner.specs.Calls.{no_fund, fund_answer}
use Rattle.planner.proofs.Answers.{out_passed, out_accepted, shared_is, allocation_taken}
use Rattle.planner.proofs.Level.{fund_answered}
use Rattle.planner.proofs.fund.Goals as goal
use Rattle.planner.proofs.fund.Goals.{After-allocation_fund, After-from_residual}

refused : (c : After-from_residual) → fund_shown c.from_residual.result ≡ fund_answer (numbers c.args.plan.now) c.args.t
unfolding fund_answer
refused c = out_passed no_fund fund_shown (λ e. refl) _ c.from_residual.result c.from_residual.ensures.1 c.in_err-plan.ensures.is _

pub allocation_fund-requires : goal.allocation_fund-requires
allocation_fund-requires c = allocation_taken c.of.result c.of.ensures.allocated c.of-2.ensures.parts

pub returns-in_err-plan : goal.returns-in_err-plan
returns-in_err-plan c = let a = fund_answered _ _ (refused c) in record { is = a.0; near = a.1.0; level = a.1.1.0; theorem = a.1.1.1 }

accepted : (c : After-allocation_fund) → fund_shown c.allocation_fund.result ≡ fund_answer (numbers c.args.plan.now) c.args.t
unfolding fund_answer
accepted c =
    let called = c.in_ok-plan.ensures in
    out_accepted no_fund called.is (c.allocation_fund.ensures ∙ ap₂ flow_reckoned (shared_is called.plan_value c.of.result c.of.ensures.shared c.of-2.result.shares c.of-2.ensures.held) called.rates)

pub returns : goal.returns
returns c = let a = fund_answered _ _ (accepted c) in record { is = a.0; near = a.1.0; level = a.1.1.0; theorem = a.1.1.1 }
