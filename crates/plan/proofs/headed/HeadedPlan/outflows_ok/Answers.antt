-- `HeadedPlan::outflows_ok` is check 6 of the outflows.
use mathlib.Core.Path.{◌∙◌}
use Rattle.plan.proofs.Checks.{outflows_ok_law}
use Rattle.plan.proofs.headed.HeadedPlan.outflows_ok.Goals as goal

pub returns : goal.returns
returns c = c.all_between.ensures ∙ outflows_ok_law c.args.self.plan.now
