-- `HeadedPlan::rates_ok` is check 8.
use mathlib.Core.Path.{◌∙◌}
use lib.ListN.{take}
use borrow.Author.Tests.{tests}
use Rattle.std.proofs.Common.{rules}
use Rattle.std.proofs.lemmas.Iterator.{YieldsList-from_slice}
use Rattle.plan.specs.Held.{missing_pattern}
use Rattle.plan.proofs.All.{all_ran}
use Rattle.plan.proofs.Checks.{rates_tested, rates_ok_law}
use Rattle.plan.proofs.headed.HeadedPlan.rates_ok.Goals as goal

pub returns : goal.returns
returns c =
    let plan = c.args.self.plan.now in
    all_ran missing_pattern (rates_tested plan.years) _ _ _ c.all.ensures.ran (YieldsList-from_slice (take plan.patterns plan.pattern) cc)
    (λ x q k. search (rules, tests)) (λ x q k. search (rules, tests))
    ∙ rates_ok_law plan c.args.self.head.years_few
