-- `HeadedPlan::payments_ok` is check 6 of the payments.
use mathlib.Core.Path.{◌∙◌}
use mathlib.Core.List.{[]}
use lib.ListN.{take}
use borrow.Author.Tests.{tests}
use Rattle.std.proofs.Common.{rules}
use Rattle.std.proofs.lemmas.Iterator.{YieldsList-from_slice}
use Rattle.plan.proofs.All.{all_ran}
use Rattle.plan.proofs.Checks.{payments_tested, payments_ok_law}
use Rattle.plan.proofs.headed.HeadedPlan.payments_ok.Goals as goal

pub returns : goal.returns
returns c =
    let plan = c.args.self.plan.now in
    all_ran (record { payments = [] }) (payments_tested plan.years) _ _ _ c.all.ensures.ran (YieldsList-from_slice (take plan.instruments plan.instrument) cc)
    (λ x q k. search (rules, tests)) (λ x q k. search (rules, tests))
    ∙ payments_ok_law plan c.args.self.head.years_few
