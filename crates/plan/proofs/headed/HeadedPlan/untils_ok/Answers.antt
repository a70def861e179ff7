-- `HeadedPlan::untils_ok` is check 13: a row that passes has the widths of its types.
use mathlib.Core.Path.{◌≡◌, ◌∙◌}
use mathlib.Core.Bool.{true, false}
use lib.ListN.{take}
use borrow.Author.Tests.{tests}
use Rattle.std.proofs.Common.{rules}
use Rattle.std.proofs.lemmas.Iterator.{YieldsList-from_slice, cases_from_all}
use Rattle.plan.specs.declared.Pattern.{Pattern}
use Rattle.plan.specs.Held.{missing_pattern, SlopeTyped}
use Rattle.plan.proofs.All.{all_from}
use Rattle.plan.proofs.Checks.{until_tested, untils_ok_law, typed_from}
use Rattle.plan.proofs.headed.HeadedPlan.untils_ok.Goals as goal

pub returns : goal.returns
returns c =
    let plan = c.args.self.plan.now in
    let passed = cases_from_all _ _ _ (λ (row : Pattern). (until_tested row ≡ true) × SlopeTyped row) (λ (row : Pattern). until_tested row ≡ false) c.all.ensures.ran (YieldsList-from_slice (take plan.patterns plan.pattern) cc)
    (λ x q k. search (rules, tests)) (λ x q k. search (rules, tests)) in
    record { is = all_from (take plan.patterns plan.pattern) missing_pattern until_tested (λ (row : Pattern). (until_tested row ≡ true) × SlopeTyped row) (λ row e. e.0) _ passed ∙ untils_ok_law plan; typed = typed_from plan _ passed }
