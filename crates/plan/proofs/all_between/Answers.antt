-- `plan::all_between` tests each amount.
use lib.IntN.{pos}
use borrow.Author.Tests.{tests}
use Rattle.std.proofs.Common.{rules}
use Rattle.std.proofs.lemmas.Iterator.{YieldsList-from_slice}
use Rattle.whole.specs.Test.{is_between}
use Rattle.plan.proofs.All.{all_ran}
use Rattle.plan.proofs.all_between.Goals as goal

pub returns : goal.returns
returns c = all_ran (pos 0) (is_between c.args.low c.args.high) _ _ _ c.all.ensures.ran (YieldsList-from_slice c.args.amounts.now cc) (λ x q k. search (rules, tests)) (λ x q k. search (rules, tests))
