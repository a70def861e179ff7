-- `cash::lists::is_in_range` tests each rate.
use mathlib.Core.Path.{◌≡◌, ◌∙◌}
use mathlib.Core.Bool.{true, false}
use lib.IntN.{ℤ, pos}
use borrow.Author.Tests.{tests}
use Rattle.std.proofs.Common.{rules}
use Rattle.std.proofs.lemmas.Iterator.{YieldsList-from_slice, cases_from_all}
use Rattle.whole.specs.Test.{is_between}
use Rattle.plan.specs.Refusal.{top}
use Rattle.cash.proofs.ListLaws.{all_of, list_ok_of}
use Rattle.cash.proofs.lists.is_in_range.Goals as goal

pub returns : goal.returns
returns c =
    let p = is_between (pos 0) (pos top) in
    all_of c.args.list.now (pos 0) p _
    (cases_from_all _ _ _ (λ (z : ℤ). p z ≡ true) (λ (z : ℤ). p z ≡ false) c.all.ensures.ran (YieldsList-from_slice c.args.list.now cc) (λ x q k. search (rules, tests)) (λ x q k. search (rules, tests)))
    ∙ list_ok_of c.args.list.now
