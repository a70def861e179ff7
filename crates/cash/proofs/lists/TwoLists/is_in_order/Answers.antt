-- `cash::lists::TwoLists::is_in_order` tests each year's two rates.
use mathlib.Core.Path.{◌≡◌, ◌∙◌}
use mathlib.Core.Bool.{true, false}
use lib.IntN.{ℤ, pos}
use lib.Signed.{le_z}
use borrow.Author.Tests.{tests}
use Rattle.std.proofs.Common.{rules}
use Rattle.std.specs.List.{zip}
use Rattle.std.proofs.lemmas.Iterator.{YieldsList-from_slice, YieldsList-from_zip, cases_from_all}
use Rattle.cash.proofs.ListLaws.{all_of, all_of_two, in_order_of}
use Rattle.cash.proofs.lists.TwoLists.is_in_order.Goals as goal

pub returns : goal.returns
returns c =
    let xs = c.args.self.now.lending.now in
    let ys = c.args.self.now.borrowing.now in
    let p : ℤ × ℤ → _ = λ z. le_z z.0 z.1 in
    all_of (zip xs ys) (pos 0, pos 0) p _
    (cases_from_all c.all.new.self _ _ (λ (z : ℤ × ℤ). p z ≡ true) (λ (z : ℤ × ℤ). p z ≡ false) c.all.ensures.ran (YieldsList-from_zip (YieldsList-from_slice xs cc) (YieldsList-from_slice ys cc)) (λ x q k. search (rules, tests)) (λ x q k. search (rules, tests)))
    ∙ all_of_two xs ys le_z c.args.self.now.alike
    ∙ in_order_of xs ys
