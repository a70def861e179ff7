-- `finder::searching::Search::look` looks at the fund in one pattern after the other.
use mathlib.Core.Path.{◌≡◌}
use mathlib.Core.Bool.{true, false}
use borrow.Author.Tests.{tests}
use Rattle.std.proofs.Common.{rules}
use Rattle.std.proofs.lemmas.Iterator.{YieldsList-from_slice, cases_from_all}
use Rattle.reckoning.specs.Arrays.{rates_of}
use Rattle.reckoning.specs.declared.NewMoney.{NewMoney}
use Rattle.patterns.specs.Arrays.{shared_in}
use Rattle.finder.specs.Lines.{fund_passes, wide_of}
use Rattle.finder.specs.Search.{looked}
use Rattle.finder.proofs.ListLaws.{list_all_of}
use Rattle.finder.proofs.searching.Search.look.Goals as goal

pub flow-requires : goal.flow-requires
flow-requires c = rw c.widened.ensures (c.args.self.now.looks c.args.split.shares c.requires)

pub left-requires : goal.left-requires
left-requires c = rw c.widened.ensures (c.args.self.now.looks c.args.split.shares c.requires).parts

pub returns : goal.returns
unfolding looked
returns c =
    let p = λ (i : NewMoney). fund_passes (shared_in c.args.self.now.common.now (wide_of c.args.split.shares)) (rates_of i.rates) in
    list_all_of p c.args.self.now.rates.now _
    (cases_from_all c.all.new.self _ _ (λ (i : NewMoney). p i ≡ true) (λ (i : NewMoney). p i ≡ false) c.all.ensures.ran (YieldsList-from_slice c.args.self.now.rates.now cc) (λ x q k. search (rules, tests)) (λ x q k. search (rules, tests)))
