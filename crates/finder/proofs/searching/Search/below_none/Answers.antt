-- `finder::searching::Search::below_none` asks each line.
use mathlib.Core.Path.{◌≡◌}
use mathlib.Core.Bool.{true, false}
use lib.IntN.{pos}
use lib.Signed.{le_z}
use borrow.Author.Tests.{tests}
use Rattle.std.proofs.Common.{rules}
use Rattle.std.proofs.lemmas.Iterator.{YieldsList-from_slice, cases_from_all}
use Rattle.finder.specs.Lines.{height_over}
use Rattle.finder.specs.Search.{numbers_in, below_none}
use Rattle.finder.specs.declared.lines.Line.{Line}
use Rattle.finder.proofs.ListLaws.{list_all_of}
use Rattle.finder.proofs.searching.Search.below_none.Goals as goal

pub returns : goal.returns
unfolding below_none
returns c =
    let p = λ (line : Line). le_z (pos 0) (height_over (numbers_in line) c.args.split.shares) in
    list_all_of p c.args.self.now.lines.now _
    (cases_from_all c.all.new.self _ _ (λ (line : Line). p line ≡ true) (λ (line : Line). p line ≡ false) c.all.ensures.ran (YieldsList-from_slice c.args.self.now.lines.now cc) (λ x q k. search (rules, tests)) (λ x q k. search (rules, tests)))
