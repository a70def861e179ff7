-- `finder::splits::Split::widened` makes a table of the shares.
use lib.ListN.{get_or}
use native.Mathlib.Omega.{arith}
use borrow.Author.Tests.{tests}
use Rattle.std.proofs.Common.{rules}
use Rattle.whole.proofs.Made.{made_table}
use Rattle.finder.specs.Lines.{wide_of}
use Rattle.finder.proofs.splits.Split.widened.Goals as goal

pub returns : goal.returns
unfolding wide_of
returns c = made_table c.from_fn.ensures.items 4 (λ j. get_or c.args.self.shares j 0) 0 (omega arith) (λ k y q b called. search (rules, tests)) (λ k y q b l called. search (rules, tests))
