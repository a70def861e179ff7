-- `cash::lists::money_of` makes a table of the list's rates.
use mathlib.Core.Path.{◌≡◌, refl, ap, ◌∙◌}
use lib.ListN.{length, get_or}
use lib.IntN.{pos}
use borrow.Author.Tests.{tests}
use Rattle.std.proofs.Common.{rules}
use Rattle.whole.specs.Table.{table}
use Rattle.whole.proofs.Made.{made_table}
use Rattle.reckoning.specs.Arrays.{rates_of}
use Rattle.cash.proofs.ListLaws.{rates_held, rates_ready}
use Rattle.cash.proofs.lists.money_of.Goals as goal
use Rattle.cash.proofs.lists.money_of.Goals.{After-from_fn-rates}

made : (c : After-from_fn-rates) → c.from_fn-rates.result ≡ table 30 (length c.args.list.now) (λ l. get_or c.args.list.now l (pos 0)) (pos 0)
made c = made_table c.from_fn-rates.ensures.items (length c.args.list.now) (λ l. get_or c.args.list.now l (pos 0)) (pos 0) c.requires.few
    (λ k y q b called. search (rules, tests)) (λ k y q b l called. search (rules, tests))

pub invariant_of-result : goal.invariant_of-result
invariant_of-result c = record { within = rates_ready c.args.list.now c.requires.taken (made c) c.requires.few }

pub returns : goal.returns
returns c = ap rates_of (made c.before) ∙ rates_held c.args.list.now (length c.args.list.now) c.requires.few refl
