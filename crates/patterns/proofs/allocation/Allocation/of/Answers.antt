-- `Allocation::of` fills in p_1 to p_n (Held).
use mathlib.Core.Path.{◌≡◌, ap, ◌∙◌}
use lib.ListN.{get_or}
use borrow.Author.Tests.{tests}
use Rattle.std.proofs.Common.{rules}
use Rattle.whole.specs.Table.{table}
use Rattle.whole.proofs.Made.{made_table}
use Rattle.patterns.specs.Arrays.{parts_of}
use Rattle.patterns.proofs.Held.{parts, parts_held}
use Rattle.patterns.proofs.allocation.Allocation.of.Goals as goal
use Rattle.patterns.proofs.allocation.Allocation.of.Goals.{After-from_fn}

made : (c : After-from_fn) → c.from_fn.result ≡ table 16 c.args.plan.plan.now.instruments (λ j. get_or c.args.plan.plan.now.allocation j 0) 0
made c = made_table c.from_fn.ensures.items c.args.plan.plan.now.instruments (λ j. get_or c.args.plan.plan.now.allocation j 0) 0 c.args.plan.accepted.head.instruments_few
    (λ j y q l called. search (rules, tests)) (λ j y q b l called. search (rules, tests))

pub returns-clause-is : goal.returns-clause-is
returns-clause-is c = made c

pub returns-clause-held : goal.returns-clause-held
returns-clause-held c = ap (parts_of c.args.plan.plan.now.instruments) (made c) ∙ parts_held c.args.plan.plan.now c.args.plan.accepted

pub returns-clause-parts : goal.returns-clause-parts
returns-clause-parts c = rw (made c) (parts c.args.plan.plan.now c.args.plan.accepted)
