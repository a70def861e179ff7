-- `Instrument::payments` fills the first places of an array with what the instrument holds there.
use lib.ListN.{get_or}
use lib.IntN.{pos}
use borrow.Author.Tests.{tests}
use Rattle.std.proofs.Common.{rules, ◌+◌}
use Rattle.whole.proofs.Entry.{entry_at}
use Rattle.plan.specs.Held.{instrument_held}
use Rattle.plan.proofs.Made.{made_first}
use Rattle.plan.proofs.Instrument.payments.Goals as goal

pub returns : goal.returns
returns c =
    let a = instrument_held c.args.years c.args.self.now in
    made_first c.from_fn.ensures.items c.args.years (λ k. a.payment (1 + k)) (pos 0)
    (λ k y q l e. let h = entry_at (pos 0) c.args.years (λ k. get_or c.args.self.now.payments k (pos 0)) k l in rw h (search (rules, tests)))
    (λ k y q l b e. search (rules, tests))
