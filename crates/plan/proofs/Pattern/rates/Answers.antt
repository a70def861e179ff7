-- `Pattern::rates` fills the first places of an array with the rates that the pattern means.
use Prim.Native.Nat.{◌-◌}
use lib.IntN.{pos}
use borrow.Author.Tests.{tests}
use Rattle.std.proofs.Common.{rules}
use Rattle.plan.specs.Held.{pattern_held}
use Rattle.plan.specs.Numbers.{rate_in}
use Rattle.plan.proofs.Held.{rate_row}
use Rattle.plan.proofs.Made.{made_first}
use Rattle.plan.proofs.Pattern.rates.Goals as goal

pub returns : goal.returns
returns c =
    made_first c.from_fn.ensures.items (c.args.years - 1) (rate_in (pattern_held c.args.years c.args.self.now)) (pos 0)
    (λ k y q l e. let h = rate_row c.args.years c.args.self.now k l in rw h (search (rules, tests)))
    (λ k y q l b e. search (rules, tests))
