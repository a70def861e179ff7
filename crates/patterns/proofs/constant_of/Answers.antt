-- `patterns::constant_of` fills in the flow of Q (Held).
use mathlib.Core.Path.{◌≡◌}
use lib.IntN.{pos}
use Prim.Native.Nat.{◌+◌}
use borrow.Author.Tests.{tests}
use Rattle.std.proofs.Common.{rules}
use Rattle.whole.proofs.Made.{made_table}
use Rattle.plan.specs.Numbers.{numbers}
use Rattle.patterns.specs.Pattern.{shared_of}
use Rattle.patterns.specs.Arrays.{constant_array}
use Rattle.patterns.proofs.Held.{constant_fit}
use Rattle.patterns.proofs.constant_of.Goals as goal
use Rattle.patterns.proofs.constant_of.Goals.{After-from_fn}

made : (c : After-from_fn) → c.from_fn.result ≡ constant_array (numbers c.args.plan.plan.now)
unfolding constant_array
made c =
    let plan = c.args.plan.plan.now in
    made_table c.from_fn.ensures.items plan.years (λ k. (shared_of (numbers plan)).constant_flow (1 + k)) (pos 0) c.args.plan.accepted.head.years_few
    (λ k y q l called. search (rules, tests)) (λ k y q b l called. search (rules, tests))

pub invariant_of-result : goal.invariant_of-result
invariant_of-result c = record { within = rw (made c) (constant_fit c.args.plan.plan.now c.args.plan.accepted) }

pub returns : goal.returns
returns c = made c.before
