-- `Common::flow` fills in the allocation's flow (Flows).
use mathlib.Core.Path.{◌≡◌, ap, ◌∙◌}
use Prim.Native.Nat.{◌+◌}
use lib.IntN.{pos}
use borrow.Author.Tests.{tests}
use Rattle.std.proofs.Common.{rules}
use Rattle.whole.proofs.Made.{made_table}
use Rattle.reckoning.specs.Arrays.{amounts_of}
use Rattle.patterns.specs.Pattern.{flow_of}
use Rattle.patterns.specs.Arrays.{shared_in, flow_array}
use Rattle.patterns.proofs.Flows.{flow_fit}
use Rattle.patterns.proofs.common.Common.flow.Goals as goal
use Rattle.patterns.proofs.common.Common.flow.Goals.{After-from_fn}

made : (c : After-from_fn) → c.from_fn.result ≡ flow_array (shared_in c.args.self.now c.args.p.now.shares)
unfolding flow_array
made c = made_table c.from_fn.ensures.items c.args.self.now.rollover.horizon.years (λ k. flow_of (shared_in c.args.self.now c.args.p.now.shares) (1 + k)) (pos 0) c.args.self.now.rollover.horizon.held.few
    (λ k y q l called. search (rules, tests)) (λ k y q b l called. search (rules, tests))

pub invariant_of-result : goal.invariant_of-result
invariant_of-result c = record { within = rw (made c) (flow_fit c.args.self.now c.args.p.now.shares c.requires) }

pub returns-clause-is : goal.returns-clause-is
returns-clause-is c = made c.before

pub returns-clause-held : goal.returns-clause-held
returns-clause-held c = ap amounts_of (made c.before) ∙ c.requires.flow_held
