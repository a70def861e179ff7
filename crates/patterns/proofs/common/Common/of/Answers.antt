-- `Common::of` holds the plan's numbers (Held).
use mathlib.Core.Path.{refl}
use Rattle.patterns.proofs.Held.{prepared, shared_held, allocated}
use Rattle.patterns.proofs.common.Common.of.Goals as goal

pub invariant_of-result : goal.invariant_of-result
invariant_of-result c = record { prepared = rw c.payments_of.ensures (prepared c.args.plan.plan.now c.args.plan.accepted) }

pub returns-clause-is : goal.returns-clause-is
returns-clause-is c = record {
  years = c.rollover_of.ensures.years;
  terms = c.rollover_of.ensures.terms;
  rollover = c.rollover_of.ensures.shares;
  instruments = refl;
  payments = c.payments_of.ensures;
  constant = c.constant_of.ensures;
  cost = refl;
}

pub returns-clause-shared : goal.returns-clause-shared
returns-clause-shared c = shared_held c.args.plan.plan.now c.args.plan.accepted (returns-clause-is c)

pub returns-clause-allocated : goal.returns-clause-allocated
returns-clause-allocated c = allocated c.args.plan.plan.now c.args.plan.accepted (returns-clause-is c)
