-- `patterns::allocation_flow` is the flow of the plan's allocation.
use Rattle.patterns.proofs.Weighing.{parts_first}
use Rattle.patterns.proofs.allocation_flow.Goals as goal

pub flow-requires : goal.flow-requires
flow-requires c = c.of.ensures.allocated c.of-2.result.shares (parts_first c.of-2.result.shares c.of.result.instruments c.of.result.prepared.few c.of-2.ensures.parts)
