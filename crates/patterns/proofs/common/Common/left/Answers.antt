-- `Common::left` is that of the plan's costs.
use Rattle.whole.proofs.Range.{back, ok64}
use Rattle.patterns.specs.Pattern.{exact_left_of, left_of}
use Rattle.patterns.proofs.common.Common.left.Goals as goal

pub returns-clause-value : goal.returns-clause-value
unfolding left_of exact_left_of
returns-clause-value c = simp (back, ok64 c.left_of.result c.left_of.type_inv) c.left_of.ensures.value
