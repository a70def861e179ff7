-- `Common::bound` is that of the plan's years and costs (FormLaws).
use mathlib.Core.Path.{ap, ◌∙◌}
use mathlib.Core.Bool.{Bool}
use Prim.Native.Nat.{◌+◌}
use lib.IntN.{pos}
use Rattle.whole.proofs.Range.{back, ok64}
use Rattle.reckoning.specs.Bound.{h, B}
use Rattle.reckoning.specs.Arrays.{rates_of}
use Rattle.plan.specs.Held.{flag}
use Rattle.patterns.specs.Arrays.{shared_in}
use Rattle.patterns.proofs.FormLaws.{bound_is}
use Rattle.patterns.proofs.common.Common.bound.Goals as goal

pub returns-clause-value : goal.returns-clause-value
returns-clause-value c = λ shares.
    simp (back, ok64 c.bound_at.result c.bound_at.type_inv) (c.bound_at.ensures.value ∙ ap (λ (b : Bool). pos (B (h (rates_of c.args.i.now.rates) c.args.self.now.rollover.horizon.years) c.args.self.now.rollover.horizon.years + flag b)) c.is_some.ensures ∙ ap pos (bound_is (shared_in c.args.self.now shares) (rates_of c.args.i.now.rates)))
