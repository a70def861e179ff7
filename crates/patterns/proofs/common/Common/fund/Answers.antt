-- `Common::fund` of an allocation's flow, with what is left of it, is the allocation's.
use mathlib.Core.Path.{◌≡◌, ap₂, ◌∙◌}
use Prim.Native.Nat.{ℕ}
use lib.IntN.{ℤ}
use mir.Syntax.{w64}
use mir.Val.{to_z, of_z}
use Rattle.std.proofs.Common.{rules}
use Rattle.reckoning.specs.Arrays.{shares_of, rates_of, fund_reckoned}
use Rattle.patterns.proofs.common.Common.fund.Goals as goal

pub returns-clause-allocation : goal.returns-clause-allocation
returns-clause-allocation c shares flow left =
    let rollover = c.args.self.now.rollover in
    let same : to_z w64 (of_z w64 c.args.left) ≡ c.args.left = search rules in
    c.fund.ensures.value
    ∙ ap₂ (λ (o : ℕ → ℤ) (z : ℤ). fund_reckoned (shares_of rollover.shares) (rates_of c.args.i.now.rates) o rollover.horizon.years z) flow (same ∙ left)
