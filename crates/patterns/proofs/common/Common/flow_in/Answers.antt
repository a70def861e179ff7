-- `Common::flow_in` adds the flow of Q to what is paid (Flows).
use mathlib.Core.Path.{◌≡◌, ◌∙◌}
use Prim.Native.Nat.{◌+◌, ◌<◌}
use native.Mathlib.Omega.{arith}
use lib.ListN.{get_or}
use lib.IntN.{pos, ◌+ℤ◌}
use mir.Syntax.{w64}
use mir.Val.{SFits}
use Rattle.whole.specs.Range.{million, limit}
use Rattle.whole.specs.Floor.{floor}
use Rattle.whole.proofs.Range.{within_fits, back, ok64}
use Rattle.patterns.specs.Pattern.{flow_of}
use Rattle.patterns.specs.Arrays.{shared_in}
use Rattle.patterns.proofs.Weighing.{weighed_by, column, column_at, column_weighs, column_weighable, weighted_within}
use Rattle.patterns.proofs.Flows.{flow_is}
use Rattle.patterns.proofs.common.Common.flow_in.Goals as goal
use Rattle.patterns.proofs.common.Common.flow_in.Goals.{After-paid, After-down}

module _ (c : After-paid) where
  few : c.args.k < 30
  few = omega (arith, c.requires.k_few, c.args.self.now.rollover.horizon.held.few)

  paid_is : c.paid.result ≡ weighed_by c.args.p.now.shares c.args.self.now.instruments (column c.args.self.now.payments c.args.k)
  paid_is = c.paid.ensures ∙ column_weighs c.args.self.now.payments c.args.k c.args.self.now.instruments c.args.p.now.shares

pub paid-requires : goal.paid-requires
paid-requires c = record { k_few = omega (arith, c.requires.k_few, c.args.self.now.rollover.horizon.held.few); parts = c.requires.allocated.parts }

pub down-requires : goal.down-requires
down-requires c = simp (back, ok64 c.paid.result c.paid.type_inv) (weighted_within (column_weighable c.args.self.now c.args.p.now.shares c.requires.allocated.parts c.args.k (few c) _ (λ j h. column_at c.args.self.now.payments c.args.k j)) (paid_is c))

-- the flow of that year
module _ (c : After-down) where
  abbrev paid_then : After-paid
  paid_then = c.before

  down_fits : SFits w64 c.down.result
  down_fits = ok64 c.down.result c.down.type_inv

  constant_fits : SFits w64 (get_or c.args.self.now.constant.amounts c.args.k (pos 0))
  constant_fits = within_fits {b = limit} (omega arith) (c.args.self.now.constant.within.amount c.args.k (few paid_then))

  down_is : c.down.result ≡ floor c.paid.result million
  down_is = simp (back, ok64 c.paid.result c.paid.type_inv) at c.down.ensures

  year_is : c.down.result +ℤ get_or c.args.self.now.constant.amounts c.args.k (pos 0) ≡ flow_of (shared_in c.args.self.now c.args.p.now.shares) (1 + c.args.k)
  year_is = rw (down_is, paid_is paid_then) (flow_is c.args.self.now c.args.p.now.shares c.args.k _ (λ j h. column_at c.args.self.now.payments c.args.k j))

  year_fits : SFits w64 (c.down.result +ℤ get_or c.args.self.now.constant.amounts c.args.k (pos 0))
  year_fits = rw year_is (within_fits {b = limit} (omega arith) (c.requires.allocated.flow (1 + c.args.k)))

pub overflow_add-result : goal.overflow_add-result
overflow_add-result c = let d = c.before.before.before in simp (back, down_fits d, constant_fits d) (year_fits d)

pub returns : goal.returns
returns c = let d = c.before.before.before in simp (back, down_fits d, constant_fits d, year_fits d) (year_is d)
