-- `Rollover::cell` adds what each earlier cell in the rollover's window sends (CellLoops, `Adding`); the others send nothing.
use mathlib.Core.Path.{◌≡◌}
use Prim.Native.Nat.{◌-◌}
use native.Mathlib.Omega.{arith}
use lib.ListN.{get_or}
use lib.IntN.{pos, ◌+ℤ◌}
use mir.Syntax.{w64}
use mir.Val.{SFits, to_z}
use Rattle.whole.proofs.Range.{back, ok64}
use Rattle.reckoning.proofs.Pattern.{weight_within}
use Rattle.reckoning.proofs.CellLoops.{Adding, sends, own_fits, cell_fits, cell_within, weight_fits, sent_is, add_start, add_turn, add_fits, add_end}
use Rattle.reckoning.proofs.Rollover.cell.Goals as goal
use Rattle.reckoning.proofs.Rollover.cell.Goals.{After-sent-s}

pub loop-l-init : goal.loop-l-init
loop-l-init c =
    let a = c.args in
    rw c.first-l.ensures (simp (back, own_fits a.self.now a.i.now a.flow.now c.requires) (add_start a.self.now a.i.now a.flow.now c.requires))

pub sent-s-requires-clause-within : goal.sent-s-requires-clause-within
sent-s-requires-clause-within c =
    let a = c.args in
    simp (back, cell_fits a.self.now a.i.now a.flow.now c.requires c.loop-l-test.true) (cell_within a.self.now a.i.now a.flow.now c.requires c.loop-l.l c.loop-l-test.true)

pub sent-s-requires-clause-within_3 : goal.sent-s-requires-clause-within_3
sent-s-requires-clause-within_3 c =
    let a = c.args in
    simp (back, weight_fits a.self.now a.i.now a.flow.now c.requires c.loop-l-test.true) (weight_within a.self.now (a.j - c.loop-l.l - 1) (omega arith))

-- what the cell sent, the sum so far, and the sum with it
module _ (c : After-sent-s) where
  given : c.sent-s.result ≡ sends c.args.self.now.shares c.args.self.now.weights c.args.i.now.rates c.args.v.now c.args.j c.loop-l.l
  given = sent_is c.args.self.now c.args.i.now c.args.flow.now c.requires c.loop-l-test.true c.sent-s.ensures

  so_far : Adding c.args.self.now.shares c.args.self.now.weights c.args.i.now.rates c.args.v.now c.args.j (get_or c.args.flow.now.amounts c.args.j (pos 0)) (to_z w64 c.loop-l.s-bits) c.loop-l.l
  so_far = simp (back, own_fits c.args.self.now c.args.i.now c.args.flow.now c.requires) at c.loop-l.invariant

  sum_fits : SFits w64 (to_z w64 c.loop-l.s-bits +ℤ c.sent-s.result)
  sum_fits = add_fits c.args.self.now c.args.i.now c.args.flow.now c.requires c.loop-l-test.true so_far given

pub overflow_add-s : goal.overflow_add-s
overflow_add-s c = simp (back, ok64 c.sent-s.result c.sent-s.type_inv) (sum_fits c)

pub loop-l-preserved : goal.loop-l-preserved
loop-l-preserved c =
    let a = c.args in
    simp (back, own_fits a.self.now a.i.now a.flow.now c.requires, ok64 c.sent-s.result c.sent-s.type_inv, sum_fits c)
    (add_turn a.self.now a.i.now a.flow.now c.requires c.loop-l-test.true (so_far c) (given c))

pub returns : goal.returns
returns c =
    let a = c.args in
    add_end a.self.now a.i.now a.flow.now c.requires c.loop-l-test.false (simp (back, own_fits a.self.now a.i.now a.flow.now c.requires) at c.loop-l.invariant)
