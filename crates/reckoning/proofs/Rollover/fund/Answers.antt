-- `Rollover::fund` fills in cell after cell, each from those before it, until one is outside the limit (CellLoops, `Filled`); then
-- what they still have invested at the horizon, and the amount that is left there, is the fund.
use mathlib.Core.Path.{◌≡◌}
use lib.IntN.{◌+ℤ◌}
use Rattle.std.specs.Prelude.{Ok, Err}
use Rattle.refusal.specs.declared.Refusal.TheVariants.{OutOfLimit}
use Rattle.whole.specs.Range.{limit}
use Rattle.whole.specs.Test.{pick, is_within}
use Rattle.whole.proofs.Range.{back, ok64}
use Rattle.whole.proofs.Answer.{answered_ok, passed_refusal}
use Rattle.reckoning.proofs.CellLoops.{Filled, fill_start, fill_turn, fill_refuse, fill_end, held, fund_is_law, fund_fits_word, fund_answered, answered_within}
use Rattle.reckoning.proofs.Rollover.fund.Goals as goal
use Rattle.reckoning.proofs.Rollover.fund.Goals.{After-limited-2}

pub loop-j-init : goal.loop-j-init
loop-j-init c = fill_start _ _ _ c.args.self.now.horizon.held

pub returns-in_err-v-clause-value : goal.returns-in_err-v-clause-value
returns-in_err-v-clause-value c =
    let e = passed_refusal _ _ _ _ _ (simp (back, ok64 c.cell.result c.cell.type_inv) at c.in_err-v.ensures) c.from_residual.ensures.1 in
    rw e.1 (fill_refuse _ _ _ c.args.self.now.horizon.held c.loop-j-test.true c.loop-j.invariant c.cell.ensures _ e.0)

pub loop-j-preserved : goal.loop-j-preserved
loop-j-preserved c =
    let fits = ok64 c.cell.result c.cell.type_inv in
    let e = answered_ok _ _ _ _ (simp (back, fits) at c.in_ok-v.ensures) in
    rw e.1 (simp (back, fits) (fill_turn _ _ _ c.args.self.now.horizon.held c.loop-j-test.true c.loop-j.invariant c.cell.ensures e.0))

pub total-requires : goal.total-requires
total-requires c = held c.args.self.now _ _ (fill_end _ _ _ c.args.self.now.horizon.held c.loop-j-test.false c.loop-j.invariant)

pub overflow_add-s : goal.overflow_add-s
overflow_add-s c =
    let filled = fill_end _ _ _ c.args.self.now.horizon.held c.loop-j-test.false c.loop-j.invariant in
    simp (back, ok64 c.total.result c.total.type_inv, c.ranges.left) (fund_fits_word c.args.self.now _ _ filled c.total.ensures c.requires)

-- the answer of the test, of the sum
module _ (c : After-limited-2) where
  filled : Filled c.args.self.now.shares c.args.i.now.rates c.args.flow.now.amounts c.args.self.now.horizon.years c.args.self.now.horizon.years c.loop-j.v
  filled = fill_end _ _ _ c.args.self.now.horizon.held c.loop-j-test.false c.loop-j.invariant

  answered : c.limited-2.result ≡ pick (is_within limit (c.total.result +ℤ c.args.left)) (Ok (c.total.result +ℤ c.args.left)) (Err OutOfLimit)
  answered = simp (back, ok64 c.total.result c.total.type_inv, c.ranges.left, fund_fits_word c.args.self.now _ _ filled c.total.ensures c.requires) at c.limited-2.ensures

pub returns-clause-value : goal.returns-clause-value
returns-clause-value c = fund_answered _ _ _ _ _ (fund_is_law c.args.self.now _ _ (filled c) c.total.ensures c.requires) (filled c).fit (answered c)

pub returns-clause-within : goal.returns-clause-within
returns-clause-within c = answered_within _ (answered c)
