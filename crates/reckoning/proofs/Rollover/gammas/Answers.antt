-- `Rollover::gammas` is the table: row after row, each tested by check 11.
use Rattle.whole.proofs.Answer.{answered_ok, passed_refusal}
use Rattle.reckoning.proofs.GammaLoops.{fill_start, fill_turn, fill_fails, fill_end}
use Rattle.reckoning.proofs.Rollover.gammas.Goals as goal

pub loop-j-init : goal.loop-j-init
loop-j-init c = fill_start _ _ _

pub returns-in_err-rows : goal.returns-in_err-rows
returns-in_err-rows c =
    let e = passed_refusal _ _ _ _ _ c.in_err-rows.ensures c.from_residual.ensures.1 in
    rw e.1 (fill_fails _ _ _ c.loop-j.invariant c.args.self.now.horizon.held.few c.loop-j-test.true _ c.next_row.ensures e.0)

pub loop-j-preserved : goal.loop-j-preserved
loop-j-preserved c =
    let e = answered_ok _ _ _ _ c.in_ok-rows.ensures in
    rw e.1 (fill_turn _ _ _ c.loop-j.invariant c.args.self.now.horizon.held.few c.loop-j-test.true _ c.next_row.ensures e.0)

pub returns : goal.returns
returns c = fill_end _ _ _ c.loop-j.invariant c.loop-j-test.false
