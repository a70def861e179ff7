-- `Rollover::next_row` is a row of the table: the year's unit, and what each earlier row within the terms sends into it.
use Rattle.whole.proofs.Range.{back}
use Rattle.reckoning.proofs.GammaLoops.{row_start, share_fits, weight_fits, rate_fits, row_joins, row_turn, row_end}
use Rattle.reckoning.proofs.Rollover.next_row.Goals as goal

pub loop-c-init : goal.loop-c-init
loop-c-init c = rw c.first-c.ensures (row_start c.args.self.now c.args.i.now _ _ c.requires)

pub joined-values-requires : goal.joined-values-requires
joined-values-requires c =
    let k = c.args.self.now in
    let m = c.args.i.now in
    let s = c.loop-c.invariant in
    let b = c.loop-c-test.true in
    simp (back, share_fits k m s b, weight_fits k m s b, rate_fits k m s b) (row_joins k m s b)

pub loop-c-preserved : goal.loop-c-preserved
loop-c-preserved c =
    let k = c.args.self.now in
    let m = c.args.i.now in
    let s = c.loop-c.invariant in
    let b = c.loop-c-test.true in
    rw (simp (back, share_fits k m s b, weight_fits k m s b, rate_fits k m s b) at c.joined-values.ensures) (row_turn k m s b)

pub returns : goal.returns
returns c = row_end c.args.self.now c.args.i.now c.loop-c.invariant c.loop-c-test.false
