-- `reckoning::weights` fills in what is left of 1,000,000 after each share (CellLoops, `Weighed`).
use Rattle.whole.proofs.Range.{back}
use Rattle.reckoning.proofs.CellLoops.{weigh_start, term_fits, left_fits, weigh_turn, weigh_end}
use Rattle.reckoning.proofs.weights.Goals as goal

pub loop-d-init : goal.loop-d-init
loop-d-init c = weigh_start c.requires.1

pub overflow_sub-left : goal.overflow_sub-left
overflow_sub-left c =
    let l = c.loop-d-test.true in
    simp (back, term_fits c.requires.1 l) (left_fits c.requires.1 l c.loop-d.invariant)

pub loop-d-preserved : goal.loop-d-preserved
loop-d-preserved c =
    let l = c.loop-d-test.true in
    simp (back, term_fits c.requires.1 l, left_fits c.requires.1 l c.loop-d.invariant) (weigh_turn c.requires.1 l c.loop-d.invariant)

pub returns : goal.returns
returns c = weigh_end c.loop-d.auto.d-end c.loop-d-test.false c.loop-d.invariant
