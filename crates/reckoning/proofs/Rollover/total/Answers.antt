-- `Rollover::total` adds what each cell in the rollover's window still has invested (CellLoops, `Totalled`); the others have nothing.
use mathlib.Core.Path.{◌≡◌}
use mathlib.Core.Logic.{⊎_elim}
use native.Mathlib.Omega.{arith}
use lib.ListN.{length}
use lib.IntN.{◌+ℤ◌}
use mir.Syntax.{w64}
use mir.Val.{SFits, to_z}
use Rattle.std.proofs.Common.{rules}
use Rattle.whole.specs.Floor.{share_of}
use Rattle.whole.proofs.Range.{back, ok64}
use Rattle.reckoning.proofs.CellLoops.{total_start, x_within, w_within, x_fits, w_fits, total_turn, total_fits, total_end}
use Rattle.reckoning.proofs.Rollover.total.Goals as goal
use Rattle.reckoning.proofs.Rollover.total.Goals.{After-share-s}

pub loop-x-init : goal.loop-x-init
loop-x-init c =
    let w : length c.args.self.now.weights ≡ 30 = search rules in
    rw (c.into_iter-x-iterator.ensures.into_iter_gives, c.zip-x-items.ensures.first, c.zip-x-items.ensures.second, c.rev.ensures.source, c.iter.ensures.rest, c.iter-2.ensures.rest, c.first-from.ensures) (total_start c.requires c.told-v w)

pub share-s-requires : goal.share-s-requires
share-s-requires c =
    let a = c.loop-x.invariant in
    let e = c.in-Some.ensures.steps in
    simp (back, x_fits c.requires _ _ a e.0 e.1, w_fits c.requires _ _ a e.0 e.1)
    (record { within = x_within c.requires _ _ a e.0 e.1; within_2 = w_within c.requires _ _ a e.0 e.1 })

-- the share, and the sum with it
module _ (c : After-share-s) where
  given : c.share-s.result ≡ share_of c.in-Some.x.now c.in-Some.w.now
  given =
      let a = c.loop-x.invariant in
      let e = c.in-Some.ensures.steps in
      simp (back, x_fits c.requires _ _ a e.0 e.1, w_fits c.requires _ _ a e.0 e.1) at c.share-s.ensures

  sum_fits : SFits w64 (to_z w64 c.loop-x.s-bits +ℤ c.share-s.result)
  sum_fits = let e = c.in-Some.ensures.steps in rw given (total_fits c.requires _ _ c.loop-x.invariant e.0 e.1)

pub overflow_add-s : goal.overflow_add-s
overflow_add-s c = simp (back, ok64 c.share-s.result c.share-s.type_inv) (sum_fits c)

pub loop-x-preserved : goal.loop-x-preserved
loop-x-preserved c =
    let e = c.in-Some.ensures.steps in
    simp (back, ok64 c.share-s.result c.share-s.type_inv, sum_fits c) (rw (given c) (total_turn c.requires _ _ c.loop-x.invariant e.0 e.1))

pub returns : goal.returns
returns c = total_end c.loop-x.invariant (⊎_elim (λ e. e.1.0) (λ e. omega (arith, e.1.0, c.loop-x.invariant.long)) c.in-None.ensures.steps)
