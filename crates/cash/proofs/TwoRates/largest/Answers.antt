-- `cash::TwoRates::largest` is the larger of the two lists' largest rates.
use mathlib.Core.Path.{◌∙◌}
use Rattle.whole.proofs.Range.{back, ok64}
use Rattle.cash.specs.Account.{h}
use Rattle.cash.proofs.Bound.{max_counts}
use Rattle.cash.proofs.TwoRates.largest.Goals as goal

pub returns : goal.returns
unfolding h
returns c =
    let l = c.largest-lending in
    let b = c.largest-borrowing in
    simp (back, ok64 c.max.result c.max.type_inv)
    ((simp (back, ok64 l.result l.type_inv, ok64 b.result b.type_inv) at c.max.ensures.value) ∙ rw (l.ensures, b.ensures) (max_counts _ _))
