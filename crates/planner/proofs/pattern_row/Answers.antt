-- `planner::pattern_row`: the fund of the allocation's flow, the coefficients, the constant, the bound, and the word (RowLaws).
use native.Mathlib.Omega.{arith}
use mir.Syntax.{w64}
use mir.Val.{SFits}
use Rattle.whole.specs.Range.{limit}
use Rattle.whole.proofs.Range.{back, ok64, within_fits}
use Rattle.whole.proofs.Answer.{passed_on}
use Rattle.planner.proofs.RowLaws.{row_unfunded, row_unformed, row_unbalanced, row_taken}
use Rattle.planner.proofs.pattern_row.Goals as goal

pub returns-in_err-fund : goal.returns-in_err-fund
returns-in_err-fund c shares flow left =
    rw (passed_on c.from_residual.result c.from_residual.ensures.1) (row_unfunded _ _ _ ((simp (back, c.ranges.left) at c.in_err-fund.ensures.allocation) shares flow left))

pub returns-in_err-coefficients : goal.returns-in_err-coefficients
returns-in_err-coefficients c shares flow left =
    rw (passed_on c.from_residual-in_err-coefficients.result c.from_residual-in_err-coefficients.ensures.1) (row_unformed _ _ _ (c.in_err-coefficients.ensures shares))

pub returns-in_err-constant : goal.returns-in_err-constant
returns-in_err-constant c shares flow left =
    rw (passed_on c.from_residual-in_err-constant.result c.from_residual-in_err-constant.ensures.1) (row_unbalanced _ _ _ c.in_err-constant.ensures.value)

pub returns : goal.returns
returns c shares flow left =
    let fund : SFits w64 c.in_ok-fund.fund = within_fits {b = limit} (omega arith) c.in_ok-fund.ensures.within in
    let constant : SFits w64 c.in_ok-constant.constant = within_fits {b = limit} (omega arith) c.in_ok-constant.ensures.within in
    let bound : SFits w64 c.bound-bound.result = ok64 c.bound-bound.result c.bound-bound.type_inv in
    simp (back, fund, constant, bound)
    (row_taken _ _ (record { word = c.word_of.result; fund = c.in_ok-fund.fund; bound = c.bound-bound.result; coefficients = c.in_ok-coefficients.coefficients; constant = c.in_ok-constant.constant })
    ((simp (back, c.ranges.left) at c.in_ok-fund.ensures.allocation) shares flow left)
    (c.in_ok-coefficients.ensures shares) c.in_ok-constant.ensures.value (c.bound-bound.ensures.value shares) (simp (back, fund, bound) at c.word_of.ensures))
