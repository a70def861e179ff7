-- `cash::TwoRates::reckon` answers for a flow.
use native.Mathlib.Omega.{arith}
use mir.Syntax.{w64}
use mir.Val.{SFits}
use Rattle.std.proofs.lemmas.Result.{err_from_is_err_and}
use Rattle.whole.specs.Range.{limit, Within}
use Rattle.whole.proofs.Range.{within_fits, back, ok64}
use Rattle.cash.proofs.Call.{reckoned_refused, reckoned_within, reckoned_accepted}
use Rattle.cash.proofs.TwoRates.reckon.Goals as goal
use Rattle.cash.proofs.TwoRates.reckon.Goals.{In_ok-account}

pub returns-in_err-account : goal.returns-in_err-account
returns-in_err-account c =
    let p = err_from_is_err_and c.from_residual.result c.from_residual.ensures.1 in
    rw (p.1, p.2) (reckoned_refused _ _ _ _ _ c.in_err-account.ensures)

is_within : (c : In_ok-account) → Within limit c.in_ok-account.account
is_within c = reckoned_within _ _ _ _ c.args.self.now.horizon.held.some c.in_ok-account.ensures

pub word_of-requires-clause-within : goal.word_of-requires-clause-within
word_of-requires-clause-within c = let w = is_within (goal.at.word_of-requires-clause-within c).In_ok-account in simp (back, within_fits {b = limit} (omega arith) w) w

pub returns : goal.returns
returns c =
    let fits : SFits w64 c.in_ok-account.account = within_fits (omega arith) (is_within (goal.at.returns c).In_ok-account) in
    let bound : SFits w64 c.bound-bound.result = ok64 c.bound-bound.result c.bound-bound.type_inv in
    simp (back, fits, bound) (reckoned_accepted _ _ _ _ c.in_ok-account.ensures c.bound-bound.ensures.value (simp (back, fits, bound) at c.word_of.ensures))
