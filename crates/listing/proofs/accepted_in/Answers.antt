-- `listing::accepted_in` makes checks 1 to 5 on the records, and then those on the plan that they hold.
use mathlib.Core.Path.{sym}
use Rattle.std.proofs.lemmas.Result.{err_from_is_err_and}
use Rattle.reader.proofs.Answer.{layout_refused}
use Rattle.listing.proofs.File.{accepted_read}
use Rattle.listing.proofs.accepted_in.Goals as goal

pub returns-in_err-fill : goal.returns-in_err-fill
returns-in_err-fill c =
    let p = err_from_is_err_and c.from_residual.result c.from_residual.ensures.1 in
    rw (p.1, p.2) (layout_refused _ _ c.in_err-fill.ensures.is)

pub returns : goal.returns
returns c = accepted_read _ (sym c.in_ok-fill.ensures.is) c.in_ok-fill.ensures.filled c.accepted.result c.accepted.ensures.is c.accepted.ensures.plan
