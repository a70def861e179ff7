-- `read_unchecked` makes checks 1 to 5 alone.
use mathlib.Core.Path.{sym}
use Rattle.std.proofs.lemmas.Result.{err_from_is_err_and}
use Rattle.reader.proofs.Answer.{refused_records, filled_records}
use Rattle.reader.proofs.read_unchecked.Goals as goal

pub returns-in_err-fill : goal.returns-in_err-fill
returns-in_err-fill c =
    let p = err_from_is_err_and c.from_residual.result c.from_residual.ensures.1 in
    rw (p.1, p.2) (refused_records _ _ c.in_err-fill.ensures.is)

pub returns : goal.returns
returns c = filled_records _ (sym c.in_ok-fill.ensures.is) c.in_ok-fill.ensures.filled
