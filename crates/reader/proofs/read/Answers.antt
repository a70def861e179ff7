-- `read` makes checks 1 to 5 on the records, and then those on the plan that they hold.
use mathlib.Core.Path.{sym}
use Rattle.std.proofs.lemmas.Result.{err_from_is_err_and}
use Rattle.little_endian.proofs.LittleEndian.{bytes_lent}
use Rattle.reader.proofs.Answer.{layout_refused, filled_refused, filled_accepted, filled_file}
use Rattle.reader.proofs.read.Goals as goal

pub returns-in_err-fill-clause-is : goal.returns-in_err-fill-clause-is
returns-in_err-fill-clause-is c =
    let p = err_from_is_err_and c.from_residual.result c.from_residual.ensures.1 in
    rw (p.1, p.2) (layout_refused _ _ c.in_err-fill.ensures.is)

pub returns-in_err-accepted-clause-is : goal.returns-in_err-accepted-clause-is
returns-in_err-accepted-clause-is c =
    let p = err_from_is_err_and c.from_residual-in_err-accepted.result c.from_residual-in_err-accepted.ensures.1 in
    rw (p.1, p.2) (filled_refused _ (sym c.in_ok-fill.ensures.is) c.in_ok-fill.ensures.filled _ c.in_err-accepted.ensures.is)

pub returns-clause-is : goal.returns-clause-is
returns-clause-is c = filled_accepted _ (sym c.in_ok-fill.ensures.is) c.in_ok-fill.ensures.filled (sym c.in_ok-accepted.ensures.is)

pub returns-clause-kept : goal.returns-clause-kept
returns-clause-kept c = filled_file _ (sym c.in_ok-fill.ensures.is) c.in_ok-fill.ensures.filled (bytes_lent c.type_inv.file) (sym c.in_ok-accepted.ensures.is)
