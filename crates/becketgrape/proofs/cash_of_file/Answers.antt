-- `becketgrape::cash_of_file` answers the refusal of the records, or what the call answers for the plan that they hold.
use Rattle.std.proofs.lemmas.Result.{err_from_is_err_and}
use Rattle.cash.specs.Call.{no_cash, cash_answer}
use Rattle.becketgrape.specs.Calls.{cash_of_file}
use Rattle.becketgrape.proofs.OnFile.{records_refused, records_called}
use Rattle.becketgrape.proofs.cash_of_file.Goals as goal

pub returns-in_err-read_unchecked : goal.returns-in_err-read_unchecked
unfolding cash_of_file
returns-in_err-read_unchecked c =
    let a = c.args in
    let p = err_from_is_err_and c.from_residual.result c.from_residual.ensures.1 in
    rw (p.1, p.2) (records_refused _ no_cash (λ P. cash_answer P a.lending.now a.borrowing.now) _ c.in_err-read_unchecked.ensures)

pub returns : goal.returns
unfolding cash_of_file
returns c =
    let a = c.args in
    records_called _ no_cash (λ P. cash_answer P a.lending.now a.borrowing.now) _ c.in_ok-read_unchecked.ensures c.cash.ensures.is
