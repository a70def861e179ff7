-- `becketgrape::planner_cash` puts down what `cash_of_file` answers.
use mathlib.Core.Path.{◌≡◌, sym, ap, ◌∙◌, subst}
use mir.Syntax.{w64}
use mir.Val.{SFits}
use Rattle.std.proofs.Common.{rules}
use Rattle.whole.proofs.Range.{back}
use Rattle.cash.specs.Call.{no_cash}
use Rattle.cash.specs.Shown.{cash_shown}
use Rattle.cash.specs.Theorem.{CashTrue}
use Rattle.cash.proofs.Theorem.{near_every_year}
use Rattle.cash.proofs.Alike.{cash_alike}
use Rattle.cash.proofs.Uncosted.{cash_uncosted}
use Rattle.becketgrape.specs.Calls.{cash_of_file}
use Rattle.becketgrape.proofs.OnFile.{cash_true_of}
use Rattle.becketgrape.proofs.planner_cash.Goals as goal

pub returns-in-Ok : goal.returns-in-Ok
returns-in-Ok c =
    let v : SFits w64 c.in-Ok.cash.account = search rules in
    let g : SFits w64 c.in-Ok.cash.bound = search rules in
    let cash = c.in-Ok.cash in
    let e : record { refusal = 0; account = cash.account; bound = cash.bound; word = c.from.result } ≡ cash_of_file c.args.file.now c.args.lending.now c.args.borrowing.now =
    rw c.from.ensures (sym (ap cash_shown c.in-Ok.is) ∙ c.cash_of_file.ensures) in
    record { is = simp (back, v, g) e; near = simp (back, v, g) (subst (CashTrue _ _ _) (sym e) (cash_true_of _ _ _)); theorem = near_every_year; alike = cash_alike _ _ _; uncosted = cash_uncosted _ _ _ }

pub returns-in-Err : goal.returns-in-Err
returns-in-Err c =
    let e : no_cash c.from-in-Err.result ≡ cash_of_file c.args.file.now c.args.lending.now c.args.borrowing.now =
    rw c.from-in-Err.ensures (sym (ap cash_shown c.in-Err.is) ∙ c.cash_of_file.ensures) in
    record { is = e; near = subst (CashTrue _ _ _) (sym e) (cash_true_of _ _ _); theorem = near_every_year; alike = cash_alike _ _ _; uncosted = cash_uncosted _ _ _ }
