-- `becketgrape::on_file` answers the refusal of the records or of the numbers, or what the call answers for the plan that was read.
use mathlib.Core.Path.{sym, ap, ◌∙◌}
use Rattle.std.proofs.lemmas.Result.{err_from_is_err_and}
use Rattle.plan.proofs.Number.{number_some}
use Rattle.planfile.specs.Answers.{ReadAnswer}
use Rattle.reader.proofs.Answer.{layout_refused, filled_refused, filled_accepted}
use Rattle.becketgrape.proofs.on_file.Goals as goal

pub returns-in_err-fill-clause-refused : goal.returns-in_err-fill-clause-refused
returns-in_err-fill-clause-refused g c h =
    let p = err_from_is_err_and c.from_residual.result c.from_residual.ensures.1 in
    rw (p.1, p.2) (ap (λ (a : ReadAnswer). a.refusal) (layout_refused _ _ c.in_err-fill.ensures.is))

pub returns-in_err-fill-clause-called : goal.returns-in_err-fill-clause-called
returns-in_err-fill-clause-called g c h = absurd (number_some _ (ap (λ (a : ReadAnswer). a.refusal) (layout_refused _ _ c.in_err-fill.ensures.is) ∙ h))

pub returns-in_err-accepted-clause-refused : goal.returns-in_err-accepted-clause-refused
returns-in_err-accepted-clause-refused g c h =
    let p = err_from_is_err_and c.from_residual-in_err-accepted.result c.from_residual-in_err-accepted.ensures.1 in
    rw (p.1, p.2) (ap (λ (a : ReadAnswer). a.refusal) (filled_refused _ (sym c.in_ok-fill.ensures.is) c.in_ok-fill.ensures.filled _ c.in_err-accepted.ensures.is))

pub returns-in_err-accepted-clause-called : goal.returns-in_err-accepted-clause-called
returns-in_err-accepted-clause-called g c h =
    absurd (number_some _ (ap (λ (a : ReadAnswer). a.refusal) (filled_refused _ (sym c.in_ok-fill.ensures.is) c.in_ok-fill.ensures.filled _ c.in_err-accepted.ensures.is) ∙ h))

pub returns-clause-refused : goal.returns-clause-refused
returns-clause-refused g c h =
    absurd (h (sym (ap (λ (a : ReadAnswer). a.refusal) (filled_accepted _ (sym c.in_ok-fill.ensures.is) c.in_ok-fill.ensures.filled (sym c.in_ok-accepted.ensures.is)))))

pub returns-clause-called : goal.returns-clause-called
returns-clause-called g c h =
    let e = filled_accepted _ (sym c.in_ok-fill.ensures.is) c.in_ok-fill.ensures.filled (sym c.in_ok-accepted.ensures.is) in
    (c.in_ok-accepted.field-0, c.in_ok-accepted.ensures.plan ∙ ap (λ (a : ReadAnswer). a.plan) e, c.call.ensures)
