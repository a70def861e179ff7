-- `becketgrape::planner_form` puts down what the call on the file answers.
use mathlib.Core.Path.{refl, sym, subst}
use mir.Syntax.{w64}
use mir.Val.{SFits}
use Rattle.std.proofs.Common.{rules}
use Rattle.whole.proofs.Range.{back}
use Rattle.patterns.specs.Pattern.{no_form}
use Rattle.patterns.specs.Shown.{form_shown}
use Rattle.planner.specs.Calls.{form_answer}
use Rattle.planner.specs.Demand3.{FormNear}
use Rattle.becketgrape.specs.Calls.{form_of_file}
use Rattle.becketgrape.proofs.OnFile.{file_answered, form_put, form_near}
use Rattle.becketgrape.proofs.planner_form.Goals as goal

pub returns : goal.returns
unfolding form_of_file
returns c =
    let a = c.on_file-answer.ensures in
    let t = c.args.pattern in
    let shown = file_answered no_form form_shown (λ e. refl) c.args.file.now (λ P. form_answer P t) c.on_file-answer.result a.refused a.called (λ plan k. search rules) in
    let e = form_put c.on_file-answer.result c.number_in.ensures c.unwrap_or-form.ensures shown in
    let q : SFits w64 c.unwrap_or-form.result.constant = search rules in
    let z : SFits w64 c.unwrap_or-form.result.value = search rules in
    record { is = simp (back, q, z) e; near = simp (back, q, z) (subst (FormNear _ _) (sym e) (form_near _ _)) }
