-- `becketgrape::planner_verdict` puts down what the call on the file answers.
use mathlib.Core.Path.{◌≡◌, sym, ap, ◌∙◌, subst}
use Rattle.std.proofs.Common.{rules}
use Rattle.std.specs.Prelude.{Result}
use Rattle.refusal.specs.declared.Refusal.{Refusal}
use Rattle.planner.specs.declared.rows.Judged.{Judged}
use Rattle.planner.specs.Answers.{VerdictAnswer}
use Rattle.planner.specs.Shown.{judgement_shown}
use Rattle.planner.specs.Verdict.{no_verdict}
use Rattle.planner.specs.Demand3.{VerdictTrue}
use Rattle.becketgrape.specs.Calls.{verdict_of_file}
use Rattle.becketgrape.proofs.OnFile.{file_judged, verdict_true}
use Rattle.becketgrape.proofs.planner_verdict.Goals as goal

abbrev verdict_in : Result Judged Refusal → VerdictAnswer
verdict_in r = (judgement_shown r).verdict

pub returns-in-Ok : goal.returns-in-Ok
returns-in-Ok c =
    let a = c.on_file.ensures in
    let v = c.verdict-verdict in
    let known = sym (ap verdict_in c.in-Ok.is) ∙ file_judged c.args.file.now c.on_file.result a.refused a.called (λ plan k. search rules) in
    let e : record { refusal = 0; words = c.numbers_of.result; short = v.result.short; word = c.from.result } ≡ verdict_of_file c.args.file.now =
    rw (c.numbers_of.ensures, c.from.ensures) (v.ensures ∙ known) in
    record { is = e; near = subst (VerdictTrue _) (sym e) (verdict_true _) }

pub returns-in-Err : goal.returns-in-Err
returns-in-Err c =
    let a = c.on_file.ensures in
    let known = sym (ap verdict_in c.in-Err.is) ∙ file_judged c.args.file.now c.on_file.result a.refused a.called (λ plan k. search rules) in
    let e : no_verdict c.from-in-Err.result ≡ verdict_of_file c.args.file.now = rw c.from-in-Err.ensures known in
    record { is = e; near = subst (VerdictTrue _) (sym e) (verdict_true _) }
