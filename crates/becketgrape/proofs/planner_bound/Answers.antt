-- `becketgrape::planner_bound` puts down what the call on the file answers.
use mathlib.Core.Path.{refl}
use mir.Syntax.{w64}
use mir.Val.{SFits}
use Rattle.std.proofs.Common.{rules}
use Rattle.whole.proofs.Range.{back}
use Rattle.planner.specs.Calls.{no_bound, bound_answer}
use Rattle.planner.specs.Shown.{bound_shown}
use Rattle.becketgrape.specs.Calls.{bound_of_file}
use Rattle.becketgrape.proofs.OnFile.{file_answered, bound_put}
use Rattle.becketgrape.proofs.planner_bound.Goals as goal

pub returns : goal.returns
unfolding bound_of_file
returns c =
    let a = c.on_file-answer.ensures in
    let t = c.args.pattern in
    let shown = file_answered no_bound bound_shown (λ e. refl) c.args.file.now (λ P. bound_answer P t) c.on_file-answer.result a.refused a.called (λ plan k. search rules) in
    let e = bound_put c.on_file-answer.result c.number_in.ensures c.unwrap_or.ensures shown in
    let z : SFits w64 c.unwrap_or.result = search rules in
    simp (back, z) e
