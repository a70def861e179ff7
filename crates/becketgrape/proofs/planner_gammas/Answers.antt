-- `becketgrape::planner_gammas` puts down what the call on the file answers.
use mathlib.Core.Path.{refl, ap, ◌∙◌}
use Rattle.std.proofs.Common.{rules}
use Rattle.reckoning.specs.Answers.{GammaTable, gammas_shown}
use Rattle.planner.specs.Calls.{no_gammas, gammas_answer}
use Rattle.arrays.specs.Arrays.{all_gammas}
use Rattle.becketgrape.specs.Calls.{gammas_of_file}
use Rattle.becketgrape.proofs.OnFile.{file_answered, gammas_put}
use Rattle.becketgrape.proofs.planner_gammas.Goals as goal

pub returns : goal.returns
unfolding gammas_of_file
returns c =
    let a = c.on_file-answer.ensures in
    let t = c.args.pattern in
    let shown = file_answered no_gammas gammas_shown (λ e. refl) c.args.file.now (λ P. gammas_answer P t) c.on_file-answer.result a.refused a.called (λ plan k. search rules) in
    let e = gammas_put c.on_file-answer.result c.number_in.ensures c.unwrap_or.ensures shown in
    record { value = ap (λ (s : GammaTable). s.refusal) e; gammas_after = c.put_gammas.ensures ∙ ap (λ (s : GammaTable). all_gammas s.rows) e }
