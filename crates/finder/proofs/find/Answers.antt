-- `finder::find` makes the plan's own checks, and then searches.
use mathlib.Core.Path.{ap, ◌∙◌}
use Rattle.std.proofs.lemmas.Result.{err_from_is_err_and}
use Rattle.plan.specs.Numbers.{numbers}
use Rattle.plan.specs.declared.Plan.{Plan}
use Rattle.finder.specs.Find.{find_answer}
use Rattle.finder.specs.Shown.{find_shown}
use Rattle.finder.proofs.Answer.{find_refused, find_answered}
use Rattle.finder.proofs.find.Goals as goal

pub returns-in_err-accepted : goal.returns-in_err-accepted
returns-in_err-accepted c =
    let p = err_from_is_err_and c.from_residual.result c.from_residual.ensures.1 in
    let a = find_answered c.args.plan.now c.args.parts {s = find_shown c.from_residual.result} (rw (p.1, p.2) (find_refused _ _ _ c.in_err-accepted.ensures.is)) in
    record { is = a.0; says = a.1.0; never = a.1.1.0; alike = a.1.1.1 }

pub returns : goal.returns
returns c =
    let a = find_answered c.args.plan.now c.args.parts {s = find_shown c.find_accepted.result} (c.find_accepted.ensures ∙ ap (λ (p : Plan). find_answer (numbers p) c.args.parts) c.in_ok-accepted.ensures.plan) in
    record { is = a.0; says = a.1.0; never = a.1.1.0; alike = a.1.1.1 }
