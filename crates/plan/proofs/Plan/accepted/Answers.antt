-- `Plan::accepted` is the head, and then the rest of the checks with no lists.
use mathlib.Core.Path.{◌≡◌, refl, sym, ap, ◌∙◌}
use Rattle.std.proofs.lemmas.Result.{err_from_is_err_and}
use Rattle.refusal.specs.Number.{number_of}
use Rattle.refusal.specs.declared.Refusal.{Refusal}
use Rattle.plan.specs.declared.Plan.{Plan}
use Rattle.plan.specs.Numbers.{Numbers, numbers}
use Rattle.plan.specs.Refusal.{head_refusal, refusal_of, refusal_with}
use Rattle.plan.proofs.Number.{number_some, number_own}
use Rattle.plan.proofs.Checks.{first_some}
use Rattle.plan.proofs.Plan.accepted.Goals as goal

at_head : (P : Numbers) (refused : Refusal) → number_of refused ≡ head_refusal P → number_of refused ≡ refusal_of P
unfolding refusal_of
at_head P refused e = e ∙ sym (first_some _ _ (λ z. number_some refused (e ∙ z)))

no_lists : (P : Numbers) → refusal_with P 0 ≡ refusal_of P
unfolding refusal_of refusal_with
no_lists P = refl

pub returns-in_err-headed-clause-is : goal.returns-in_err-headed-clause-is
returns-in_err-headed-clause-is c =
    let p = err_from_is_err_and c.from_residual.result c.from_residual.ensures.1 in
    rw (p.1, p.2) (at_head _ _ c.in_err-headed.ensures.is)

pub returns-clause-is : goal.returns-clause-is
returns-clause-is c = c.accepted.ensures.is number_of number_own ∙ no_lists _ ∙ ap (λ (plan : Plan). refusal_of (numbers plan)) c.in_ok-headed.ensures.plan
