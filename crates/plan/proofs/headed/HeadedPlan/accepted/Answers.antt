-- `HeadedPlan::accepted` is the first check after the head that fails.
use mathlib.Core.Path.{◌≡◌, refl, sym, ap, ◌∙◌}
use mathlib.Core.Bool.{true, false}
use Prim.Native.Nat.{ℕ}
use Rattle.std.proofs.lemmas.Result.{err_from_is_err_and}
use Rattle.refusal.specs.Number.{number_of, number_in}
use Rattle.refusal.specs.declared.Refusal.{Refusal}
use Rattle.plan.specs.Numbers.{Numbers, numbers}
use Rattle.plan.specs.Refusal.{first_of, allocation_ok, amounts_refusal, rates_refusal, allocation_refusal, refusal_with, Head}
use Rattle.plan.proofs.Number.{number_some}
use Rattle.plan.proofs.Checks.{allocation_ok_law, after_head, first_some, accepted, plan_passes}
use Rattle.plan.proofs.headed.HeadedPlan.accepted.Goals as goal

-- the first of three that fails, where the ones before it do not
module _ {P : Numbers} (head : Head P) (lists : ℕ) where
  at_amounts : (refused : Refusal) → number_of refused ≡ amounts_refusal P → number_of refused ≡ refusal_with P lists
  at_amounts refused e = e ∙ sym (after_head head lists ∙ first_some _ _ (λ z. number_some refused (e ∙ z)))

  module _ (amounts : 0 ≡ amounts_refusal P) where
    after_amounts : refusal_with P lists ≡ first_of (rates_refusal P) (first_of lists (allocation_refusal P))
    after_amounts = after_head head lists ∙ rw (← amounts)

    at_rates : (refused : Refusal) → number_of refused ≡ rates_refusal P → number_of refused ≡ refusal_with P lists
    at_rates refused e = e ∙ sym (after_amounts ∙ first_some _ _ (λ z. number_some refused (e ∙ z)))

    module _ (rates : 0 ≡ rates_refusal P) where
      after_rates : refusal_with P lists ≡ first_of lists (allocation_refusal P)
      after_rates = after_amounts ∙ rw (← rates)

      at_lists : (lists ≡ 0 → ⊥) → lists ≡ refusal_with P lists
      at_lists some = sym (after_rates ∙ first_some _ _ some)

      after_lists : lists ≡ 0 → refusal_with P lists ≡ allocation_refusal P
      after_lists e = after_rates ∙ rw e

short : (P : Numbers) → allocation_ok P ≡ false → 9 ≡ allocation_refusal P
unfolding allocation_refusal
short P e = rw e

whole : (P : Numbers) → allocation_ok P ≡ true → 0 ≡ allocation_refusal P
unfolding allocation_refusal
whole P e = rw e

pub returns-in_err-check_amounts-clause-is : goal.returns-in_err-check_amounts-clause-is
returns-in_err-check_amounts-clause-is g c number known =
    let p = err_from_is_err_and c.from_residual.result c.from_residual.ensures.1 in
    rw p.1 (known.0 _ _ p.2 ∙ at_amounts c.args.self.head _ _ c.in_err-check_amounts.ensures)

pub returns-in_err-check_rates-clause-is : goal.returns-in_err-check_rates-clause-is
returns-in_err-check_rates-clause-is g c number known =
    let p = err_from_is_err_and c.from_residual-in_err-check_rates.result c.from_residual-in_err-check_rates.ensures.1 in
    rw p.1 (known.0 _ _ p.2 ∙ at_rates c.args.self.head _ c.in_ok-check_amounts.ensures _ c.in_err-check_rates.ensures.is)

pub returns-in_err-lists-clause-is : goal.returns-in_err-lists-clause-is
returns-in_err-lists-clause-is g c number known =
    let p = err_from_is_err_and c.from_residual-in_err-lists.result c.from_residual-in_err-lists.ensures.1 in
    rw (p.1, p.2, c.in_err-lists.was) (at_lists c.args.self.head _ c.in_ok-check_amounts.ensures c.in_ok-check_rates.ensures.is (known.1 _))

pub returns-then-not-is_whole-clause-is : goal.returns-then-not-is_whole-clause-is
returns-then-not-is_whole-clause-is g c number known =
    let lists = after_lists c.args.self.head _ c.in_ok-check_amounts.ensures c.in_ok-check_rates.ensures.is (ap (number_in number) c.in_ok-lists.was) in
    known.0 _ _ c.from.ensures ∙ short _ (sym (c.is_whole.ensures ∙ allocation_ok_law c.args.self.plan.now) ∙ c.if-not-is_whole.true) ∙ sym lists

pub invariant_of-result : goal.invariant_of-result
invariant_of-result g c =
    let lists = after_lists c.args.self.head 0 c.in_ok-check_amounts.ensures c.in_ok-check_rates.ensures.is refl in
    let done = whole _ (sym (c.is_whole.ensures ∙ allocation_ok_law c.args.self.plan.now) ∙ c.if-not-is_whole.false) in
    record { accepted = accepted c.args.self.plan.now (plan_passes (numbers c.args.self.plan.now) 0 (lists ∙ sym done)) }

pub returns-clause-is : goal.returns-clause-is
returns-clause-is g c number known =
    let lists = after_lists c.args.self.head _ c.in_ok-check_amounts.ensures c.in_ok-check_rates.ensures.is (ap (number_in number) c.in_ok-lists.was) in
    whole _ (sym (c.is_whole.ensures ∙ allocation_ok_law c.args.self.plan.now) ∙ c.if-not-is_whole.false) ∙ sym lists
