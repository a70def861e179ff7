-- T decides nothing but check 13.
use mathlib.Core.Path.{◌≡◌, refl, sym, ap, ◌∙◌, subst, fun_ext}
use mathlib.Core.Bool.{Bool, true, false}
use Prim.Native.Nat.{ℕ, zero, suc, ◌-◌}
use lib.IntN.{ℤ, pos}
use Rattle.whole.proofs.Entry.{entry_own}
use Rattle.whole.proofs.Test.{all_yes}
use Rattle.plan.specs.Held.{Held}
use Rattle.plan.specs.Numbers.{Numbers, rate_in, meaning}
use Rattle.plan.specs.Refusal.{check, first_of, head_ok, payments_ok, payments_fit, outflows_ok, opening_ok, cost_ok, amounts_ok, rollover_ok, untils_ok, rates_ok, rates_fit, allocation_ok, head_refusal, amounts_refusal, rates_refusal, allocation_refusal, refusal_of, refusal_with}
use Rattle.planner.specs.Calls.{call_refusal, fund_answer, bound_of, bound_answer, form_answer, gammas_answer}
use Rattle.planner.specs.Verdict.{pattern_word, row_of, verdict_refusal, short_bits, plan_word, verdict_answer, rows_of, judgement_of}
use Rattle.planner.specs.Alike.{spelled_out, meant, SameAnswers, Alike}

-- without check 13 the first refusal is the same, unless it was 13; whatever comes after the patterns
drop_13 : (head amounts : ℕ) (untils rates : Bool) (allocation after : ℕ)
    → (first_of head (first_of amounts (first_of (check untils 13 (check rates 8 0)) allocation)) ≡ 13 → ⊥)
    → first_of head (first_of amounts (first_of (check untils 13 (check rates 8 0)) after)) ≡ first_of head (first_of amounts (first_of (check rates 8 0) after))
drop_13 (suc n) amounts untils rates allocation after h = refl
drop_13 zero (suc n) untils rates allocation after h = refl
drop_13 zero zero true rates allocation after h = refl
drop_13 zero zero false rates allocation after h = absurd (h refl)

-- a plan and what it means
module _ (P : Numbers) (no : refusal_of P ≡ 13 → ⊥) where
  untils_meant : untils_ok (meant P) ≡ true
  unfolding untils_ok
  untils_meant = all_yes P.patterns _ (λ t h. refl)

  pub refusal_meant : refusal_of P ≡ refusal_of (meant P)
  unfolding refusal_of head_refusal amounts_refusal rates_refusal allocation_refusal head_ok payments_ok payments_fit outflows_ok opening_ok cost_ok amounts_ok rollover_ok rates_ok rates_fit allocation_ok
  refusal_meant = rw untils_meant (drop_13 (head_refusal P) (amounts_refusal P) (untils_ok P) (rates_ok P) (allocation_refusal P) (allocation_refusal P) no)

  -- and of a call with lists
  pub refusal_with_meant : (lists : ℕ) → refusal_with P lists ≡ refusal_with (meant P) lists
  unfolding refusal_of refusal_with head_refusal amounts_refusal rates_refusal allocation_refusal head_ok payments_ok payments_fit outflows_ok opening_ok cost_ok amounts_ok rollover_ok rates_ok rates_fit
      allocation_ok
  refusal_with_meant lists = rw untils_meant (drop_13 (head_refusal P) (amounts_refusal P) (untils_ok P) (rates_ok P) (allocation_refusal P) (first_of lists (allocation_refusal P)) no)

  pub same_meant : SameAnswers P (meant P)
  unfolding fund_answer bound_answer bound_of form_answer gammas_answer call_refusal verdict_answer plan_word short_bits pattern_word rows_of row_of judgement_of verdict_refusal
  same_meant = record {
    fund = λ t. rw refusal_meant;
    bound = λ t. rw refusal_meant;
    form = λ t. rw refusal_meant;
    gammas = λ t. rw refusal_meant;
    verdict = rw refusal_meant;
    rows = rw refusal_meant;
  }

-- two that mean the same
means_same : (P Q : Numbers) → meant P ≡ meant Q → (refusal_of P ≡ 13 → ⊥) → (refusal_of Q ≡ 13 → ⊥) → SameAnswers P Q
means_same P Q e f g =
    let p = same_meant P f in
    let q = same_meant Q g in
    record {
      fund = λ t. p.fund t ∙ ap (λ (R : Numbers). fund_answer R t) e ∙ sym (q.fund t);
      bound = λ t. p.bound t ∙ ap (λ (R : Numbers). bound_answer R t) e ∙ sym (q.bound t);
      form = λ t. p.form t ∙ ap (λ (R : Numbers). form_answer R t) e ∙ sym (q.form t);
      gammas = λ t. p.gammas t ∙ ap (λ (R : Numbers). gammas_answer R t) e ∙ sym (q.gammas t);
      verdict = p.verdict ∙ ap verdict_answer e ∙ sym q.verdict;
      rows = p.rows ∙ ap judgement_of e ∙ sym q.rows;
    }

-- P with other rates, and no T
abbrev rated : Numbers → (i : ℕ → ℕ → ℤ) → Numbers
rated P i = record {
  years = P.years;
  instruments = P.instruments;
  terms = P.terms;
  patterns = P.patterns;
  a = P.a;
  o = P.o;
  r = P.r;
  i = i;
  p = P.p;
  b = P.b;
  T = λ t. 1;
  cost = P.cost;
  costed = P.costed;
}

-- a list of the rates that a pattern means has just these, and no T that check 13 looks at
pub spelled_meant : (H : Held) → meaning (spelled_out H) ≡ meant (meaning H)
spelled_meant H =
    let N = H.shape.years in
    ap (λ (i : ℕ → ℕ → ℤ). rated (meaning H) i)
    (fun_ext (λ t. fun_ext (λ k. ap (λ (f : ℕ → ℤ). f (k - 1)) (sym (entry_own (pos 0) (N - 1) (rate_in (H.pattern t)))))))

pub alike : (H : Held) → Alike H
alike H = record {
  listed = λ no. subst (SameAnswers (meaning H)) (sym (spelled_meant H)) (same_meant (meaning H) no);
  others = λ G. means_same (meaning H) (meaning G);
}
