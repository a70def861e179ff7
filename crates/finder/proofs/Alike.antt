-- T decides nothing but check 13, in the search too.
use mathlib.Core.Path.{◌≡◌, sym, ap, ◌∙◌, subst, fun_ext}
use mathlib.Core.Bool.{Bool, true, false}
use mathlib.Core.List.{List}
use Prim.Native.Nat.{ℕ, zero, suc}
use native.Mathlib.Omega.{arith}
use lib.Dec.{eqb}
use Rattle.plan.specs.Held.{Held}
use Rattle.plan.specs.Numbers.{Numbers, meaning}
use Rattle.plan.specs.Refusal.{check, first_of, answer, head_ok, payments_ok, payments_fit, outflows_ok, opening_ok, cost_ok, amounts_ok, rollover_ok, untils_ok, rates_ok, rates_fit, allocation_ok, head_refusal, amounts_refusal, rates_refusal, allocation_refusal, refusal_of}
use Rattle.planner.specs.Verdict.{solvent}
use Rattle.planner.specs.Alike.{meant}
use Rattle.planner.specs.Answers.{VerdictAnswer}
use Rattle.planner.proofs.Alike.{refusal_meant, same_meant as means_same, spelled_meant}
use Rattle.finder.specs.Grid.{allocations}
use Rattle.finder.specs.Find.{not_found, allocated, solvent_with, first_that, find_refusal, find_answer}
use Rattle.finder.specs.Alike.{FindAlike}

-- no shares make a plan refused 13 that is not: what comes after the patterns is 0 or 9
after_13 : (head amounts rates allocation other : ℕ) → (other ≡ 13 → ⊥) → first_of head (first_of amounts (first_of rates other)) ≡ 13 → first_of head (first_of amounts (first_of rates allocation)) ≡ 13
after_13 (suc n) amounts rates allocation other h e = e
after_13 zero (suc n) rates allocation other h e = e
after_13 zero zero (suc n) allocation other h e = e
after_13 zero zero zero allocation other h e = absurd (h e)

not_13 : (b : Bool) → check b 9 0 ≡ 13 → ⊥
not_13 true e = omega arith
not_13 false e = omega arith

module _ (P : Numbers) (h : refusal_of P ≡ 13 → ⊥) where
  shares_13 : (shares : List ℕ) → refusal_of (allocated P shares) ≡ 13 → ⊥
  unfolding refusal_of head_refusal amounts_refusal rates_refusal allocation_refusal head_ok payments_ok payments_fit outflows_ok opening_ok cost_ok amounts_ok rollover_ok untils_ok rates_ok rates_fit
  shares_13 shares e = h (after_13 (head_refusal P) (amounts_refusal P) (rates_refusal P) (allocation_refusal P) (allocation_refusal (allocated P shares)) (not_13 (allocation_ok (allocated P shares))) e)

  solvent_meant : (shares : List ℕ) → solvent_with P shares ≡ solvent_with (meant P) shares
  unfolding solvent_with
  solvent_meant shares = ap (λ (v : VerdictAnswer). eqb v.word solvent) (means_same (allocated P shares) (shares_13 shares)).verdict

module _ (D : ℕ) where
  same_meant : (P : Numbers) → (refusal_of P ≡ 13 → ⊥) → find_answer P D ≡ find_answer (meant P) D
  unfolding find_answer find_refusal
  same_meant P h =
      rw (refusal_meant P h)
      (ap (λ (test : List ℕ → Bool). answer not_found (find_refusal (meant P) D) (first_that test (allocations P.instruments D))) (fun_ext (solvent_meant P h)))

  pub find_alike : (H : Held) → FindAlike H D
  find_alike H = record {
    listed = λ h. subst (λ (Q : Numbers). find_answer (meaning H) D ≡ find_answer Q D) (sym (spelled_meant H)) (same_meant (meaning H) h);
    others = λ G e f g. same_meant (meaning H) f ∙ ap (λ (Q : Numbers). find_answer Q D) e ∙ sym (same_meant (meaning G) g);
  }
