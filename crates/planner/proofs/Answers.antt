-- What the refusal of a call says, the ways out of a call, and that what a plan does not hold plays no part.
use mathlib.Core.Path.{◌≡◌, sym, ap, ◌∙◌}
use mathlib.Core.Bool.{Bool, true, false}
use mathlib.Core.List.{List, []}
use lib.IntN.{ℤ}
use Prim.Native.Nat.{ℕ, ◌+◌, ◌≤◌}
use native.Mathlib.Omega.{arith}
use Rattle.std.proofs.lemmas.Result.{err_from_is_err_and}
use Rattle.std.specs.Prelude.{Result, Err, IsErrAnd, is_some}
use Rattle.refusal.specs.Number.{number_of, refusal_in}
use Rattle.refusal.specs.declared.Refusal.{Refusal}
use Rattle.whole.specs.Test.{is_from}
use Rattle.whole.proofs.Test.{from_low, from_high}
use Rattle.reckoning.specs.Bound.{h, B}
use Rattle.plan.specs.Held.{Held, held, flag}
use Rattle.plan.specs.Numbers.{Numbers, meaning, numbers}
use Rattle.plan.specs.Refusal.{answer, refusal_of, Accepted}
use Rattle.plan.specs.declared.Plan.{Plan}
use Rattle.plan.proofs.Checks.{check_true, first_some, first_none, first_next, answer_refused, answer_accepted, accepted}
use Rattle.patterns.specs.Prepared.{Parts}
use Rattle.patterns.specs.Arrays.{parts_of, shared_in, shared_with, Allocated}
use Rattle.patterns.specs.Pattern.{Shared, shared_of, bound_at}
use Rattle.patterns.specs.declared.common.Common.{Common}
use Rattle.patterns.proofs.Weighing.{parts_first}
use Rattle.plan.proofs.Number.{number_some}
use Rattle.planner.specs.Calls.{call_refusal, bound_of}

-- ---- the refusal of a call on pattern t
module _ (P : Numbers) (t : ℕ) where
  pub refused_plan : {A : Type 0} (e : Refusal) (r : Result A Refusal) → IsErrAnd r (λ d. d ≡ e) → number_of e ≡ refusal_of P → refusal_in r ≡ call_refusal P t
  unfolding call_refusal
  refused_plan e r h k = let p = err_from_is_err_and r h in rw (p.1, p.2) (k ∙ sym (first_some (refusal_of P) _ (λ z. number_some e (k ∙ z))))

  pub refused_pattern : refusal_of P ≡ 0 → is_from 1 P.patterns t ≡ false → 10 ≡ call_refusal P t
  unfolding call_refusal
  refused_pattern e f = rw (e, f)

  pub refused_none : refusal_of P ≡ 0 → is_from 1 P.patterns t ≡ true → 0 ≡ call_refusal P t
  unfolding call_refusal
  refused_none e f = rw (e, f)

-- what a call that is not refused has: an accepted plan, and one of its patterns
pub record Called (plan : Plan) (t : ℕ) : Type 0 where
  pub plan_ok : Accepted (numbers plan)
  pub some : 1 ≤ t
  pub few : t ≤ plan.patterns

pub called : (plan : Plan) (t : ℕ) → call_refusal (numbers plan) t ≡ 0 → Called plan t
unfolding call_refusal
called plan t e =
    let P = numbers plan in
    let ok = check_true (is_from 1 P.patterns t) 10 0 (omega arith) (first_next (refusal_of P) _ e) in
    record {
      plan_ok = accepted plan (first_none (refusal_of P) _ e);
      some = from_low 1 P.patterns t ok;
      few = from_high 1 P.patterns t ok;
    }

-- ---- the ways out of a call, by the refusal that it found
module _ {A : Type 0} (refused : ℕ → A) {number : ℕ} where
  pub out_number : {found : ℕ} (s : A) → found ≡ number → (found ≡ 0 → ⊥) → refused found ≡ answer refused number s
  out_number {found} s e h = sym (answer_refused refused found s h) ∙ ap (λ (n : ℕ). answer refused n s) e

  pub out_refused : (e : Refusal) (s : A) → number_of e ≡ number → refused (number_of e) ≡ answer refused number s
  out_refused e s k = out_number s k (number_some e)

  -- the exit of a `?`, whose answer is shown as that refusal
  pub out_passed : {X : Type 0} (shown : Result X Refusal → A) → ((e : Refusal) → shown (Err e) ≡ refused (number_of e)) → (e : Refusal) (r : Result X Refusal) → IsErrAnd r (λ d. d ≡ e) → number_of e ≡ number → (s : A) → shown r ≡ answer refused number s
  out_passed shown same e r h k s = let p = err_from_is_err_and r h in rw (p.1, p.2) (same e ∙ out_refused e s k)

  pub out_accepted : {s x : A} → 0 ≡ number → x ≡ s → x ≡ answer refused number s
  out_accepted {s} e f = f ∙ sym (answer_accepted refused number s (sym e))

-- B looks at the rates, the years and whether the cost is held
pub bound_made : {plan taken : Plan} → taken ≡ plan → (t : ℕ) {i : ℕ → ℤ} {N : ℕ} {costed : Bool} → i ≡ (numbers plan).i t → N ≡ taken.years → costed ≡ is_some taken.cost
    → B (h i N) N + flag costed ≡ bound_of (numbers plan) t
unfolding bound_of bound_at
bound_made same t e f g = rw (e, f ∙ ap (λ (x : Plan). x.years) same, g ∙ ap (λ (x : Plan). is_some x.cost) same)

-- ---- what all patterns share, of the code's record that is made of a plan; the plan is known by an equal one
module _ {plan taken : Plan} (same : taken ≡ plan) (c : Common) (shared : (shares : List ℕ) → shared_in c shares ≡ shared_with (numbers taken) (parts_of taken.instruments shares)) where
  -- with the parts of its allocation
  pub shared_is : (shares : List ℕ) → parts_of taken.instruments shares ≡ (numbers taken).p → shared_in c shares ≡ shared_of (numbers plan)
  shared_is shares h = shared shares ∙ ap (shared_with (numbers taken)) h ∙ ap (λ (x : Plan). shared_of (numbers x)) same

  -- B looks at none
  pub bound_law : (t : ℕ) {i : ℕ → ℤ} → i ≡ (numbers plan).i t → bound_at (shared_in c []) i ≡ bound_of (numbers plan) t
  unfolding bound_of bound_at
  bound_law t e = bound_made same t e (ap (λ (S : Shared). S.years) (shared [])) (ap (λ (S : Shared). S.costed) (shared []))

-- an allocation of sixteen parts, of what takes each of n
pub allocation_taken : (c : Common) → ((shares : List ℕ) → Parts c.instruments shares → Allocated c shares) → {shares : List ℕ} → Parts 16 shares → Allocated c shares
allocation_taken c all {shares} parts = all shares (parts_first shares c.instruments c.prepared.few parts)

-- ---- plans that hold the same are answered alike: no answer sees more of a plan than its numbers
pub answered_alike : {A : Type 0} (answered : Numbers → A) (x y : Plan) → held x ≡ held y → answered (numbers x) ≡ answered (numbers y)
answered_alike answered x y = ap (λ (H : Held). answered (meaning H))
