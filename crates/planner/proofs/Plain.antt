-- A plan without money already invested, without a cost at the horizon and without slopes is one of document 01.
use mathlib.Core.Path.{◌≡◌, refl, ap, ◌∙◌, fun_ext}
use mathlib.Core.Bool.{Bool, true, false}
use Prim.Native.Nat.{ℕ, ◌-◌, ◌*◌, ◌^◌}
use native.Mathlib.Omega.{arith}
use lib.IntN.{pos, neg_ℤ, ◌-ℤ◌, ◌*ℤ◌, +ℤ_idr}
use Rattle.std.specs.Prelude.{is_some}
use Rattle.whole.specs.Range.{million}
use Rattle.whole.specs.Floor.{floor}
use Rattle.whole.specs.Test.{both}
use Rattle.whole.proofs.Bridge.{◌⊕◌, ◌⊖◌, ◌⊗◌, ⊝}
use Rattle.whole.proofs.Solver.{ !, ◌≈◌, ring}
use Rattle.whole.proofs.Test.{both_yes}
use Rattle.reckoning.specs.Reckoning.{paid, flow, fund}
use Rattle.reckoning.specs.Exact.{x, H, with_left}
use Rattle.plan.specs.Held.{Held, PlainHeld, held}
use Rattle.plan.specs.Numbers.{Numbers, meaning, numbers}
use Rattle.plan.specs.Refusal.{check, first_of, head_ok, payments_ok, outflows_ok, opening_ok, cost_ok, amounts_ok, rollover_ok, untils_ok, rates_ok, allocation_ok, head_refusal, amounts_refusal, rates_refusal, allocation_refusal, refusal_of}
use Rattle.plan.specs.declared.Plan.{Plan}
use Rattle.plan.proofs.Held.{rate_at, opening_none, cost_none}
use Rattle.plan.proofs.Checks.{opening_passes, cost_passes, untils_none}
use Rattle.patterns.specs.Pattern.{shared_of, flow_of, exact_flow_of, exact_left_of, left_of, exact_at, fund_at, bound_at, coefficient_at}
use Rattle.patterns.proofs.Weighing.{no_left}
use Rattle.planner.specs.Calls.{exact_fund, bound_of}
use Rattle.planner.specs.Verdict.{fund_of}
use Rattle.planner.specs.Plain.{refusal_plain, PlainFlow, PlainHorizon, Plain}

-- the checks in their parts are the checks one after the other; 13 is passed
checks_join : (a b c d e : Bool)
    → first_of (check a 3 0) (first_of (check b 6 (check c 7 0)) (first_of (check true 13 (check d 8 0)) (check e 9 0))) ≡ check a 3 (check b 6 (check c 7 (check d 8 (check e 9 0))))
checks_join false b c d e = refl
checks_join true false c d e = refl
checks_join true true false d e = refl
checks_join true true true false e = refl
checks_join true true true true e = refl

-- without either check 6 is on payments and outflows, and where no T is looked at the refusal is document 01's
module _ (P : Numbers) (no-opening : opening_ok P ≡ true) (no-cost : cost_ok P ≡ true) where
  same_amounts : amounts_ok P ≡ both (payments_ok P) (outflows_ok P)
  unfolding amounts_ok
  same_amounts = rw (no-opening, no-cost) (ap (both (payments_ok P)) (both_yes (outflows_ok P)))

  same_refusal : untils_ok P ≡ true → refusal_of P ≡ refusal_plain P
  unfolding refusal_of head_refusal amounts_refusal rates_refusal allocation_refusal refusal_plain
  same_refusal passed = rw passed (checks_join (head_ok P) (amounts_ok P) (rollover_ok P) (rates_ok P) (allocation_ok P)
      ∙ ap (λ (six : Bool). check (head_ok P) 3 (check six 6 (check (rollover_ok P) 7 (check (rates_ok P) 8 (check (allocation_ok P) 9 0))))) same_amounts)

-- where nothing is added to -o
module _ (P : Numbers) (none : (k : ℕ) → P.b k ≡ pos 0) where
  same_constant : (k : ℕ) → (shared_of P).constant_flow k ≡ neg_ℤ (P.o k)
  same_constant k = rw (none k) (ring 1 (λ o. ! (pos 0) ⊖ o ≈ ⊝ o) refl (P.o k))

  same_flow : (k : ℕ) → flow_of (shared_of P) k ≡ floor (paid P.instruments P.a P.p k) million -ℤ P.o k
  unfolding flow_of flow
  same_flow k = rw (none k) (ring 2 (λ f o. f ⊕ (! (pos 0) ⊖ o) ≈ f ⊖ o) refl (floor (paid P.instruments P.a P.p k) million) (P.o k))

  same_exact : (k : ℕ) → exact_flow_of (shared_of P) k ≡ paid P.instruments P.a P.p k -ℤ pos million *ℤ P.o k
  unfolding exact_flow_of x
  same_exact k = rw (none k) (ring 3 (λ f m o. f ⊕ m ⊗ (! (pos 0) ⊖ o) ≈ f ⊖ m ⊗ o) refl (paid P.instruments P.a P.p k) (pos million) (P.o k))

  pub plain_flow : PlainFlow P
  plain_flow = record { opening = opening_passes P none; constant = fun_ext same_constant; flow = fun_ext same_flow; exact = fun_ext same_exact }

-- where there is no cost
module _ (P : Numbers) (uncosted : P.costed ≡ false) (none : (j : ℕ) → P.cost j ≡ pos 0) where
  exact_nothing : exact_left_of (shared_of P) ≡ pos 0
  unfolding exact_left_of
  exact_nothing = no_left P.instruments P.p none

  nothing : left_of (shared_of P) ≡ pos 0
  unfolding left_of floor
  nothing = rw exact_nothing

  pub plain_horizon : PlainHorizon P
  unfolding exact_fund exact_at with_left fund_of fund_at bound_of bound_at coefficient_at
  plain_horizon = record {
    cost = cost_passes P none;
    none = none;
    nothing = nothing;
    exact = λ t. rw exact_nothing (ring 2 (λ H u. H ⊕ ! (pos 0) ⊗ u ≈ H) refl (H P.r (P.i t) P.years (exact_flow_of (shared_of P))) (pos (10 ^ (12 * P.years - 6))));
    fund = λ t. rw nothing (+ℤ_idr (fund P.r (P.i t) P.years (flow_of (shared_of P))));
    bound = λ t. rw uncosted (omega arith);
    coefficient = λ t j. rw (none j) (+ℤ_idr (fund P.r (P.i t) P.years (λ k. P.a k j)));
  }

pub plain_held : (H : Held) → PlainHeld H → ((k : ℕ) → H.opening k ≡ pos 0) → ((j : ℕ) → H.cost j ≡ pos 0) → Plain H
plain_held H e no-opening no-cost = record {
  refusal = same_refusal (meaning H) (opening_passes (meaning H) no-opening) (cost_passes (meaning H) no-cost) (untils_none H e.sloped);
  rates = λ t l h. rate_at H.shape.years (H.pattern t) l h ∙ rw (e.sloped t);
}

pub flow_plan : (plan : Plan) → is_some plan.opening ≡ false → PlainFlow (numbers plan)
flow_plan plan e = plain_flow (numbers plan) (opening_none plan e)

pub horizon_plan : (plan : Plan) → is_some plan.cost ≡ false → PlainHorizon (numbers plan)
horizon_plan plan e = plain_horizon (numbers plan) e (cost_none plan e)

pub plain_plan : (plan : Plan) → PlainHeld (held plan) → Plain (held plan)
plain_plan plan e = plain_held (held plan) e (opening_none plan e.opened) (cost_none plan e.costed)
