-- Document 01 knows no money already invested, no cost at the horizon, and no slopes. Without the first the flows are that document's, without
-- the second the funds, K, B and H are; without all three so are the refusal and the rates, and every answer is made of these.
use Rattle.std.specs.Prelude.{true, ◌≡◌, ℕ, ◌+◌, ◌-◌, ◌<◌, pos, neg_ℤ, ◌-ℤ◌, ◌*ℤ◌}
use Rattle.whole.specs.Range.{million}
use Rattle.whole.specs.Floor.{floor}
use Rattle.whole.specs.Test.{both}
use Rattle.reckoning.specs.Reckoning.{paid, fund as fundFrom}
use Rattle.reckoning.specs.Exact.{H}
use Rattle.reckoning.specs.Bound.{h, B}
use Rattle.plan.specs.Held.{Held}
use Rattle.plan.specs.Numbers.{Numbers, meaning}
use Rattle.plan.specs.Refusal.{check, head_ok, payments_ok, outflows_ok, opening_ok, cost_ok, rollover_ok, rates_ok, allocation_ok, refusal_of}
use Rattle.patterns.specs.Pattern.{shared_of, flow_of, exact_flow_of, left_of, coefficient_at}
use Rattle.planner.specs.Calls.{exact_fund, bound_of}
use Rattle.planner.specs.Verdict.{fund_of}

module _ (P : Numbers) where
  -- "Checking order": 6 is on payments and outflows, and there is no 13
  unfoldable pub refusal_plain : ℕ
  refusal_plain =
      check (head_ok P) 3
      (check (both (payments_ok P) (outflows_ok P)) 6
      (check (rollover_ok P) 7
      (check (rates_ok P) 8
      (check (allocation_ok P) 9
      0))))

  -- without money already invested: check 6 finds nothing in it, the flow of Q is -o, the allocation's flow is what it pays, in whole
  -- amounts, less o_k, and the exact one, in millionths, cuts nothing
  pub record PlainFlow : Type 0 where
    pub opening : opening_ok P ≡ true
    pub constant : (shared_of P).constant_flow ≡ (λ k. neg_ℤ (P.o k))
    pub flow : flow_of (shared_of P) ≡ (λ k. floor (paid P.instruments P.a P.p k) million -ℤ P.o k)
    pub exact : exact_flow_of (shared_of P) ≡ (λ k. paid P.instruments P.a P.p k -ℤ pos million *ℤ P.o k)

  -- without a cost at the horizon: check 6 finds nothing in it, nothing is left of an instrument or of the allocation, so that check 11 looks
  -- at what is reckoned alone, and H, the fund, B and K_j are those of the flows
  pub record PlainHorizon : Type 0 where
    pub cost : cost_ok P ≡ true
    pub none : (j : ℕ) → P.cost j ≡ pos 0
    pub nothing : left_of (shared_of P) ≡ pos 0
    pub exact : (t : ℕ) → exact_fund P t ≡ H P.r (P.i t) P.years (exact_flow_of (shared_of P))
    pub fund : (t : ℕ) → fund_of P t ≡ fundFrom P.r (P.i t) P.years (flow_of (shared_of P))
    pub bound : (t : ℕ) → bound_of P t ≡ B (h (P.i t) P.years) P.years
    pub coefficient : (t j : ℕ) → coefficient_at (shared_of P) (P.i t) j ≡ fundFrom P.r (P.i t) P.years (λ k. P.a k j)

-- without slopes as well: the refusal is document 01's, and the rate of year 2 + l is the one that is listed
pub record Plain (H : Held) : Type 0 where
  pub refusal : refusal_of (meaning H) ≡ refusal_plain (meaning H)
  pub rates : (t l : ℕ) → l < H.shape.years - 1 → (meaning H).i t (2 + l) ≡ (H.pattern t).rate (1 + l)
