-- What the code prepares of a plan for the core: arrays that hold the plan's numbers P, with zeros past N, n and q; and what such
-- arrays say by the papers' index.
use Rattle.std.specs.Prelude.{◌≡◌, List, [], ℕ, ◌+◌, ◌-◌, ◌≤◌, ◌<◌, get_or, replicate, ℤ, pos, ◌-ℤ◌, is_some, Option}
use Rattle.whole.specs.Range.{million, limit, Within}
use Rattle.whole.specs.Floor.{floor}
use Rattle.whole.specs.Sum.{sum_ℕ}
use Rattle.whole.specs.Table.{table}
use Rattle.whole.specs.Test.{pick}
use Rattle.whole.specs.Entry.{entry}
use Rattle.reckoning.specs.Reckoning.{left}
use Rattle.reckoning.specs.Arrays.{shares_of, amounts_of}
use Rattle.plan.specs.Held.{amounts_in}
use Rattle.plan.specs.Numbers.{Numbers, numbers}
use Rattle.plan.specs.declared.Plan.{Plan}
use Rattle.patterns.specs.declared.common.Common.{Common}
use Rattle.patterns.specs.Prepared.{Parts}
use Rattle.patterns.specs.Pattern.{Shared, shared_of, flow_of, left_of}

-- ---- the arrays of a plan
module _ (P : Numbers) where
  -- r_1 to r_q
  unfoldable pub rollover_array : List ℤ
  rollover_array = table 30 P.terms (λ d. pos (P.r (1 + d))) (pos 0)

  -- i_2 to i_N of pattern t
  unfoldable pub rates_array : (t : ℕ) → List ℤ
  rates_array t = table 30 (P.years - 1) (λ l. P.i t (2 + l)) (pos 0)

  -- the flow of Q in years 1 to N
  unfoldable pub constant_array : List ℤ
  constant_array = table 30 P.years (λ k. (shared_of P).constant_flow (1 + k)) (pos 0)

  -- the payments of instrument 1 + j in years 1 to N, and those of every instrument
  unfoldable pub payments_row : (j : ℕ) → List ℤ
  payments_row j = table 30 P.years (λ k. P.a (1 + k) (1 + j)) (pos 0)

  unfoldable pub payments_rows : List (List ℤ)
  payments_rows = table 16 P.instruments payments_row (replicate 30 (pos 0))

-- what all patterns of a plan share, of the code's record of it
pub record IsOf (plan : Plan) (c : Common) : Type 0 where
  pub years : c.rollover.horizon.years ≡ plan.years
  pub terms : c.rollover.terms ≡ plan.terms
  pub rollover : c.rollover.shares ≡ rollover_array (numbers plan)
  pub instruments : c.instruments ≡ plan.instruments
  pub payments : c.payments ≡ payments_rows (numbers plan)
  pub constant : c.constant.amounts ≡ constant_array (numbers plan)
  pub cost : c.cost ≡ plan.cost

-- ---- what arrays say
-- the parts of n instruments
abbrev pub parts_of : (n : ℕ) (shares : List ℕ) → ℕ → ℕ
parts_of n shares = entry 0 n (λ j. get_or shares j 0)

-- what is shared, of a `Common` c and the shares of an allocation
abbrev pub shared_in : (c : Common) (shares : List ℕ) → Shared
shared_in c shares = record {
  years = c.rollover.horizon.years;
  instruments = c.instruments;
  a = λ k. entry (pos 0) c.instruments (λ j. amounts_of (get_or c.payments j []) k);
  constant_flow = amounts_of c.constant.amounts;
  r = shares_of c.rollover.shares;
  p = parts_of c.instruments shares;
  cost = entry (pos 0) (pick (is_some c.cost) c.instruments 0) (λ j. get_or (amounts_in c.cost) j (pos 0));
  costed = is_some c.cost;
}

-- what is left at the horizon, of n instruments and the cost of each, where it is held
abbrev pub left_with : (cost : Option (List ℤ)) (n : ℕ) (shares : List ℕ) → ℤ
left_with cost n shares = floor (left n (entry (pos 0) (pick (is_some cost) n 0) (λ j. get_or (amounts_in cost) j (pos 0))) (parts_of n shares)) million

-- what is left of the allocation
abbrev pub left_in : (c : Common) (shares : List ℕ) → ℤ
left_in c shares = left_of (shared_in c shares)

-- the allocation's flow in years 1 to N
unfoldable pub flow_array : Shared → List ℤ
flow_array S = table 30 S.years (λ k. flow_of S (1 + k)) (pos 0)

-- an allocation of these shares: parts of at most 1,000,000 together, a flow within the limit in every year, and none past year N
pub record Allocated (c : Common) (shares : List ℕ) : Type 0 where
  pub parts : Parts c.instruments shares
  pub flow : (k : ℕ) → Within limit (flow_of (shared_in c shares) k)
  pub flow_held : amounts_of (flow_array (shared_in c shares)) ≡ flow_of (shared_in c shares)

-- what is shared of a plan, with other parts than those of its allocation
abbrev pub shared_with : Numbers → (p : ℕ → ℕ) → Shared
shared_with P p = record {
  years = P.years;
  instruments = P.instruments;
  a = P.a;
  constant_flow = λ k. P.b k -ℤ P.o k;
  r = P.r;
  p = p;
  cost = P.cost;
  costed = P.costed;
}

-- ---- a weighted sum
-- n amounts within the limit, and parts of at most 1,000,000 together
pub record Weighable (n : ℕ) (x : List ℤ) (p : List ℕ) : Type 0 where
  pub few : n ≤ 16
  pub amount : (j : ℕ) → j < n → Within limit (get_or x j (pos 0))
  pub parts : sum_ℕ n (λ j. get_or p j 0) ≤ million
