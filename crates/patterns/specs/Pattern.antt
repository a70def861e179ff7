-- What a plan comes to in one pattern, of the rates i: the exact fund, the fund, its bound, K_1 to K_n and Q, and the form.
use Rattle.std.specs.Prelude.{Bool, List, ℕ, ◌+◌, replicate, ℤ, pos, ◌+ℤ◌, ◌-ℤ◌}
use Rattle.whole.specs.Range.{million}
use Rattle.whole.specs.Floor.{floor}
use Rattle.whole.specs.Test.{pick, both, all}
use Rattle.whole.specs.Table.{table}
use Rattle.reckoning.specs.Reckoning.{left, flow, fund}
use Rattle.reckoning.specs.Exact.{x, H, with_left}
use Rattle.reckoning.specs.Bound.{h, B, value}
use Rattle.reckoning.specs.Arrays.{fund_fits, fund_reckoned}
use Rattle.reckoning.specs.Answers.{Reckoned}
use Rattle.plan.specs.Held.{flag}
use Rattle.plan.specs.Numbers.{Numbers}
use Rattle.patterns.specs.Answers.{Coefficients, FormAnswer}

-- what a refused form holds: its number, and zeros
abbrev pub no_form : ℕ → FormAnswer
no_form number = record { refusal = number; coefficients = replicate 16 (pos 0); constant = pos 0; value = pos 0 }

-- ---- what every pattern of a plan is reckoned from: N, n, the payments a, the flow of Q, the rollover r, the allocation p, the cost that is
-- left of each instrument at the horizon, and whether it is held
pub record Shared : Type 0 where
  pub years : ℕ
  pub instruments : ℕ
  pub a : (k j : ℕ) → ℤ
  pub constant_flow : (k : ℕ) → ℤ
  pub r : (d : ℕ) → ℕ
  pub p : (j : ℕ) → ℕ
  pub cost : (j : ℕ) → ℤ
  pub costed : Bool

-- of a plan. Document 004, equation 2': in year k the allocation's flow is what it pays, in whole amounts, and b_k - o_k; x_k is what it
-- pays, in millionths, and 1,000,000 times b_k - o_k. No allocation changes b - o, so it is the flow of Q.
abbrev pub shared_of : Numbers → Shared
shared_of P = record {
  years = P.years;
  instruments = P.instruments;
  a = P.a;
  constant_flow = λ k. P.b k -ℤ P.o k;
  r = P.r;
  p = P.p;
  cost = P.cost;
  costed = P.costed;
}

module _ (S : Shared) where
  -- the allocation's flow, and Tilley's exact one
  unfoldable pub flow_of : (k : ℕ) → ℤ
  flow_of = flow S.instruments S.a S.constant_flow S.p

  unfoldable pub exact_flow_of : (k : ℕ) → ℤ
  exact_flow_of = x S.instruments S.a S.constant_flow S.p

  -- what is left at the horizon (document 02, item 6): in millionths of an amount, and in whole amounts
  unfoldable pub exact_left_of : ℤ
  exact_left_of = left S.instruments S.cost S.p

  unfoldable pub left_of : ℤ
  left_of = floor exact_left_of million

  -- ---- a pattern of the rates i
  module _ (i : ℕ → ℤ) where
    -- H, with what is left inside: the exact fund is this / 10^(12 N)
    unfoldable pub exact_at : ℤ
    exact_at = with_left S.years (H S.r i S.years exact_flow_of) exact_left_of

    -- the fund of the allocation's flow, and what is left; B, which is one more where the cost is held, whatever it is
    unfoldable pub fund_at : ℤ
    fund_at = fund S.r i S.years flow_of +ℤ left_of

    unfoldable pub bound_at : ℕ
    bound_at = B (h i S.years) S.years + flag S.costed

    -- K_j, to which its cost belongs, Q, to which none does, and the form's value at the allocation
    unfoldable pub coefficient_at : (j : ℕ) → ℤ
    coefficient_at j = fund S.r i S.years (λ k. S.a k j) +ℤ S.cost j

    unfoldable pub constant_at : ℤ
    constant_at = fund S.r i S.years S.constant_flow

    unfoldable pub value_at : ℤ
    value_at = value S.instruments coefficient_at constant_at S.p

    -- check 11 for the allocation's flow, for every instrument, and for the flow of Q: each fund with what is left, and its cells
    unfoldable pub flow_fits : Bool
    flow_fits = fund_fits S.r i flow_of S.years left_of

    unfoldable pub coefficients_fit : Bool
    coefficients_fit = all S.instruments (λ j. fund_fits S.r i (λ k. S.a k (1 + j)) S.years (S.cost (1 + j)))

    unfoldable pub constant_fits : Bool
    constant_fits = fund_fits S.r i S.constant_flow S.years (pos 0)

    -- K_1 to K_n, and zeros
    unfoldable pub coefficients_at : List ℤ
    coefficients_at = table 16 S.instruments (λ j. coefficient_at (1 + j)) (pos 0)

    -- the fund reckons the allocation's flow
    abbrev pub flow_reckoned : Reckoned
    flow_reckoned = fund_reckoned S.r i flow_of S.years left_of

    -- K_1 to K_n, unless check 11 refuses an instrument
    unfoldable pub coefficients_reckoned : Coefficients
    coefficients_reckoned = pick coefficients_fit
        (record { refusal = 0; values = coefficients_at })
        (record { refusal = 11; values = replicate 16 (pos 0) })

    -- the form reckons every instrument and the flow of Q
    unfoldable pub form_reckoned : FormAnswer
    form_reckoned = pick (both coefficients_fit constant_fits)
        (record { refusal = 0; coefficients = coefficients_at; constant = constant_at; value = value_at })
        (no_form 11)
