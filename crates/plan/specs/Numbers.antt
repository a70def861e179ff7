-- What is held means: numbers by document 01's letters and indices, each 0 outside N, n, q and m (but T, which is 1 where there is no
-- slope). Every refusal, answer and theorem is over these numbers, and none over a plan or a file.
use Rattle.std.specs.Prelude.{Bool, List, ℕ, ◌+◌, ◌-◌, min, ℤ, pos, ◌+ℤ◌, ◌-ℤ◌, ◌*ℤ◌}
use Rattle.whole.specs.Test.{pick}
use Rattle.whole.specs.Entry.{entry}
use Rattle.whole.specs.Table.{table}
use Rattle.plan.specs.declared.Plan.{Plan}
use Rattle.plan.specs.Held.{HeldInstrument, HeldPattern, Held, held}

-- N, n, q, m; the payment a_kj of instrument j in year k, the outflow o_k, the rollover share r_d, the rate i_l of pattern t,
-- the share p_j of the allocation, and what money already invested pays in year k, b_k (document 02, item 1; a_k0 in document
-- 004, equation 2'); T of pattern t, which check 13 looks at: 1 where the pattern is no slope; the cost of instrument j that is left at the
-- horizon, and whether it is held, since the bound counts the record and not its numbers (document 02, item 6)
pub record Numbers : Type 0 where
  pub years : ℕ
  pub instruments : ℕ
  pub terms : ℕ
  pub patterns : ℕ
  pub a : (k j : ℕ) → ℤ
  pub o : (k : ℕ) → ℤ
  pub r : (d : ℕ) → ℕ
  pub i : (t l : ℕ) → ℤ
  pub p : (j : ℕ) → ℕ
  pub b : (k : ℕ) → ℤ
  pub T : (t : ℕ) → ℕ
  pub cost : (j : ℕ) → ℤ
  pub costed : Bool

-- what an instrument pays in year k
abbrev pub payment_of : HeldInstrument → (k : ℕ) → ℤ
payment_of a = a.payment

-- what a slope means in year k: i_k = i_0 + (min(k, T) - 1) × d (document 02, item 2; document 004, figure 4)
unfoldable pub slope : (i₀ d : ℤ) (T k : ℕ) → ℤ
slope i₀ d T k = i₀ +ℤ (pos (min k T) -ℤ pos 1) *ℤ d

-- the rate of a pattern in year 2 + l: listed, or of its slope
abbrev pub rate_in : HeldPattern → (l : ℕ) → ℤ
rate_in i l = pick i.sloped (slope i.start i.step i.until (2 + l)) (i.rate (1 + l))

-- and in year k of N, whose first rate is that of year 2
abbrev pub rate_of : (N : ℕ) → HeldPattern → (k : ℕ) → ℤ
rate_of N i k = entry (pos 0) (N - 1) (rate_in i) (k - 1)

-- T, where the pattern is a slope
abbrev pub until_of : HeldPattern → ℕ
until_of i = pick i.sloped i.until 1

-- the meaning of what is held
abbrev pub meaning : Held → Numbers
meaning H = record {
  years = H.shape.years;
  instruments = H.shape.instruments;
  terms = H.shape.terms;
  patterns = H.shape.patterns;
  a = λ k j. payment_of (H.instrument j) k;
  o = H.outflow;
  r = H.rollover;
  i = λ t. rate_of H.shape.years (H.pattern t);
  p = H.allocation;
  b = H.opening;
  T = λ t. until_of (H.pattern t);
  cost = H.cost;
  costed = H.shape.costed;
}

-- of a plan
abbrev pub numbers : Plan → Numbers
numbers plan = meaning (held plan)

-- in an array: what an instrument pays in years 1 to N, and the rates of a pattern in years 2 to N, with zeros past them
abbrev pub payments_meant : (N : ℕ) → HeldInstrument → List ℤ
payments_meant N a = table 30 N (λ k. payment_of a (1 + k)) (pos 0)

abbrev pub rates_meant : (N : ℕ) → HeldPattern → List ℤ
rates_meant N i = table 30 (N - 1) (rate_in i) (pos 0)
