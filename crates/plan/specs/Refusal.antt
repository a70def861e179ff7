-- Document 01, "Checking order", for a plan held as values: check 3 (ranges only), then 6 to 9, with document 02's 13 right before 8.
use Rattle.std.specs.Prelude.{Bool, true, false, ℕ, zero, suc, ◌+◌, ◌-◌, ◌≤◌, ◌<◌, ◌≡◌, eqb, pos}
use Rattle.whole.specs.Range.{million, Between, Within}
use Rattle.whole.specs.Sum.{Σℕ}
use Rattle.whole.specs.Test.{both, all, is_from, is_between, is_within}
use Rattle.plan.specs.declared.Shape.{Shape}
use Rattle.plan.specs.Numbers.{Numbers}

-- a check: its number if the test fails, else what comes after it
abbrev pub check : Bool → (number rest : ℕ) → ℕ
check true number rest = rest
check false number rest = number

-- the first refusal: a, or b where a is none
abbrev pub first_of : (a b : ℕ) → ℕ
first_of zero b = b
first_of (suc a) b = suc a

-- an answer that goes whole through the refusal: refused by a number, or else accepted
abbrev pub answer : {A : Type 0} → (refused : ℕ → A) → (number : ℕ) → (accepted : A) → A
answer refused zero accepted = accepted
answer refused (suc n) accepted = refused (suc n)

-- the most that a payment is, or what money already invested pays in a year, or the cost left of an instrument, or an outflow without its sign
abbrev pub most : ℕ
most = 20_000_000_000

-- the most that a rate is
abbrev pub top : ℕ
top = 200_000

-- 3: N is 1 to 30, n 1 to 16, q 1 to 30, m 1 to 64
abbrev pub counts_ok : (N n q m : ℕ) → Bool
counts_ok N n q m = both (is_from 1 30 N) (both (is_from 1 16 n) (both (is_from 1 30 q) (is_from 1 64 m)))

unfoldable pub shape_ok : Shape → Bool
shape_ok h = counts_ok h.years h.instruments h.terms h.patterns

module _ (P : Numbers) where
  unfoldable pub head_ok : Bool
  head_ok = counts_ok P.years P.instruments P.terms P.patterns

  -- 6: the payments of instrument 1 + j, those of all, the outflows, the money already invested (document 02, item 1), the cost that is left
  -- at the horizon (item 6)
  unfoldable pub payments_fit : (j : ℕ) → Bool
  payments_fit j = all P.years (λ k. is_between (pos 0) (pos most) (P.a (1 + k) (1 + j)))

  unfoldable pub payments_ok : Bool
  payments_ok = all P.instruments payments_fit

  unfoldable pub outflows_ok : Bool
  outflows_ok = all P.years (λ k. is_within most (P.o (1 + k)))

  unfoldable pub opening_ok : Bool
  opening_ok = all P.years (λ k. is_between (pos 0) (pos most) (P.b (1 + k)))

  unfoldable pub cost_ok : Bool
  cost_ok = all P.instruments (λ j. is_between (pos 0) (pos most) (P.cost (1 + j)))

  unfoldable pub amounts_ok : Bool
  amounts_ok = both payments_ok (both outflows_ok (both opening_ok cost_ok))

  -- 7
  unfoldable pub rollover_ok : Bool
  rollover_ok = eqb (Σℕ 1 P.terms P.r) million

  -- 13: T of a slope is 1 to 30 (document 02, item 2)
  unfoldable pub untils_ok : Bool
  untils_ok = all P.patterns (λ t. is_from 1 30 (P.T (1 + t)))

  -- 8: the rates i_2 to i_N of pattern 1 + t, those of all
  unfoldable pub rates_fit : (t : ℕ) → Bool
  rates_fit t = all (P.years - 1) (λ l. is_between (pos 0) (pos top) (P.i (1 + t) (2 + l)))

  unfoldable pub rates_ok : Bool
  rates_ok = all P.patterns rates_fit

  -- 9
  unfoldable pub allocation_ok : Bool
  allocation_ok = eqb (Σℕ 1 P.instruments P.p) million

  -- ---- the number of the first check that fails; 0 if none does
  -- the head
  unfoldable pub head_refusal : ℕ
  head_refusal =
      check head_ok 3
      0

  -- the amounts and the rollover
  unfoldable pub amounts_refusal : ℕ
  amounts_refusal =
      check amounts_ok 6
      (check rollover_ok 7
      0)

  -- the patterns
  unfoldable pub rates_refusal : ℕ
  rates_refusal =
      check untils_ok 13
      (check rates_ok 8
      0)

  -- the allocation
  unfoldable pub allocation_refusal : ℕ
  allocation_refusal =
      check allocation_ok 9
      0

  -- the whole plan
  unfoldable pub refusal_of : ℕ
  refusal_of = first_of head_refusal (first_of amounts_refusal (first_of rates_refusal allocation_refusal))

  -- the same for a call with lists of its own, whose refusal comes after that of the patterns (document 02, item 4)
  unfoldable pub refusal_with : (lists : ℕ) → ℕ
  refusal_with lists = first_of head_refusal (first_of amounts_refusal (first_of rates_refusal (first_of lists allocation_refusal)))

-- a head that check 3 takes
pub record Head (P : Numbers) : Type 0 where
  pub years_some : 1 ≤ P.years
  pub years_few : P.years ≤ 30
  pub instruments_some : 1 ≤ P.instruments
  pub instruments_few : P.instruments ≤ 16
  pub terms_some : 1 ≤ P.terms
  pub terms_few : P.terms ≤ 30
  pub patterns_some : 1 ≤ P.patterns
  pub patterns_few : P.patterns ≤ 64

-- what a plan has that is not refused, for every index: what lies outside N, n, q and m is 0, and T is 1 there; a cost that is not held is 0
pub record Accepted (P : Numbers) : Type 0 where
  pub head : Head P
  pub payments : (k j : ℕ) → Between (pos 0) (pos most) (P.a k j)
  pub outflows : (k : ℕ) → Within most (P.o k)
  pub opening : (k : ℕ) → Between (pos 0) (pos most) (P.b k)
  pub cost : (j : ℕ) → Between (pos 0) (pos most) (P.cost j)
  pub uncosted : P.costed ≡ false → (j : ℕ) → P.cost j ≡ pos 0
  pub rollover : Σℕ 1 P.terms P.r ≡ million
  pub rollover_past : (d : ℕ) → P.terms < d → P.r d ≡ 0
  pub until_some : (t : ℕ) → 1 ≤ P.T t
  pub until_few : (t : ℕ) → P.T t ≤ 30
  pub rates : (t l : ℕ) → Between (pos 0) (pos top) (P.i t l)
  pub allocation : Σℕ 1 P.instruments P.p ≡ million
