-- Document 02, item 7: what is said of a pattern whose rates are all equal. A planner who changes the rollover there asks why the fund barely
-- moves: the exact fund does not know the rollover, and the fund that is answered is near it.
use Rattle.std.specs.Prelude.{◌≡◌, ℕ, ◌≤◌, ℤ, pos, nat_abs, ◌-ℤ◌, ◌<ℤ◌}
use Rattle.reckoning.specs.Answers.{Reckoned}
use Rattle.reckoning.specs.Exact.{with_left}
use Rattle.reckoning.specs.Level.{Level, level_H}
use Rattle.plan.specs.Numbers.{Numbers, numbers}
use Rattle.plan.specs.Refusal.{refusal_of}
use Rattle.plan.specs.declared.Plan.{Plan}
use Rattle.patterns.specs.Pattern.{shared_of, exact_flow_of, exact_left_of}
use Rattle.planner.specs.Answers.{BoundAnswer}
use Rattle.planner.specs.Calls.{exact_fund, fund_answer, bound_answer}
use Rattle.planner.specs.Verdict.{row_of, verdict_answer}

-- ---- the closed form
-- the sum of the net flows times (1 + rate)^(N - k), and the cost that is left at the horizon, counted as H is
unfoldable pub level_fund : (P : Numbers) (rate : ℤ) → ℤ
level_fund P rate = with_left P.years (level_H rate P.years (exact_flow_of (shared_of P))) (exact_left_of (shared_of P))

-- where the rates of pattern t are all equal, this is the exact fund
abbrev pub LevelExact : (P : Numbers) (t : ℕ) → Type 0
LevelExact P t = (rate : ℤ) → Level (P.i t) P.years rate → exact_fund P t ≡ level_fund P rate

-- ---- two rollovers
-- the numbers without the rollover
abbrev pub but_rollover : Numbers → Numbers
but_rollover P = record {
  years = P.years;
  instruments = P.instruments;
  terms = 0;
  patterns = P.patterns;
  a = P.a;
  o = P.o;
  r = λ d. 0;
  i = P.i;
  p = P.p;
  b = P.b;
  T = P.T;
  cost = P.cost;
  costed = P.costed;
}

-- P and Q differ at most in their rollover, in the number of its terms and in its shares, and the rates of pattern t are all equal
pub record LevelPair (P Q : Numbers) (t : ℕ) : Type 0 where
  pub others : but_rollover P ≡ but_rollover Q
  pub rate : ℤ
  pub level : Level (P.i t) P.years rate

-- two such plans, for which the fund's call on pattern t answers s and u, and the bound's call b: if the fund's call accepts both, the two funds are
-- less than B apart
abbrev pub LevelApart : (P Q : Numbers) (t : ℕ) (s u : Reckoned) (b : BoundAnswer) → Type 0
LevelApart P Q t s u b = LevelPair P Q t → s.refusal ≡ 0 → u.refusal ≡ 0 → pos (nat_abs (s.fund -ℤ u.fund)) <ℤ b.bound

-- two such plans, if both are listed: the funds of their rows of pattern t are less than that row's B apart
abbrev pub RowsApart : (P Q : Numbers) (t : ℕ) → Type 0
RowsApart P Q t = LevelPair P Q t → (verdict_answer P).refusal ≡ 0 → (verdict_answer Q).refusal ≡ 0 → 1 ≤ t → t ≤ P.patterns
    → pos (nat_abs ((row_of P t).fund -ℤ (row_of Q t).fund)) <ℤ (row_of P t).bound

-- ---- what the fund's call says of a plan in pattern t, with its answer s: the closed form, unless one of the plan's own checks refuses it and
-- whatever check 11 says of its cells and its fund; and how far the fund of any other rollover can be from its own
pub record LevelTrue (plan : Plan) (t : ℕ) (s : Reckoned) : Type 0 where
  pub exact : refusal_of (numbers plan) ≡ 0 → LevelExact (numbers plan) t
  pub apart : (other : Plan) → LevelApart (numbers plan) (numbers other) t s (fund_answer (numbers other) t) (bound_answer (numbers plan) t)
