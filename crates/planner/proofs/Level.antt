-- Level rates: two plans that differ only in their rollover have one exact fund and one bound, and the fund of each lies below that exact fund
-- by less than that bound.
use mathlib.Core.Path.{◌≡◌, refl, sym, ap, ◌∙◌, subst}
use Prim.Native.Nat.{ℕ, ◌≤◌, ◌<◌}
use lib.IntN.{ℤ, pos, nat_abs, ◌-ℤ◌}
use Rattle.whole.proofs.Bridge.{whole}
use Rattle.reckoning.specs.Exact.{with_left}
use Rattle.reckoning.specs.Level.{Level, LevelEveryYear}
use Rattle.reckoning.specs.Theorem.{FromBelow}
use Rattle.reckoning.specs.Answers.{Reckoned}
use Rattle.reckoning.proofs.Level.{H_level, level_every_year, below_apart}
use Rattle.plan.specs.Numbers.{Numbers, numbers}
use Rattle.plan.specs.Refusal.{Accepted}
use Rattle.plan.specs.declared.Plan.{Plan}
use Rattle.plan.proofs.Checks.{accepted}
use Rattle.patterns.specs.Pattern.{shared_of, exact_flow_of, exact_left_of, exact_at, bound_at}
use Rattle.planner.specs.Calls.{exact_fund, bound_of, fund_answer}
use Rattle.planner.specs.Demand3.{FundNear}
use Rattle.planner.specs.Verdict.{row_at, row_of}
use Rattle.planner.specs.Level.{level_fund, LevelExact, but_rollover, LevelPair, RowsApart, LevelTrue}
use Rattle.planner.specs.Answers.{BoundAnswer}
use Rattle.planner.proofs.Answers.{called}
use Rattle.planner.proofs.Demand3.{given, fund_called, fund_near, verdict_accepted, row_near}

-- the closed form of an accepted plan
level_exact : (plan : Plan) (t : ℕ) → Accepted (numbers plan) → LevelExact (numbers plan) t
unfolding exact_fund exact_at level_fund
level_exact plan t ok c level =
    let P = numbers plan in
    ap (λ z. with_left P.years z (exact_left_of (shared_of P))) (H_level P.r (given plan t ok).shares (P.i t) c P.years level (exact_flow_of (shared_of P)))

-- neither the closed form nor B knows the rollover
fund_without : (P : Numbers) (c : ℤ) → level_fund P c ≡ level_fund (but_rollover P) c
unfolding level_fund exact_flow_of exact_left_of
fund_without P c = refl

bound_without : (P : Numbers) (t : ℕ) → bound_of P t ≡ bound_of (but_rollover P) t
unfolding bound_of bound_at
bound_without P t = refl

module _ (plan other : Plan) (t : ℕ) (pair : LevelPair (numbers plan) (numbers other) t) (ok : Accepted (numbers plan)) (also : Accepted (numbers other)) where
  abbrev P : Numbers
  P = numbers plan

  abbrev Q : Numbers
  Q = numbers other

  level_too : Level (Q.i t) Q.years pair.rate
  level_too = subst (λ (R : Numbers). Level (R.i t) R.years pair.rate) pair.others pair.level

  one_exact : exact_fund Q t ≡ exact_fund P t
  one_exact =
      level_exact other t also pair.rate level_too
      ∙ fund_without Q pair.rate ∙ ap (λ (R : Numbers). level_fund R pair.rate) (sym pair.others) ∙ sym (fund_without P pair.rate)
      ∙ sym (level_exact plan t ok pair.rate pair.level)

  one_bound : bound_of Q t ≡ bound_of P t
  one_bound = bound_without Q t ∙ ap (λ (R : Numbers). bound_of R t) (sym pair.others) ∙ sym (bound_without P t)

  one_horizon : Q.years ≡ P.years
  one_horizon = ap (λ (R : Numbers). R.years) (sym pair.others)

  -- two numbers, each below its exact fund by less than its bound
  pair_apart : {y z : ℤ} → FromBelow P.years (exact_fund P t) y (bound_of P t) → FromBelow Q.years (exact_fund Q t) z (bound_of Q t) → nat_abs (y -ℤ z) < bound_of P t
  pair_apart {y} {z} k l = below_apart k (rw (one_exact, one_bound, one_horizon) at l)

-- the fund's call
pub level_true : (plan : Plan) (t : ℕ) → LevelTrue plan t (fund_answer (numbers plan) t)
level_true plan t = record {
  exact = λ e. level_exact plan t (accepted plan e);
  apart = λ other pair e f.
      let b = ap (λ (s : BoundAnswer). s.bound) ((fund_near plan t).bound e) in
      let ok = (called plan t (fund_called plan t e)).plan_ok in
      let also = (called other t (fund_called other t f)).plan_ok in
      rw b (omega (whole, pair_apart plan other t pair ok also ((fund_near plan t).near e) ((fund_near other t).near f)));
}

-- the rows of a listing
row_bound_is : (P : Numbers) (t : ℕ) → (row_of P t).bound ≡ pos (bound_of P t)
unfolding row_of row_at bound_of
row_bound_is P t = refl

pub rows_apart : (plan other : Plan) (t : ℕ) → RowsApart (numbers plan) (numbers other) t
rows_apart plan other t pair e f some few =
    let fewer : t ≤ other.patterns = subst (λ (R : Numbers). t ≤ R.patterns) pair.others few in
    rw (row_bound_is (numbers plan) t)
    (omega (whole, pair_apart plan other t pair (verdict_accepted plan e) (verdict_accepted other f) (row_near plan e t some few) (row_near other f t some fewer)))

-- an answer, and with it what it means
pub fund_answered : (plan : Plan) (t : ℕ) {s : Reckoned} → s ≡ fund_answer (numbers plan) t → (s ≡ fund_answer (numbers plan) t) × (FundNear (numbers plan) t s × (LevelTrue plan t s × LevelEveryYear))
fund_answered plan t e = (e, (subst (FundNear (numbers plan) t) (sym e) (fund_near plan t), (subst (LevelTrue plan t) (sym e) (level_true plan t), level_every_year)))
