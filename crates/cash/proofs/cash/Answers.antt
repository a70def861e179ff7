-- `cash::cash` answers for the plan and the rates of the lists.
use mathlib.Core.Path.{◌≡◌, sym, ap, ◌∙◌}
use native.Mathlib.Omega.{arith}
use Rattle.std.proofs.lemmas.Result.{err_from_is_err_and}
use Rattle.refusal.specs.Number.{number_of, refusal_in}
use Rattle.reckoning.specs.Arrays.{rates_of}
use Rattle.plan.specs.Numbers.{Numbers, numbers}
use Rattle.plan.specs.Refusal.{Head, head_refusal, refusal_with}
use Rattle.plan.specs.declared.Plan.{Plan}
use Rattle.plan.proofs.Checks.{head_passed}
use Rattle.plan.proofs.Number.{number_own}
use Rattle.patterns.specs.Pattern.{shared_of, flow_of}
use Rattle.cash.specs.Shown.{cash_shown}
use Rattle.cash.specs.Call.{lengths_refusal, lists_refusal}
use Rattle.cash.proofs.Call.{head_refused, lengths_refused, lists_long, lists_said, numbers_refused, numbers_accepted, lending_taken, borrowing_taken, reckoned_same, cash_answered}
use Rattle.cash.proofs.cash.Goals as goal
use Rattle.cash.proofs.cash.Goals.{In_ok-lists, In_ok-accepted, After-check}

pub returns-in_err-headed : goal.returns-in_err-headed
returns-in_err-headed c =
    let p = err_from_is_err_and c.from_residual.result c.from_residual.ensures.1 in
    let a = cash_answered c.args.plan.now c.args.lending.now c.args.borrowing.now {s = cash_shown c.from_residual.result} (rw (p.1, p.2) (head_refused _ _ _ _ c.in_err-headed.ensures.is)) in
    record { is = a.0; near = a.1.0; theorem = a.1.1.0; alike = a.1.1.1.0; uncosted = a.1.1.1.1 }

pub returns-in_err-lists : goal.returns-in_err-lists
returns-in_err-lists c =
    let p = err_from_is_err_and c.from_residual-in_err-lists.result c.from_residual-in_err-lists.ensures.1 in
    let a = cash_answered c.args.plan.now c.args.lending.now c.args.borrowing.now {s = cash_shown c.from_residual-in_err-lists.result} (rw (p.1, p.2) (lengths_refused _ _ _ c.in_ok-headed.ensures.is _ c.in_err-lists.ensures.is)) in
    record { is = a.0; near = a.1.0; theorem = a.1.1.0; alike = a.1.1.1.0; uncosted = a.1.1.1.1 }

-- check 3 and the 5 of the lists refuse nothing
module _ (c : In_ok-lists) where
  abbrev P : Numbers
  P = numbers c.args.plan.now

  head : 0 ≡ head_refusal P
  head = c.in_ok-headed.ensures.is

  long : 0 ≡ lengths_refusal P.years c.args.lending.now c.args.borrowing.now
  long = c.in_ok-lists.ensures.is

  is_head : Head P
  is_head = head_passed P (sym head)

-- and the others
said : (c : After-check) → refusal_in c.check.result ≡ lists_refusal c.args.plan.now.years (rates_of c.args.lending.now) (rates_of c.args.borrowing.now)
said c =
    let l = (goal.at.After-check c).In_ok-lists in
    let same = c.in_ok-lists.ensures.same in
    lists_said _ _ _ (head l) (long l) (rw (same.0, same.1) at c.check.ensures) (is_head l).years_some

pub returns-in_err-accepted : goal.returns-in_err-accepted
returns-in_err-accepted c =
    let k = (goal.at.returns-in_err-accepted c).After-check in
    let l = (goal.at.After-check k).In_ok-lists in
    let p = err_from_is_err_and c.from_residual-in_err-accepted.result c.from_residual-in_err-accepted.ensures.1 in
    let e = rw c.in_ok-headed.ensures.plan at (c.in_err-accepted.ensures.is number_of number_own) in
    let a = cash_answered c.args.plan.now c.args.lending.now c.args.borrowing.now {s = cash_shown c.from_residual-in_err-accepted.result} (rw (p.1, p.2) (numbers_refused _ _ _ (head l) (long l) (said k) _ e)) in
    record { is = a.0; near = a.1.0; theorem = a.1.1.0; alike = a.1.1.1.0; uncosted = a.1.1.1.1 }

module _ (c : In_ok-accepted) where
  abbrev k : After-check
  k = (goal.at.In_ok-accepted c).After-check

  abbrev l : In_ok-lists
  l = (goal.at.After-check k).In_ok-lists

  none : 0 ≡ refusal_with (P l) (refusal_in c.check.result)
  none = rw c.in_ok-headed.ensures.plan at (c.in_ok-accepted.ensures.is number_of number_own)

  same : c.in_ok-accepted.accepted.plan.now ≡ c.args.plan.now
  same = c.in_ok-accepted.ensures.plan ∙ c.in_ok-headed.ensures.plan

pub money_of-requires : goal.money_of-requires
money_of-requires c =
    let a = (goal.at.money_of-requires c).In_ok-accepted in
    record {
      few = omega (arith, (lists_long _ _ _ (head (l a)) (long (l a))).0, (is_head (l a)).years_few);
      taken = lending_taken _ _ _ (head (l a)) (long (l a)) (said (k a)) (none a) (is_head (l a)).years_some;
    }

pub money_of-requires-2 : goal.money_of-requires-2
money_of-requires-2 c =
    let a = (goal.at.money_of-requires-2 c).In_ok-accepted in
    record {
      few = omega (arith, (lists_long _ _ _ (head (l a)) (long (l a))).1, (is_head (l a)).years_few);
      taken = borrowing_taken _ _ _ (head (l a)) (long (l a)) (said (k a)) (none a) (is_head (l a)).years_some;
    }

pub returns : goal.returns
returns c =
    let a = (goal.at.returns c).In_ok-accepted in
    let e = c.reckon.ensures ∙ reckoned_same c.money_of.ensures c.money_of-2.ensures (c.allocation_flow.ensures.held ∙ ap (λ (p : Plan). flow_of (shared_of (numbers p))) (same a)) (c.horizon_of.ensures ∙ ap (λ (p : Plan). p.years) (same a)) in
    let a = cash_answered c.args.plan.now c.args.lending.now c.args.borrowing.now {s = cash_shown c.reckon.result} (e ∙ numbers_accepted _ _ _ (head (l a)) (long (l a)) (said (k a)) (none a)) in
    record { is = a.0; near = a.1.0; theorem = a.1.1.0; alike = a.1.1.1.0; uncosted = a.1.1.1.1 }
