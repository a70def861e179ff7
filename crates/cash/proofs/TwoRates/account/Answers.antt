-- `cash::TwoRates::account` takes the account from one year to the next, until it is outside the limit (Years, `Running`).
use mathlib.Core.Path.{◌≡◌, refl, ◌∙◌}
use mathlib.Core.List.{List}
use Prim.Native.Nat.{ℕ, ◌+◌, ◌-◌, ◌≤◌, ◌<◌}
use native.Mathlib.Omega.{arith}
use lib.IntN.{ℤ, pos, ◌+ℤ◌}
use lib.ListN.{length, get_or}
use mir.Syntax.{w64}
use mir.Val.{SFits, to_z}
use Rattle.std.proofs.Common.{rules}
use Rattle.std.proofs.iter.Yields.{fronts}
use Rattle.std.proofs.lemmas.Iterator.{YieldsList, zips, YieldsList-from_slice, YieldsList-from_zip}
use Rattle.std.proofs.lemmas.Iterator.Consumers.{YieldsList-turn, YieldsList-end}
use Rattle.whole.specs.Range.{million, limit, Within}
use Rattle.std.specs.Prelude.{Err}
use Rattle.std.proofs.lemmas.List.{length-append}
use Rattle.refusal.specs.declared.Refusal.TheVariants.{OutOfLimit}
use Rattle.whole.proofs.Answer.{answered_ok, answered_err, passed_on}
use Rattle.whole.proofs.Range.{within_fits, back, ok64}
use Rattle.whole.specs.Floor.{share_of}
use Rattle.cash.specs.Account.{rate_for, next}
use Rattle.cash.proofs.Years.{rate_within, interest_within, next_within, years_of, years_long, year_at, run_start, run_within, run_turn, run_refuse, run_end}
use Rattle.cash.proofs.TwoRates.account.Goals as goal
use Rattle.cash.proofs.TwoRates.account.Goals.{At-loop-amount, In-Some, After-rate_for-rate, After-share}

pub loop-amount-init : goal.loop-amount-init
loop-amount-init c =
    let f : SFits w64 (get_or c.args.flow.now.amounts 0 (pos 0)) = within_fits (omega arith) (c.args.flow.now.within.amount 0 (omega arith)) in
    simp (back, f) (run_start _ _ _ _ c.args.flow.now.within c.args.self.now.horizon.held)

pub share-requires-clause-within : goal.share-requires-clause-within
share-requires-clause-within c = run_within _ _ _ _ c.loop-amount.invariant

-- the years that the loop goes over
module _ (c : At-loop-amount) where
  abbrev f : List ℤ
  f = c.args.flow.now.amounts

  abbrev l : List ℤ
  l = c.args.self.now.lending.rates

  abbrev b : List ℤ
  b = c.args.self.now.borrowing.rates

  abbrev n : ℕ
  n = c.args.self.now.horizon.years

  abbrev k : ℕ
  k = length c.loop-amount.yielded

  road : YieldsList (zips (zips fronts fronts) fronts) (λ p. ((p.0.0.now, p.0.1.now), p.1.now)) c.into_iter-amount-iterator.result (years_of f l b n)
  road = YieldsList-from_zip (YieldsList-from_zip (YieldsList-from_slice _ cc) (YieldsList-from_slice l cc)) (YieldsList-from_slice b cc)

  long : (length f ≡ 30) × (length l ≡ 30) × (length b ≡ 30)
  long = (search rules, search rules, search rules)

  n_few : n ≤ 30
  n_few = c.args.self.now.horizon.held.few

  all_long : length (years_of f l b n) ≡ n - 1
  all_long = years_long f l b n (omega (arith, n_few, long.0)) (omega (arith, n_few, long.1)) (omega (arith, n_few, long.2))

-- a turn
module _ (c : In-Some) where
  abbrev a : At-loop-amount
  a = (goal.at.In-Some c).At-loop-amount

  abbrev y : (ℤ × ℤ) × ℤ
  y = ((c.in-Some.amount.now, c.in-Some.lending.now), c.in-Some.borrowing.now)

  place : (k a < length (years_of (f a) (l a) (b a) (n a))) × (y ≡ get_or (years_of (f a) (l a) (b a) (n a)) (k a) y)
  place = YieldsList-turn (road a) c.loop-amount.yielded c.loop-amount.amount-iterator c.loop-amount.yielded_by _ c.next.new.self _ c.in-Some.is c.next.ensures.steps

  few : k a < n a - 1
  few = omega (arith, place.0, all_long a)

  year : (c.in-Some.amount.now ≡ get_or (f a) (k a + 1) (pos 0)) × (c.in-Some.lending.now ≡ get_or (l a) (k a) (pos 0)) × (c.in-Some.borrowing.now ≡ get_or (b a) (k a) (pos 0))
  year =
      let h = n_few a in
      let long = long a in
      year_at (f a) (l a) (b a) (n a) (omega (arith, long.0)) (omega (arith, long.1)) (omega (arith, long.2)) (k a) y few place.1

  amount_within : Within limit c.in-Some.amount.now
  amount_within = rw year.0 (c.args.flow.now.within.amount (k a + 1) (omega (arith, few, n_few a)))

  lending_within : Within million c.in-Some.lending.now
  lending_within = rw year.1 (c.args.self.now.lending.within.rate (k a) (omega (arith, few, n_few a)))

  borrowing_within : Within million c.in-Some.borrowing.now
  borrowing_within = rw year.2 (c.args.self.now.borrowing.within.rate (k a) (omega (arith, few, n_few a)))

  abbrev v : ℤ
  v = to_z w64 c.loop-amount.v-bits

  v_within : Within limit v
  v_within = run_within _ _ _ _ c.loop-amount.invariant

  abbrev rate : ℤ
  rate = rate_for c.in-Some.lending.now c.in-Some.borrowing.now v

  abbrev sum : ℤ
  sum = next c.in-Some.lending.now c.in-Some.borrowing.now v c.in-Some.amount.now

  rate_is_within : Within million rate
  rate_is_within = rate_within _ _ _ c.in-Some.amount.now lending_within borrowing_within v_within amount_within

  interest_fits : SFits w64 (v +ℤ share_of v rate)
  interest_fits = within_fits (omega arith) (interest_within _ _ _ c.in-Some.amount.now lending_within borrowing_within v_within amount_within)

  sum_fits : SFits w64 sum
  sum_fits = within_fits (omega arith) (next_within _ _ _ _ lending_within borrowing_within v_within amount_within)

  amount_fits : SFits w64 c.in-Some.amount.now
  amount_fits = within_fits (omega arith) amount_within

  -- what a turn makes of the account
  sum_is : sum ≡ next (get_or (l a) (k a + 1 - 1) (pos 0)) (get_or (b a) (k a + 1 - 1) (pos 0)) v (get_or (f a) (k a + 1) (pos 0))
  sum_is = let e : k a + 1 - 1 ≡ k a = omega arith in rw (e, ← year.0, ← year.1, ← year.2) refl

  before_end : k a + 1 < n a
  before_end = omega (arith, few)

rate_is : (c : After-rate_for-rate) → c.rate_for-rate.result ≡ rate (goal.at.After-rate_for-rate c).In-Some
rate_is c =
    let i = (goal.at.After-rate_for-rate c).In-Some in
    simp (back, within_fits (omega arith) (lending_within i), within_fits (omega arith) (borrowing_within i)) at c.rate_for-rate.ensures

pub share-requires-clause-within_2 : goal.share-requires-clause-within_2
share-requires-clause-within_2 c =
    let i = (goal.at.After-rate_for-rate c).In-Some in
    simp (back, ok64 c.rate_for-rate.result c.rate_for-rate.type_inv) (rw (rate_is c) (rate_is_within i))

share_is : (c : After-share) → c.share.result ≡ share_of (v (goal.at.After-share c).In-Some) (rate (goal.at.After-share c).In-Some)
share_is c =
    let p = (goal.at.After-share c).After-rate_for-rate in
    rw (rate_is p) at (simp (back, ok64 c.rate_for-rate.result c.rate_for-rate.type_inv) at c.share.ensures)

module _ (c : After-share) where
  abbrev in_turn : In-Some
  in_turn = (goal.at.After-share c).In-Some

  share_fits : SFits w64 c.share.result
  share_fits = ok64 c.share.result c.share.type_inv

  first_fits : SFits w64 (v in_turn +ℤ c.share.result)
  first_fits = rw (share_is c) (interest_fits in_turn)

  total_is : v in_turn +ℤ c.share.result +ℤ c.in-Some.amount.now ≡ sum in_turn
  unfolding next
  total_is = rw (share_is c) refl

  total_fits : SFits w64 (v in_turn +ℤ c.share.result +ℤ c.in-Some.amount.now)
  total_fits = rw total_is (sum_fits in_turn)

pub overflow_add-v : goal.overflow_add-v
overflow_add-v c = simp (back, share_fits c) (first_fits c)

pub overflow_add-v-in-loop-amount : goal.overflow_add-v-in-loop-amount
overflow_add-v-in-loop-amount c =
    let s = (goal.at.overflow_add-v-in-loop-amount c).After-share in
    simp (back, share_fits s, first_fits s, amount_fits (in_turn s)) (total_fits s)

pub returns-in_err-v : goal.returns-in_err-v
returns-in_err-v c =
    let s = (goal.at.returns-in_err-v c).After-share in
    let t = in_turn s in
    let e = answered_err _ _ _ _ (simp (back, share_fits s, first_fits s, amount_fits t, total_fits s) at c.in_err-v.ensures) in
    let r : c.from_residual.result ≡ Err OutOfLimit = rw e.1 at (passed_on c.from_residual.result c.from_residual.ensures.1) in
    rw r (run_refuse _ _ _ _ c.loop-amount.invariant (before_end t) (total_is s ∙ sum_is t) e.0)

pub loop-amount-preserved : goal.loop-amount-preserved
loop-amount-preserved c =
    let s = (goal.at.loop-amount-preserved c).After-share in
    let t = in_turn s in
    let e = answered_ok _ _ _ _ (simp (back, share_fits s, first_fits s, amount_fits t, total_fits s) at c.in_ok-v.ensures) in
    let turned = run_turn _ _ _ _ c.loop-amount.invariant (before_end t) (total_is s ∙ sum_is t) e.0 in
    rw (e.1, length-append) (simp (back, total_fits s) turned)

pub returns : goal.returns
returns c =
    let a = (goal.at.returns c).At-loop-amount in
    let end = YieldsList-end (road a) c.loop-amount.yielded c.loop-amount.amount-iterator c.loop-amount.yielded_by _ c.next.new.self c.in-None.is c.next.ensures.steps in
    run_end _ _ _ _ c.loop-amount.invariant (omega (arith, end.1, all_long a))
