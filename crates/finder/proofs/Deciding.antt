-- What the search looks at: shares of 1,000,000 together are decided as the verdict decides the plan with them.
use mathlib.Core.Path.{◌≡◌, sym, ap, ap₂, ◌∙◌, subst}
use mathlib.Core.List.{List, []}
use Prim.Native.Nat.{ℕ, ◌+◌, ◌≤◌, ◌<◌}
use native.Mathlib.Omega.{arith}
use lib.ListN.{get_or, replicate, get_or-replicate}
use lib.IntN.{ℤ, pos, ◌+ℤ◌, ◌*ℤ◌}
use lib.Signed.{le_z}
use Rattle.whole.specs.Range.{million}
use Rattle.whole.specs.Sum.{sum_ℕ}
use Rattle.whole.specs.Test.{both, all}
use Rattle.whole.proofs.Range.{within_pos}
use Rattle.whole.proofs.Sum.{sum_cong}
use Rattle.whole.proofs.Test.{all_cong}
use Rattle.reckoning.specs.declared.NewMoney.{NewMoney}
use Rattle.plan.specs.Held.{instruments_held, outflows_held, rollover_held, patterns_held, allocation_held, opening_held, cost_held}
use Rattle.plan.specs.Numbers.{numbers}
use Rattle.plan.specs.Refusal.{Accepted}
use Rattle.plan.specs.declared.Plan.{Plan}
use Rattle.patterns.specs.Pattern.{Shared, shared_of, fund_at, bound_at, coefficient_at, constant_at, coefficients_fit, constant_fits, coefficients_at}
use Rattle.patterns.specs.Arrays.{parts_of, shared_in, shared_with}
use Rattle.patterns.specs.declared.common.Common.{Common}
use Rattle.planner.specs.Verdict.{row_fits}
use Rattle.finder.specs.Find.{allocated, solvent_with}
use Rattle.finder.specs.Lines.{line_of, fund_passes, height_over, wide_of}
use Rattle.finder.specs.Search.{numbers_in, below_none, looked, passes, RatesOf, LinesOf}
use Rattle.finder.specs.declared.lines.Line.{Line}
use Rattle.finder.proofs.ListLaws.{list_all_is}
use Rattle.finder.proofs.Order.{wide_at, wide_whole}
use Rattle.finder.proofs.Replaced.{replaced, replaced_numbers, accepted_with, all_both, solvent_is}
use Rattle.finder.proofs.AtLine.{looked_at}

-- any rates, to read a place of a list by
no_money : NewMoney
no_money = record { rates = replicate 30 (pos 0); within = record { rate = λ k l. rw (get_or-replicate 30 k (pos 0) (pos 0) l) (within_pos (omega arith)) } }

module _ (plan : Plan) (ok : Accepted (numbers plan)) (few : plan.instruments ≤ 4) (common : Common) (rates : List NewMoney) (lines : List Line)
    (shared : (shares : List ℕ) → shared_in common shares ≡ shared_with (numbers plan) (parts_of plan.instruments shares))
    (rated : RatesOf (numbers plan) rates) (lined : LinesOf common rates lines) where
  abbrev m : ℕ
  m = plan.patterns

  abbrev rate_in : (t l : ℕ) → ℤ
  rate_in = (numbers plan).i

  -- the line of pattern 1 + t stands at place t, and sees no allocation
  line_at : (t : ℕ) (line : Line) → t < m → numbers_in (get_or lines t line) ≡ line_of (shared_of (numbers plan)) (rate_in (1 + t))
  unfolding line_of bound_at coefficient_at constant_at coefficients_fit constant_fits coefficients_at
  line_at t line l =
      lined.each t no_money line (omega (arith, rated.many))
      ∙ ap₂ line_of (shared []) (rated.each t no_money l)

  -- ---- with other shares, four of them
  module _ (shares : List ℕ) (whole : sum_ℕ plan.instruments (λ j. get_or shares j 0) ≡ million) where
    abbrev S : Shared
    S = shared_of (allocated (numbers plan) (wide_of shares))

    replaced_ok : Accepted (numbers (replaced plan (wide_of shares)))
    replaced_ok = subst Accepted (sym (replaced_numbers plan (wide_of shares))) (accepted_with plan ok (wide_of shares) (wide_whole plan.instruments shares few whole))

    -- no line sees the allocation: those of the plan with these shares are the plan's own
    looked_with : (t : ℕ) → both (le_z (pos 0) (height_over (line_of (shared_of (numbers plan)) (rate_in t)) (wide_of shares))) (fund_passes S (rate_in t))
        ≡ both (row_fits S (rate_in t)) (le_z (pos 0) (fund_at S (rate_in t)))
    unfolding line_of bound_at coefficient_at constant_at coefficients_fit constant_fits coefficients_at instruments_held outflows_held rollover_held patterns_held allocation_held opening_held cost_held
    looked_with t = looked_at (replaced plan (wide_of shares)) replaced_ok t few

    height_with : (line : List ℤ) → height_over line shares ≡ height_over line (wide_of shares)
    height_with line = ap (λ (z : ℤ). z +ℤ get_or line 4 (pos 0))
        (sum_cong 4 _ _ (λ j l. ap (λ (p : ℕ). get_or line j (pos 0) *ℤ pos p) (wide_at shares j l)))

    below_is : below_none lines shares ≡ all m (λ t. le_z (pos 0) (height_over (line_of (shared_of (numbers plan)) (rate_in (1 + t))) (wide_of shares)))
    unfolding below_none
    below_is =
        list_all_is _ lines _ (λ t line l. ap (le_z (pos 0)) (height_with (numbers_in (get_or lines t line)) ∙ ap (λ (k : List ℤ). height_over k (wide_of shares)) (line_at t line (omega (arith, rated.many, lined.many)))))
        ∙ ap (λ (n : ℕ). all n (λ t. le_z (pos 0) (height_over (line_of (shared_of (numbers plan)) (rate_in (1 + t))) (wide_of shares)))) (lined.many ∙ rated.many)

    looked_is : looked common rates shares ≡ all m (λ t. fund_passes S (rate_in (1 + t)))
    unfolding looked
    looked_is =
        list_all_is _ rates _ (λ t i l. ap₂ fund_passes (shared (wide_of shares)) (rated.each t i (omega (arith, rated.many))))
        ∙ ap (λ (n : ℕ). all n (λ t. fund_passes S (rate_in (1 + t)))) rated.many

    pub passes_is : passes common rates lines shares ≡ solvent_with (numbers plan) (wide_of shares)
    unfolding passes
    passes_is = ap₂ both below_is looked_is ∙ all_both m _ _ ∙ all_cong m _ _ (λ t l. looked_with (1 + t)) ∙ sym (solvent_is plan ok (wide_of shares) (wide_whole plan.instruments shares few whole))
