-- B, and the form that the coefficients and the constant make, at the rates i.
use mathlib.Core.Path.{◌≡◌, refl, sym, ap, ap₂, ◌∙◌}
use mathlib.Core.List.{List}
use Prim.Native.Nat.{ℕ, ◌+◌, ◌*◌, ◌<◌}
use native.Mathlib.Omega.{arith}
use lib.ListN.{length, get_or}
use lib.IntN.{ℤ, pos, ◌+ℤ◌, ◌*ℤ◌, +ℤ_idr}
use mir.Syntax.{w64}
use mir.Val.{SFits}
use Rattle.whole.specs.Range.{million, limit, Within}
use Rattle.whole.specs.Floor.{floor}
use Rattle.whole.proofs.Range.{within_add, within_fits}
use Rattle.whole.proofs.Floor.{floor_within}
use Rattle.whole.proofs.Sum.{Σℤ_from}
use Rattle.whole.proofs.Test.{both_second, both_not, all_at, between_fact}
use Rattle.whole.proofs.Table.{table_at, length_table}
use Rattle.reckoning.specs.Bound.{h, B, value}
use Rattle.reckoning.specs.Arrays.{alphas_fit, fund_fits, fund_reckoned}
use Rattle.reckoning.specs.Answers.{Reckoned}
use Rattle.plan.specs.Held.{flag}
use Rattle.patterns.specs.Pattern.{Shared, no_form, bound_at, coefficient_at, constant_at, value_at, coefficients_fit, constant_fits, coefficients_at, coefficients_reckoned, form_reckoned}
use Rattle.patterns.specs.Prepared.{Parts}
use Rattle.patterns.specs.Arrays.{shared_in, Weighable}
use Rattle.patterns.specs.declared.common.Common.{Common}
use Rattle.patterns.specs.Answers.{Coefficients}
use Rattle.patterns.proofs.Weighing.{weighed_by, part_at}
use Rattle.patterns.proofs.FormLoops.{coefficients_refused, coefficients_number, coefficients_fit_law, coefficients_are}
use Rattle.patterns.proofs.Reckoned.{reckoned_refused, reckoned_fits, reckoned_is, reckoned_number}

-- ---- B, as the code has it of the rates, the years and whether the cost is held
pub bound_is : (S : Shared) (i : ℕ → ℤ) → B (h i S.years) S.years + flag S.costed ≡ bound_at S i
unfolding bound_at
bound_is S i = refl

-- ---- Q
pub constant_is : (S : Shared) (i : ℕ → ℤ) {d : Reckoned} → d ≡ fund_reckoned S.r i S.constant_flow S.years (pos 0) → d.refusal ≡ 0 → d.fund ≡ constant_at S i
unfolding constant_at
constant_is S i e h = reckoned_is S.r i S.constant_flow S.years (pos 0) e h ∙ +ℤ_idr _

-- ---- the ways out
module _ (S : Shared) (i : ℕ → ℤ) {c : Coefficients} (e : c ≡ coefficients_reckoned S i) where
  pub form_unmade : (c.refusal ≡ 0 → ⊥) → no_form c.refusal ≡ form_reckoned S i
  unfolding form_reckoned
  form_unmade h = rw (coefficients_number S i e h, coefficients_refused S i e h)

  module _ {d : Reckoned} (u : d ≡ fund_reckoned S.r i S.constant_flow S.years (pos 0)) where
    pub form_unbalanced : (d.refusal ≡ 0 → ⊥) → no_form d.refusal ≡ form_reckoned S i
    unfolding form_reckoned constant_fits
    form_unbalanced h = rw (reckoned_number S.r i S.constant_flow S.years (pos 0) u h, reckoned_refused S.r i S.constant_flow S.years (pos 0) u h, both_not (coefficients_fit S i))

    pub form_made : c.refusal ≡ 0 → d.refusal ≡ 0 → {z : ℤ} → z ≡ value_at S i → record { refusal = 0; coefficients = c.values; constant = d.fund; value = z } ≡ form_reckoned S i
    unfolding form_reckoned constant_fits
    form_made g h z-is = rw (
      coefficients_fit_law S i e g,
      reckoned_fits S.r i S.constant_flow S.years (pos 0) u h,
      coefficients_are S i e g,
      constant_is S i u h,
      z-is,
    )

-- ---- the value at the allocation
module _ (common : Common) (shares : List ℕ) (i : ℕ → ℤ) {c : Coefficients} (e : c ≡ coefficients_reckoned (shared_in common shares) i) (none : c.refusal ≡ 0) where
  abbrev S : Shared
  S = shared_in common shares

  coefficient_at_law : (j : ℕ) → j < common.instruments → get_or c.values j (pos 0) ≡ coefficient_at S i (1 + j)
  unfolding coefficients_at
  coefficient_at_law j l = rw (coefficients_are S i e none) (table_at 16 common.instruments (λ j. coefficient_at S i (1 + j)) (pos 0) (pos 0) j l common.prepared.few)

  coefficient_within : (j : ℕ) → j < common.instruments → Within limit (coefficient_at S i (1 + j))
  unfolding coefficient_at coefficients_fit fund_fits
  coefficient_within j l = between_fact _ _ _ (both_second (alphas_fit S.r i (λ k. S.a k (1 + j)) S.years) _ (all_at common.instruments _ j l (coefficients_fit_law S i e none)))

  pub coefficients_long : length c.values ≡ 16
  unfolding coefficients_at
  coefficients_long = rw (coefficients_are S i e none) (length_table 16 common.instruments (λ j. coefficient_at S i (1 + j)) (pos 0) common.prepared.few)

  pub weighable : Parts common.instruments shares → Weighable common.instruments c.values shares
  weighable parts = record {
    few = common.prepared.few;
    amount = λ j l. rw (coefficient_at_law j l) (coefficient_within j l);
    parts = parts;
  }

  -- the sum of the coefficients, each times its part, in whole amounts, and Q
  pub value_is : {d z q : ℤ} → d ≡ floor z million → z ≡ weighed_by shares common.instruments c.values → q ≡ constant_at S i → d +ℤ q ≡ value_at S i
  unfolding value_at value
  value_is e f g =
      let terms = Σℤ_from 1 common.instruments common.instruments (λ j. coefficient_at S i j *ℤ pos (S.p j)) _ (omega arith)
      (λ j l. ap₂ (λ (x : ℤ) (p : ℕ). x *ℤ pos p) (sym (coefficient_at_law j l)) (part_at common shares j l)) in
      ap₂ ◌+ℤ◌ (e ∙ ap (λ (z : ℤ). floor z million) (f ∙ sym terms)) g

-- it fits a machine's word
pub value_fits : {d z q : ℤ} → d ≡ floor z million → Within (limit * million) z → Within limit q → SFits w64 (d +ℤ q)
value_fits e f g = rw e (within_fits {b = limit + limit} (omega arith) (within_add (floor_within limit (omega arith) f) g))
