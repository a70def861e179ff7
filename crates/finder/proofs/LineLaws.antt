-- How the code makes a line of K_1 to K_n, Q and the bound, and what a fund says of one pattern.
use mathlib.Core.Path.{◌≡◌, refl, ap, ◌∙◌}
use mathlib.Core.Bool.{Bool, true, false}
use mathlib.Core.List.{List}
use Prim.Native.Nat.{ℕ}
use native.Mathlib.Omega.{arith}
use lib.IntN.{ℤ, pos, ◌+ℤ◌, ◌*ℤ◌, +ℤ_idr}
use lib.Signed.{le_z}
use Rattle.whole.specs.Range.{million}
use Rattle.whole.proofs.Test.{both_not, picked_yes, picked_no, picked_is}
use Rattle.reckoning.specs.Reckoning.{fund}
use Rattle.reckoning.specs.Answers.{Reckoned}
use Rattle.reckoning.specs.declared.NewMoney.{NewMoney}
use Rattle.reckoning.specs.Arrays.{fund_reckoned}
use Rattle.patterns.specs.declared.common.Common.{Common}
use Rattle.patterns.specs.Answers.{Coefficients}
use Rattle.patterns.specs.Pattern.{Shared, bound_at, coefficients_fit, constant_fits, coefficients_at, constant_at, flow_fits, fund_at, flow_reckoned, coefficients_reckoned}
use Rattle.finder.specs.Lines.{line_from, over_all, line_of, fund_passes}
use Rattle.finder.specs.Search.{below_none, looked, passes}
use Rattle.finder.specs.declared.lines.Line.{Line}

module _ (S : Shared) (i : ℕ → ℤ) where
  -- ---- K_1 to K_n
  module _ {a : Coefficients} (e : a ≡ coefficients_reckoned S i) where
    pub coefficients_refused : (a.refusal ≡ 0 → ⊥) → over_all ≡ line_of S i
    unfolding coefficients_reckoned line_of
    coefficients_refused h = rw (picked_no (λ (a : Coefficients). a.refusal) _ _ refl (λ z. omega arith) (coefficients_fit S i) a e h) refl

    module _ (none : a.refusal ≡ 0) where
      pub coefficients_taken : coefficients_fit S i ≡ true
      unfolding coefficients_reckoned
      coefficients_taken = picked_yes (λ (a : Coefficients). a.refusal) _ _ refl (λ z. omega arith) (coefficients_fit S i) a e none

      pub coefficients_are : a.values ≡ coefficients_at S i
      unfolding coefficients_reckoned
      coefficients_are = ap (λ (a : Coefficients). a.values) (picked_is (λ (a : Coefficients). a.refusal) _ _ refl (λ z. omega arith) (coefficients_fit S i) a e none)

  -- ---- Q
  module _ {b : Reckoned} (e : b ≡ fund_reckoned S.r i S.constant_flow S.years (pos 0)) where
    pub constant_refused : (b.refusal ≡ 0 → ⊥) → over_all ≡ line_of S i
    unfolding fund_reckoned constant_fits line_of
    constant_refused h = rw (picked_no (λ (b : Reckoned). b.refusal) _ _ refl (λ z. omega arith) (constant_fits S i) b e h, both_not (coefficients_fit S i)) refl

    module _ (none : b.refusal ≡ 0) where
      pub constant_taken : constant_fits S i ≡ true
      unfolding fund_reckoned constant_fits
      constant_taken = picked_yes (λ (b : Reckoned). b.refusal) _ _ refl (λ z. omega arith) (constant_fits S i) b e none

      pub constant_is : b.fund ≡ constant_at S i
      unfolding fund_reckoned constant_fits constant_at
      constant_is = ap (λ (b : Reckoned). b.fund) (picked_is (λ (b : Reckoned). b.refusal) _ _ refl (λ z. omega arith) (constant_fits S i) b e none) ∙ +ℤ_idr (fund S.r i S.years S.constant_flow)

  -- ---- the line of both
  pub line_made : coefficients_fit S i ≡ true → constant_fits S i ≡ true → {k : List ℤ} {q b : ℤ} → k ≡ coefficients_at S i → q ≡ constant_at S i → b ≡ pos (bound_at S i)
      → line_from k (pos million *ℤ (q +ℤ pos 2 *ℤ b)) ≡ line_of S i
  unfolding line_of
  line_made f g e h k = rw (f, g, e, h, k) refl

  -- ---- the fund of the allocation's flow
  module _ {c : Reckoned} (e : c ≡ flow_reckoned S i) where
    pub fund_refused : (c.refusal ≡ 0 → ⊥) → false ≡ fund_passes S i
    unfolding fund_passes flow_fits fund_reckoned
    fund_refused h = rw (picked_no (λ (c : Reckoned). c.refusal) _ _ refl (λ z. omega arith) (flow_fits S i) c e h) refl

    pub fund_taken : c.refusal ≡ 0 → le_z (pos 0) c.fund ≡ fund_passes S i
    unfolding fund_passes flow_fits fund_at fund_reckoned
    fund_taken none =
        rw (picked_yes (λ (c : Reckoned). c.refusal) _ _ refl (λ z. omega arith) (flow_fits S i) c e none)
        (ap (λ (c : Reckoned). le_z (pos 0) c.fund) (picked_is (λ (c : Reckoned). c.refusal) _ _ refl (λ z. omega arith) (flow_fits S i) c e none))

-- ---- shares that lie below no line are looked at, and no others
module _ (c : Common) (rates : List NewMoney) (lines : List Line) (shares : List ℕ) where
  pub passes_not : false ≡ below_none lines shares → false ≡ passes c rates lines shares
  unfolding passes
  passes_not e = rw (← e) refl

  pub passes_looked : true ≡ below_none lines shares → {b : Bool} → b ≡ looked c rates shares → b ≡ passes c rates lines shares
  unfolding passes
  passes_looked e f = rw (← e) f
