-- The line of a pattern: its size, and that the pattern and its line together decide as the verdict does on the pattern.
use mathlib.Core.Path.{◌≡◌, refl, sym, ap, ap₂, ◌∙◌, subst}
use mathlib.Core.Bool.{Bool, true, false}
use mathlib.Core.List.{List, [], ◌∷◌}
use mathlib.Core.Logic.{⊎_elim}
use Prim.Native.Nat.{ℕ, zero, suc, ◌+◌, ◌*◌, ◌^◌, ◌≤◌, ◌<◌}
use native.Mathlib.Omega.{arith}
use lib.ListN.{get_or, replicate, get_or-replicate}
use lib.IntN.{ℤ, pos, negsuc, ◌+ℤ◌, ◌*ℤ◌, +ℤ_idr, zero-*ℤ}
use lib.Signed.{le_z, ◌≤ℤ◌, ◌<ℤ◌, clash_ℤ}
use Rattle.whole.specs.Range.{million, limit, Between, Within}
use Rattle.whole.specs.Floor.{floor}
use Rattle.whole.specs.Sum.{sum, Σℤ}
use Rattle.whole.specs.Test.{both}
use Rattle.whole.proofs.Bridge.{whole, at, #, ◌⊕◌, ◌⊗◌}
use Rattle.whole.proofs.Laws.{ℕ_cases, ℤ_cases}
use Rattle.whole.proofs.Range.{within_more, within_add, within_mul, within_pos}
use Rattle.whole.proofs.Floor.{is_floor}
use Rattle.whole.proofs.Sum.{sum_zeros, Σℤ_from}
use Rattle.whole.proofs.Test.{both_second, both_not, all_at, le_true, le_le_Z, between_fact}
use Rattle.whole.proofs.Table.{table_at, table_past}
use Rattle.reckoning.specs.Reckoning.{fund}
use Rattle.reckoning.specs.Bound.{value}
use Rattle.reckoning.specs.Arrays.{alphas_fit, fund_fits}
use Rattle.reckoning.proofs.Theorem.{exactly_solvent, exactly_short}
use Rattle.plan.specs.Numbers.{numbers}
use Rattle.plan.specs.Refusal.{Accepted}
use Rattle.plan.specs.declared.Plan.{Plan}
use Rattle.plan.proofs.Held.{allocation_is}
use Rattle.patterns.specs.Pattern.{Shared, shared_of, fund_at, bound_at, coefficient_at, constant_at, value_at, flow_fits, coefficients_fit, constant_fits, coefficients_at}
use Rattle.patterns.proofs.Weighing.{sum_upto}
use Rattle.planner.specs.Calls.{exact_fund, bound_of}
use Rattle.planner.specs.Verdict.{row_fits, fund_of}
use Rattle.planner.proofs.Demand3.{pattern_form_close, fund_below}
use Rattle.finder.specs.Lines.{line_from, over_all, line_of, fund_passes, height_over}

-- ---- a line by its places
pub coefficient_in : (k : List ℤ) (c : ℤ) (j : ℕ) → j < 4 → get_or (line_from k c) j (pos 0) ≡ get_or k j (pos 0)
coefficient_in k c zero l = refl
coefficient_in k c (suc zero) l = refl
coefficient_in k c (suc (suc zero)) l = refl
coefficient_in k c (suc (suc (suc zero))) l = refl
coefficient_in k c (suc (suc (suc (suc j)))) l = absurd (omega arith)

-- and the first four of some numbers by theirs
pub first_four : (k : List ℤ) (j : ℕ) → j < 4 → get_or (get_or k 0 (pos 0) ∷ get_or k 1 (pos 0) ∷ get_or k 2 (pos 0) ∷ get_or k 3 (pos 0) ∷ []) j (pos 0) ≡ get_or k j (pos 0)
first_four k zero l = refl
first_four k (suc zero) l = refl
first_four k (suc (suc zero)) l = refl
first_four k (suc (suc (suc zero))) l = refl
first_four k (suc (suc (suc (suc j)))) l = absurd (omega arith)

-- the line over all has no coefficients, so that every allocation lies below it
over_all_at : (j : ℕ) → j < 4 → get_or over_all j (pos 0) ≡ pos 0
over_all_at j l = coefficient_in (replicate 16 (pos 0)) (negsuc 0) j l ∙ get_or-replicate 16 j (pos 0) (pos 0) (omega arith)

below_over_all : (shares : List ℕ) → le_z (pos 0) (height_over over_all shares) ≡ false
below_over_all shares =
    ap (λ (z : ℤ). le_z (pos 0) (z +ℤ negsuc 0))
    (sum_zeros 4 _ (λ j l. ap (λ (z : ℤ). z *ℤ pos (get_or shares j 0)) (over_all_at j l) ∙ zero-*ℤ (pos (get_or shares j 0))))

-- a form's value above -2 B - 1, the floor f of a sum z and Q, has a line that z is not below
height_over_law : (f z q : ℤ) (b : ℕ) → (f *ℤ pos million) ≤ℤ z → pos 0 <ℤ ((f +ℤ q) +ℤ pos (2 * b + 1)) → pos 0 ≤ℤ (z +ℤ pos million *ℤ (q +ℤ pos 2 *ℤ pos b))
height_over_law f z q b low over =
    omega (whole, low, over, at (# f ⊗ # (pos million)), at ((# f ⊕ # q) ⊕ # (pos (2 * b + 1))), at (# z ⊕ # (pos million) ⊗ (# q ⊕ # (pos 2) ⊗ # (pos b))))

-- 1,000,000 (Q + 2 B) of a Q that check 11 takes
line_constant_within : {q b : ℤ} → Within limit q → Within 4_294_967_296 b → Within (2 * (limit * million)) (pos million *ℤ (q +ℤ pos 2 *ℤ b))
line_constant_within u v = within_more {b = million * (limit + 2 * 4_294_967_296)} (omega arith)
    (within_mul {b = million} (within_pos (omega arith)) (within_add u (within_mul {b = 2} (within_pos (omega arith)) v)))

-- ---- what check 11 takes is within the limit: K_1 to K_n, and Q; and so is the line of them
module _ (S : Shared) (i : ℕ → ℤ) where
  coefficient_within : coefficients_fit S i ≡ true → (j : ℕ) → j < S.instruments → Within limit (coefficient_at S i (1 + j))
  unfolding coefficient_at coefficients_fit fund_fits
  coefficient_within fits j l = between_fact _ _ _ (both_second (alphas_fit S.r i (λ k. S.a k (1 + j)) S.years) _ (all_at S.instruments _ j l fits))

  constant_within : constant_fits S i ≡ true → Within limit (constant_at S i)
  unfolding constant_at constant_fits fund_fits
  constant_within fits = rw (+ℤ_idr (fund S.r i S.years S.constant_flow)) at (between_fact _ _ _ (both_second (alphas_fit S.r i S.constant_flow S.years) _ fits))

  module _ (few : S.instruments ≤ 16) (fits : coefficients_fit S i ≡ true) where
    pub each_within : (j : ℕ) → j < 16 → Within limit (get_or (coefficients_at S i) j (pos 0))
    unfolding coefficients_at
    each_within j l = ⊎_elim
        (λ (b : j < S.instruments). rw (table_at 16 S.instruments (λ j. coefficient_at S i (1 + j)) (pos 0) (pos 0) j b few) (coefficient_within fits j b))
        (λ (b : S.instruments ≤ j). rw (table_past 16 S.instruments (λ j. coefficient_at S i (1 + j)) (pos 0) (pos 0) j b l) (within_pos (omega arith)))
        (ℕ_cases j S.instruments)

  pub line_constant : constant_fits S i ≡ true → {b : ℤ} → Between (pos 0) (pos 4_294_967_296) b → Within (2 * (limit * million)) (pos million *ℤ (constant_at S i +ℤ pos 2 *ℤ b))
  line_constant fits {b} between = line_constant_within {b = b} (constant_within fits) (omega (whole, between))

-- ---- pattern t of a plan of at most four instruments, and the line that it has
module _ (plan : Plan) (ok : Accepted (numbers plan)) (t : ℕ) where
  abbrev n : ℕ
  n = plan.instruments

  abbrev S : Shared
  S = shared_of (numbers plan)

  abbrev i : ℕ → ℤ
  i = (numbers plan).i t

  abbrev form_fits_law : Bool
  form_fits_law = both (coefficients_fit S i) (constant_fits S i)

  abbrev form_line : List ℤ
  form_line = line_from (coefficients_at S i) (pos million *ℤ (constant_at S i +ℤ pos 2 *ℤ pos (bound_at S i)))

  module _ (few : n ≤ 4) where
    form_at : (j : ℕ) → j < n → get_or form_line j (pos 0) ≡ coefficient_at S i (1 + j)
    unfolding coefficients_at
    form_at j l = coefficient_in (coefficients_at S i) _ j (omega arith) ∙ table_at 16 n (λ j. coefficient_at S i (1 + j)) (pos 0) (pos 0) j l ok.head.instruments_few

    form_past : (j : ℕ) → n ≤ j → j < 4 → get_or form_line j (pos 0) ≡ pos 0
    unfolding coefficients_at
    form_past j l b = coefficient_in (coefficients_at S i) _ j b ∙ table_past 16 n (λ j. coefficient_at S i (1 + j)) (pos 0) (pos 0) j l (omega arith)

    -- where check 11 refuses an instrument or Q, the allocation lies below it
    refused_below : form_fits_law ≡ false → le_z (pos 0) (height_over (line_of S i) plan.allocation) ≡ false
    unfolding line_of
    refused_below e = rw e (below_over_all plan.allocation)

    -- ---- where the allocation's fund is zero or more, it does not lie below the form's line: by demand 3 the exact fund is zero or more
    -- too, so that the form's value is above -2 B - 1
    module _ (funded : le_z (pos 0) (fund_at S i) ≡ true) where
      abbrev weighed : ℤ
      weighed = Σℤ 1 n (λ j. coefficient_at S i j *ℤ pos (S.p j))

      abbrev floored : ℤ
      floored = floor weighed million +ℤ constant_at S i

      exact : pos 0 ≤ℤ exact_fund (numbers plan) t
      unfolding fund_of
      exact = subst (λ (z : ℤ). z ≤ℤ exact_fund (numbers plan) t) (zero-*ℤ (pos (10 ^ (12 * plan.years)))) (exactly_solvent (pos 0) (fund_below plan t ok) (le_true (pos 0) (fund_at S i) funded))

      value_over : pos 0 <ℤ (floored +ℤ pos (2 * bound_at S i + 1))
      unfolding value_at value bound_of
      value_over = ⊎_elim
          (λ (l : pos 0 <ℤ (floored +ℤ pos (2 * bound_at S i + 1))). l)
          (λ (l : (floored +ℤ pos (2 * bound_at S i + 1)) ≤ℤ pos 0). absurd (clash_ℤ
          (subst (λ (z : ℤ). exact_fund (numbers plan) t <ℤ z) (zero-*ℤ (pos (10 ^ (12 * plan.years)))) (exactly_short (pos 0) (pattern_form_close plan t ok).either l)) exact))
          (ℤ_cases (pos 0) (floored +ℤ pos (2 * bound_at S i + 1)))

      abbrev term : (j : ℕ) → ℤ
      term j = get_or form_line j (pos 0) *ℤ pos (get_or plan.allocation j 0)

      weighed_is : weighed ≡ sum 4 term
      weighed_is =
          Σℤ_from 1 n n (λ j. coefficient_at S i j *ℤ pos (S.p j)) term (omega arith)
          (λ j l. ap₂ (λ (x : ℤ) (p : ℕ). x *ℤ pos p) (sym (form_at j l)) (allocation_is plan j l))
          ∙ sum_upto n 4 term few (λ j l b. ap (λ (x : ℤ). x *ℤ pos (get_or plan.allocation j 0)) (form_past j l b) ∙ zero-*ℤ (pos (get_or plan.allocation j 0)))

      funded_over : form_fits_law ≡ true → le_z (pos 0) (height_over (line_of S i) plan.allocation) ≡ true
      unfolding line_of
      funded_over e = rw e (le_le_Z (pos 0) _ (subst (λ (z : ℤ). pos 0 ≤ℤ (z +ℤ pos million *ℤ (constant_at S i +ℤ pos 2 *ℤ pos (bound_at S i)))) weighed_is
          (height_over_law (floor weighed million) weighed (constant_at S i) (bound_at S i) (is_floor weighed million (omega arith)).low value_over)))

    -- so what is looked at, the line and then the pattern, is what the verdict asks of it: check 11 for all of its row, and a fund of zero
    -- or more
    pub looked_at : both (le_z (pos 0) (height_over (line_of S i) plan.allocation)) (fund_passes S i) ≡ both (row_fits S i) (le_z (pos 0) (fund_at S i))
    unfolding fund_passes row_fits
    looked_at = go (le_z (pos 0) (height_over (line_of S i) plan.allocation)) (flow_fits S i) form_fits_law (le_z (pos 0) (fund_at S i)) refused_below funded_over
      where
        go : (l f k z : Bool) → (k ≡ false → l ≡ false) → (z ≡ true → k ≡ true → l ≡ true) → both l (both f z) ≡ both (both f k) z
        go l f false z below over = rw (below refl, both_not f)
        go l f true false below over = rw (both_not f, both_not l, both_not (both f true))
        go l true true true below over = rw (over refl refl)
        go l false true true below over = both_not l
