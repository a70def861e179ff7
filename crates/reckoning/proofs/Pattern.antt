-- What a rollover and its weights, a pattern's rates and a flow have: their ranges, their entries by the papers' index, and nothing
-- past the rollover's terms.
use mathlib.Core.Path.{◌≡◌, ap, ap₂, ◌∙◌}
use mathlib.Core.List.{List}
use mathlib.Core.Logic.{⊎_elim}
use Prim.Native.Nat.{ℕ, suc, ◌+◌, ◌-◌, ◌≤◌, ◌<◌}
use native.Mathlib.Nat.{le_trans, le_of_eq}
use native.Mathlib.Omega.{arith}
use lib.ListN.{get_or}
use lib.IntN.{ℤ, pos, ◌+ℤ◌}
use Rattle.whole.specs.Range.{million, limit, Within}
use Rattle.whole.specs.Floor.{share_of}
use Rattle.whole.specs.Sum.{sum_ℕ, Σℕ}
use Rattle.whole.specs.Entry.{nth}
use Rattle.whole.proofs.Bridge.{whole}
use Rattle.whole.proofs.Laws.{ℕ_cases}
use Rattle.whole.proofs.Range.{within_add, within_pos, abs_nonneg}
use Rattle.whole.proofs.Floor.{share_within, share_none, share_of_none}
use Rattle.whole.proofs.Sum.{sum_ℕ_more, sum_ℕ_past}
use Rattle.whole.proofs.Table.{table_at}
use Rattle.reckoning.specs.Reckoning.{w, sent}
use Rattle.reckoning.specs.Arrays.{shares_of, rates_of, amounts_of, weights_of, Terms}
use Rattle.reckoning.specs.declared.Rollover.{Rollover}
use Rattle.reckoning.proofs.Recursion.{w_le}

-- ---- what a cell sends
module _ (x r u i : ℤ) (x-in : Within limit x) (r-in : Within million r) (u-in : Within million u) (i-in : Within million i) where
  pub matured_within : Within limit (share_of x r)
  matured_within = share_within limit x r r-in x-in

  pub invested_within : Within limit (share_of x u)
  invested_within = share_within limit x u u-in x-in

  pub interest_within : Within limit (share_of (share_of x u) i)
  interest_within = share_within limit (share_of x u) i i-in invested_within

  pub sent_within : Within (limit + limit) (sent x r u i)
  unfolding sent
  sent_within = within_add matured_within interest_within

sent_none : (x i : ℤ) → sent x (pos 0) (pos 0) i ≡ pos 0
unfolding sent
sent_none x i = ap₂ ◌+ℤ◌ (share_none x) (ap (λ (z : ℤ). share_of z i) (share_none x) ∙ share_of_none i)

-- ---- the rollover
module _ {q : ℕ} {r : List ℤ} (terms : Terms q r) where
  sum_past : (d : ℕ) → q ≤ d → Σℕ 1 d (shares_of r) ≡ million
  sum_past d h =
      let e : suc d - 1 ≡ (suc q - 1) + (d - q) = omega arith in
      ap (λ (m : ℕ). sum_ℕ m (λ j. shares_of r (1 + j))) e
      ∙ sum_ℕ_past (suc q - 1) (d - q) (λ j. shares_of r (1 + j)) (λ k l. terms.past (1 + k) (omega arith))
      ∙ terms.sum

  pub shares_le : (d : ℕ) → Σℕ 1 d (shares_of r) ≤ million
  shares_le d = ⊎_elim
      (λ (l : d < q). le_trans (sum_ℕ_more (suc d - 1) (suc q - 1) (λ j. shares_of r (1 + j)) (omega arith)) (le_of_eq terms.sum))
      (λ (l : q ≤ d). le_of_eq (sum_past d l))
      (ℕ_cases d q)

  pub weight_none : (d : ℕ) → q ≤ d → w (shares_of r) d ≡ 0
  unfolding w
  weight_none d h = omega (arith, sum_past d h)

  -- a cell that is older than the q terms sends nothing: cell l into cell j
  pub sent_past : (j l : ℕ) → l < j - q → (x i : ℤ) → sent x (pos (shares_of r (j - l))) (pos (w (shares_of r) (j - l - 1))) i ≡ pos 0
  sent_past j l h x i = rw (terms.past (j - l) (omega arith), weight_none (j - l - 1) (omega arith)) (sent_none x i)

  -- r_(1 + d) stands at place d
  pub share_at : (d : ℕ) → d < 30 → pos (shares_of r (1 + d)) ≡ get_or r d (pos 0)
  unfolding shares_of nth
  share_at d l = let e : 1 + d ≡ suc d = omega arith in rw e (abs_nonneg (terms.part d l).low)

-- ---- a pattern
-- i_(2 + l) stands at place l, the amount of year 1 + k at place k
pub rate_at : (i : List ℤ) (l : ℕ) → rates_of i (2 + l) ≡ get_or i l (pos 0)
unfolding rates_of nth
rate_at i l = let e : 2 + l - 1 ≡ suc l = omega arith in rw e

pub amount_at : (f : List ℤ) (k : ℕ) → amounts_of f (1 + k) ≡ get_or f k (pos 0)
unfolding amounts_of nth
amount_at f k = let e : 1 + k ≡ suc k = omega arith in rw e

module _ (k : Rollover) where
  pub weight_at : (d : ℕ) → d < 30 → get_or k.weights d (pos 0) ≡ pos (w (shares_of k.shares) d)
  unfolding weights_of
  weight_at d l = rw k.weighed (table_at 30 30 (λ d. pos (w (shares_of k.shares) d)) (pos 0) (pos 0) d l (omega arith))

  pub weight_within : (d : ℕ) → d < 30 → Within million (get_or k.weights d (pos 0))
  weight_within d l = rw (weight_at d l) (within_pos (w_le (shares_of k.shares) d))

  pub share_within_at : (d : ℕ) → d < 30 → Within million (get_or k.shares d (pos 0))
  share_within_at d l = omega (whole, k.parts.part d l)

  -- no weight is left from place q on
  pub weight_past : (d : ℕ) → k.terms ≤ d → d < 30 → get_or k.weights d (pos 0) ≡ pos 0
  weight_past d h l = weight_at d l ∙ ap pos (weight_none k.parts d h)
