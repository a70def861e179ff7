-- The theorem (document 01, "Bound, form, verdict"): for every rollover whose shares come to at most 1,000,000, every N from 1 on, and
-- every pattern whose rates i_2 to i_N are at most 1,000,000 without their sign, the fund and the form are as close to the exact fund
-- as their bounds say, and from below where no rate is below zero.
use mathlib.Core.Path.{◌≡◌, refl}
use Prim.Native.Nat.{ℕ, ◌+◌, ◌-◌, ◌*◌, ◌^◌}
use native.Mathlib.Omega.{arith}
use lib.IntN.{ℤ, pos, ◌+ℤ◌, ◌-ℤ◌, ◌*ℤ◌, +ℤ_idr}
use lib.Signed.{◌≤ℤ◌, ◌<ℤ◌}
use Rattle.whole.specs.Range.{million}
use Rattle.whole.specs.Sum.{Σℕ, Σℤ}
use Rattle.whole.proofs.Bridge.{whole, at, #, ◌⊕◌, ◌⊖◌, ◌⊗◌}
use Rattle.whole.proofs.Laws.{pos_nonneg, ≤ℤ_trans, <ℤ→≤ℤ, *ℤ_mono}
use Rattle.whole.proofs.Solver.{ring, ◌≈◌, ! }
use Rattle.reckoning.specs.Reckoning.{fund}
use Rattle.reckoning.specs.Exact.{H, with_left}
use Rattle.reckoning.specs.Bound.{h, B, value}
use Rattle.reckoning.specs.Theorem.{Given, Floors, Rounded, FromBelow, Near, Close}
use Rattle.reckoning.proofs.BoundLaws.{G_below_B}
use Rattle.reckoning.proofs.Linear.{H_scale}
use Rattle.reckoning.proofs.AtHorizon.{from_below_bracket, near_bracket, bracket_near, bracket_from_below, bracket_left, fund_bracket, fund_bracket_nonneg}
use Rattle.reckoning.proofs.Form.{whole_floors, whole_rounded, form_bracket}
pub use Rattle.reckoning.proofs.Form.{flow_floors, left_rounded, none_rounded, left_parts}

nothing_left : (N : ℕ) (z : ℤ) → with_left N z (pos 0 *ℤ pos million) ≡ z
unfolding with_left
nothing_left N z = ring 3 (λ z m u. z ⊕ ! (pos 0) ⊗ m ⊗ u ≈ z) refl z (pos million) (pos (10 ^ (12 * N - 6)))

module _ {r : ℕ → ℕ} {i : ℕ → ℤ} {N : ℕ} (given : Given r i N) where
  -- the fund of any flow, with z left at the horizon for s millionths: a plan's are such by `flow_floors` and `left_rounded`
  pub fund_close : (f x : ℕ → ℤ) → Floors f x → {e : ℕ} {s z : ℤ} → Rounded e s z → Close i N (with_left N (H r i N x) s) (fund r i N f +ℤ z) (B (h i N) N + e)
  fund_close f x floors left = record {
    either = bracket_near (omega (arith, G_below_B (h i N) N given.years)) (bracket_left given.years (fund_bracket given f x floors) left);
    below = λ up. bracket_from_below (bracket_left given.years (fund_bracket_nonneg given f x floors up) left);
  }

  -- that of a flow in whole amounts with an amount left, as an instrument's is, for a bound that may be e wider
  pub amounts_close : (e : ℕ) (y : ℕ → ℤ) (z : ℤ) → Close i N (with_left N (H r i N y *ℤ pos million) (z *ℤ pos million)) (fund r i N y +ℤ z) (B (h i N) N + e)
  amounts_close e y z = rw (← H_scale r i N (pos million) y) (fund_close y (λ k. y k *ℤ pos million) (whole_floors y) (whole_rounded e z))

  -- and with nothing left, as that of Q is
  pub constant_close : (e : ℕ) (y : ℕ → ℤ) → Close i N (H r i N y *ℤ pos million) (fund r i N y) (B (h i N) N + e)
  constant_close e y = rw (nothing_left N (H r i N y *ℤ pos million), +ℤ_idr (fund r i N y)) at (amounts_close e y (pos 0))

-- the form of any coefficients K, each close to its exact part y, and any constant Q, close to x: what they are parts of is z, by
-- `H_parts` the exact fund of a plan
pub form_close : {i : ℕ → ℤ} {N b : ℕ} (n : ℕ) (p : ℕ → ℕ) → Σℕ 1 n p ≡ million → {K y : ℕ → ℤ} → ((j : ℕ) → Close i N (y j) (K j) b) → {Q x : ℤ} → Close i N x Q b →
    {z : ℤ} → z *ℤ pos million ≡ x *ℤ pos million +ℤ Σℤ 1 n (λ j. y j *ℤ pos (p j)) → Close i N z (value n K Q p) (2 * b + 1)
form_close n p shared each own parts = record {
  either = bracket_near (omega arith) (form_bracket n p shared (λ j. near_bracket (each j).either) (near_bracket own.either) parts);
  below = λ up. bracket_from_below (form_bracket n p shared (λ j. from_below_bracket ((each j).below up)) (from_below_bracket (own.below up)) parts);
}

-- ---- the words against c, of an exact fund z and a number y with bound b
module _ {N b : ℕ} {z y : ℤ} (c : ℤ) where
  pub exactly_solvent : FromBelow N z y b → c ≤ℤ y → (c *ℤ pos (10 ^ (12 * N))) ≤ℤ z
  exactly_solvent k s = ≤ℤ_trans (*ℤ_mono (pos_nonneg _) s) k.low

  pub exactly_solvent_near : Near N z y b → (c +ℤ pos b) ≤ℤ y → (c *ℤ pos (10 ^ (12 * N))) ≤ℤ z
  exactly_solvent_near k s = let l : c ≤ℤ (y -ℤ pos b) = omega (whole, s, at (# c ⊕ # (pos b)), at (# y ⊖ # (pos b))) in ≤ℤ_trans (*ℤ_mono (pos_nonneg _) l) (<ℤ→≤ℤ k.low)

  pub exactly_short : Near N z y b → (y +ℤ pos b) ≤ℤ c → z <ℤ (c *ℤ pos (10 ^ (12 * N)))
  exactly_short k s = let l : ((y +ℤ pos b) *ℤ pos (10 ^ (12 * N))) ≤ℤ (c *ℤ pos (10 ^ (12 * N))) = *ℤ_mono (pos_nonneg _) s in omega (whole, k.high, l)
