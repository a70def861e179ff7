-- What the core's answer for a flow f, with an amount left at the horizon, tells.
use mathlib.Core.Path.{◌≡◌, refl, ap}
use mathlib.Core.Bool.{true, false}
use Prim.Native.Nat.{ℕ}
use native.Mathlib.Omega.{arith}
use lib.IntN.{ℤ, ◌+ℤ◌}
use Rattle.whole.proofs.Test.{picked_yes, picked_no, picked_is}
use Rattle.reckoning.specs.Reckoning.{fund}
use Rattle.reckoning.specs.Arrays.{fund_fits, fund_reckoned}
use Rattle.reckoning.specs.Answers.{Reckoned}

module _ (r : ℕ → ℕ) (i f : ℕ → ℤ) (N : ℕ) (left : ℤ) {s : Reckoned} (e : s ≡ fund_reckoned r i f N left) where
  pub reckoned_refused : (s.refusal ≡ 0 → ⊥) → fund_fits r i f N left ≡ false
  unfolding fund_reckoned
  reckoned_refused = picked_no (λ (s : Reckoned). s.refusal) _ _ refl (λ z. omega arith) (fund_fits r i f N left) s e

  pub reckoned_fits : s.refusal ≡ 0 → fund_fits r i f N left ≡ true
  unfolding fund_reckoned
  reckoned_fits = picked_yes (λ (s : Reckoned). s.refusal) _ _ refl (λ z. omega arith) (fund_fits r i f N left) s e

  pub reckoned_is : s.refusal ≡ 0 → s.fund ≡ fund r i N f +ℤ left
  unfolding fund_reckoned
  reckoned_is h = ap (λ (s : Reckoned). s.fund) (picked_is (λ (s : Reckoned). s.refusal) _ _ refl (λ z. omega arith) (fund_fits r i f N left) s e h)

  -- the one refusal is that of check 11
  pub reckoned_number : (s.refusal ≡ 0 → ⊥) → s.refusal ≡ 11
  unfolding fund_reckoned
  reckoned_number h = ap (λ (s : Reckoned). s.refusal) (rw (reckoned_refused h) at e)
