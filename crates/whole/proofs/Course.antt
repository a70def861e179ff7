-- Course-of-values recursion: its equation, its uniqueness, and induction on all the numbers below.
use mathlib.Core.Path.{◌≡◌, refl, sym, ◌∙◌, subst}
use mathlib.Core.List.{[], ◌∷◌, ◌++◌}
use mathlib.Core.Logic.{⊎_elim}
use Prim.Native.Nat.{ℕ, zero, suc, ◌≤◌, ◌<◌}
use native.Mathlib.Omega.{arith}
use lib.ListN.{length, get_or, length-append, get_or-append}
use lib.Seq.{get_or-append_seam}
use lib.IntN.{ℤ, pos}
use Rattle.whole.specs.Course.{Step, history, course}
use Rattle.whole.proofs.Laws.{ℕ_cases}

-- induction on all the numbers below
pub strong : (P : ℕ → Type 0) → ((n : ℕ) → ((k : ℕ) → k < n → P k) → P n) → (n : ℕ) → P n
strong P s n = below (suc n) n (omega arith)
  where
    below : (m k : ℕ) → k < m → P k
    below zero k h = absurd (omega arith)
    below (suc m) k h = s k (λ j l. below m j (omega arith))

-- the step looks at no value but those below
abbrev pub Local : Step → Type 0
Local step = (n : ℕ) (g h : ℕ → ℤ) → ((k : ℕ) → k < n → g k ≡ h k) → step n g ≡ step n h

module _ (step : Step) where
  length_history : (n : ℕ) → length (history step n) ≡ n
  unfolding history
  length_history zero = refl
  length_history (suc n) = omega (arith, length-append (history step n) (step n (λ k. get_or (history step n) k (pos 0)) ∷ []), length_history n)

  history_at : (n k : ℕ) → k < n → get_or (history step n) k (pos 0) ≡ course step k
  unfolding history course
  history_at zero k h = absurd (omega arith)
  history_at (suc n) k h = ⊎_elim
      (λ (l : k < n). get_or-append (history step n) (course step n ∷ []) (pos 0) k (omega (arith, length_history n)) ∙ history_at n k l)
      (λ (l : n ≤ k). let e : k ≡ n = omega arith in rw e (subst (λ (j : ℕ). get_or (history step n ++ course step n ∷ []) j (pos 0) ≡ course step n) (length_history n) (get_or-append_seam (history step n) (course step n) [] (pos 0))))
      (ℕ_cases k n)

  module _ (local : Local step) where
    -- the equation that a reader expects
    pub course_is : (n : ℕ) → course step n ≡ step n (course step)
    unfolding course
    course_is n = local n (λ k. get_or (history step n) k (pos 0)) (course step) (history_at n)

    -- and nothing else satisfies it
    pub course_unique : (g : ℕ → ℤ) → ((n : ℕ) → g n ≡ step n g) → (n : ℕ) → g n ≡ course step n
    course_unique g e = strong (λ n. g n ≡ course step n) (λ n ih. e n ∙ local n g (course step) ih ∙ sym (course_is n))
