-- The laws of a run of numbers of w bytes each.
use mathlib.Core.Path.{◌≡◌, refl, ap, ap₂, ◌∙◌}
use mathlib.Core.Logic.{⊎_elim}
use mathlib.Core.List.{List, [], ◌++◌, append-nil}
use Prim.Native.Nat.{ℕ, zero, suc, ◌+◌, ◌*◌, ◌^◌, ◌≤◌, ◌<◌}
use native.Mathlib.Nat.{mul-le-mul_left, mul-zero, mul-suc}
use native.Mathlib.Numerals.{add-one}
use native.Mathlib.Omega.{arith}
use lib.Dec.{lit<}
use lib.ListN.{length, take, length-append}
use lib.Seq.{take_all, take-add}
use Rattle.whole.proofs.Laws.{ℕ_cases}
use Rattle.little_endian.specs.LittleEndian.{Bytes, bytes_of}
use Rattle.little_endian.proofs.LittleEndian.{bytes_append, bytes_bytes_of, length_bytes_of, le_at_below, le_at_left, le_at_between, bytes_of_le_at}
use Rattle.little_endian.specs.Runs.{run, number_at}

module _ (w : ℕ) where
  pub run_none : (f : ℕ → ℕ) → run w 0 f ≡ []
  unfolding run
  run_none f = refl

  pub run_more : (k : ℕ) (f : ℕ → ℕ) → run w (k + 1) f ≡ run w k f ++ bytes_of w (f k)
  unfolding run
  run_more k f = rw add-one

  pub length_run : (n : ℕ) (f : ℕ → ℕ) → length (run w n f) ≡ w * n
  unfolding run
  length_run zero f = omega arith
  length_run (suc n) f = rw (length-append, length_run n f, length_bytes_of) (omega arith)

  pub bytes_run : (n : ℕ) (f : ℕ → ℕ) → Bytes (run w n f)
  unfolding run
  bytes_run zero f = record { below = λ k. lit< tt }
  bytes_run (suc n) f = bytes_append (bytes_run n f) (bytes_bytes_of w (f n))

  -- only the first n numbers are written
  pub run_cong : (n : ℕ) (f g : ℕ → ℕ) → ((k : ℕ) → k < n → f k ≡ g k) → run w n f ≡ run w n g
  unfolding run
  run_cong zero f g e = refl
  run_cong (suc n) f g e = ap₂ (λ (a b : List ℕ). a ++ b) (run_cong n f g (λ k h. e k (omega arith))) (ap (bytes_of w) (e n (omega arith)))

  -- what is written is read
  pub run_at : (n : ℕ) (f : ℕ → ℕ) (k : ℕ) → k < n → f k < 256 ^ w → number_at w (run w n f) k ≡ f k
  unfolding run number_at
  run_at zero f k h fits = absurd (omega arith)
  run_at (suc n) f k h fits = ⊎_elim
      (λ (l : k < n).
      le_at_left w (w * k) (run w n f) (bytes_of w (f n)) (omega (arith, length_run n f, mul-le-mul_left w l, mul-suc w k)) ∙ run_at n f k l fits)
      (λ (l : n ≤ k).
      let e : n ≡ k = omega arith in
      rw (e, ← append-nil (bytes_of w (f k))) (le_at_between w (f k) (w * k) (run w k f) _ (length_run k f) fits))
      (ℕ_cases k n)

  module _ {body : List ℕ} (b : Bytes body) where
    pub number_below : (k : ℕ) → number_at w body k < 256 ^ w
    unfolding number_at
    number_below k = le_at_below w (w * k) b

    -- what is read is written again
    part_again : (n : ℕ) → w * n ≤ length body → run w n (number_at w body) ≡ take (w * n) body
    unfolding run number_at
    part_again zero h = rw mul-zero
    part_again (suc n) h =
        rw (mul-suc, take-add (w * n) w body)
        (ap₂ (λ (x y : List ℕ). x ++ y) (part_again n (omega arith)) (bytes_of_le_at w (w * n) b (omega arith)))

    pub run_again : (n : ℕ) → length body ≡ w * n → run w n (number_at w body) ≡ body
    run_again n e = part_again n (omega arith) ∙ take_all (w * n) body (omega arith)
