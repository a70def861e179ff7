-- Numbers in a body: what is read is written again, and what is written is read.
use mathlib.Core.Path.{◌≡◌, refl, sym, ap, ap₂, ◌∙◌, fun_ext}
use mathlib.Core.List.{List, [], ◌∷◌, ◌++◌, append_assoc}
use Prim.Native.Nat.{ℕ, ◌+◌, ◌*◌, ◌^◌, ◌<◌}
use native.Mathlib.Omega.{arith}
use mir.Syntax.{Width, w32}
use mir.Val.{SFits, bytes}
use lib.IntN.{ℤ, pos}
use lib.ListN.{length, get_or, take}
use lib.Seq.{take_all, take-add, drop-cons}
use Rattle.whole.specs.Entry.{entry}
use Rattle.whole.proofs.Entry.{entry_at, entry_empty, entry_cong}
use Rattle.little_endian.specs.LittleEndian.{Bytes, bytes_of}
use Rattle.little_endian.specs.TwosComplement.{signed_of, unsigned_of}
use Rattle.little_endian.specs.Runs.{number_at}
use Rattle.little_endian.proofs.LittleEndian.{length_bytes_of, le_at_between, bytes_of_le_at}
use Rattle.little_endian.proofs.TwosComplement.{signed_unsigned, unsigned_signed, unsigned_below}
use Rattle.little_endian.proofs.Runs.{run_cong, run_at, run_again, number_below}
use Rattle.records.specs.Record.{Rec}
use Rattle.planfile.specs.Rows.{rec, signed_in, signed_bytes, shares_in, shares_bytes, slope_bytes}

module _ (r : Rec) (b : Bytes r.body) (n : ℕ) where
  pub signed_again : (w : Width) → length r.body ≡ bytes w * n → signed_bytes (bytes w) n (signed_in (bytes w) n r) ≡ r.body
  signed_again w e =
      run_cong (bytes w) n _ _ (λ k l. ap (unsigned_of (bytes w)) (entry_at (pos 0) n _ k l) ∙ unsigned_signed w _ (number_below (bytes w) b k)) ∙ run_again (bytes w) b n e

  pub shares_again : length r.body ≡ 4 * n → shares_bytes n (shares_in n r) ≡ r.body
  shares_again e = run_cong 4 n _ _ (λ k l. entry_at 0 n _ k l) ∙ run_again 4 b n e

-- of no numbers, whatever stands there
pub signed_none : (w : ℕ) (r : Rec) (f : ℕ → ℤ) → f ≡ entry (pos 0) 0 (λ k. f (1 + k)) → signed_in w 0 r ≡ f
signed_none w r f e = fun_ext (λ k. entry_empty (pos 0) _ k ∙ sym (entry_empty (pos 0) (λ k. f (1 + k)) k)) ∙ sym e

module _ (kind n : ℕ) where
  pub signed_same : (w : Width) (f : ℕ → ℤ) → f ≡ entry (pos 0) n (λ k. f (1 + k)) → ((k : ℕ) → k < n → SFits w (f (1 + k)))
      → signed_in (bytes w) n (rec kind (signed_bytes (bytes w) n f)) ≡ f
  signed_same w f e s =
      fun_ext (entry_cong (pos 0) n _ (λ k. f (1 + k)) (λ k l.
      ap (signed_of (bytes w)) (run_at (bytes w) n _ k l (unsigned_below w (f (1 + k)) (s k l))) ∙ signed_unsigned w (f (1 + k)) (s k l)))
      ∙ sym e

  pub shares_same : (f : ℕ → ℕ) → f ≡ entry 0 n (λ k. f (1 + k)) → ((k : ℕ) → k < n → f (1 + k) < 256 ^ 4) → shares_in n (rec kind (shares_bytes n f)) ≡ f
  shares_same f e s = fun_ext (entry_cong 0 n _ (λ k. f (1 + k)) (λ k l. run_at 4 n _ k l (s k l))) ∙ sym e

-- ---- a slope: two signed numbers of 4 bytes, and a byte
pub slope_length : (start step : ℤ) (until : ℕ) → length (slope_bytes start step until) ≡ 9
unfolding bytes_of
slope_length start step until = refl

pub slope_again : (r : Rec) → Bytes r.body → length r.body ≡ 9
    → slope_bytes (signed_of 4 (number_at 4 r.body 0)) (signed_of 4 (number_at 4 r.body 1)) (get_or r.body 8 0) ≡ r.body
unfolding number_at
slope_again r b e =
    let body = r.body in
    rw (
      unsigned_signed w32 _ (number_below 4 b 0),
      unsigned_signed w32 _ (number_below 4 b 1),
      bytes_of_le_at 4 0 b (omega arith),
      bytes_of_le_at 4 4 b (omega arith),
    )
    (ap₂ (λ (x y : List ℕ). x ++ y) (sym (take-add 4 4 body)) (sym (ap (take 1) (drop-cons body 8 0 (omega arith))))
    ∙ sym (take-add 8 1 body)
    ∙ take_all 9 body (omega arith))

module _ (start step : ℤ) (until : ℕ) where
  pub start_same : SFits w32 start → signed_of 4 (number_at 4 (slope_bytes start step until) 0) ≡ start
  unfolding number_at
  start_same s =
      let rest = bytes_of 4 (unsigned_of 4 step) ++ until ∷ [] in
      ap (signed_of 4) (rw append_assoc (le_at_between 4 (unsigned_of 4 start) 0 [] rest refl (unsigned_below w32 start s)))
      ∙ signed_unsigned w32 start s

  pub step_same : SFits w32 step → signed_of 4 (number_at 4 (slope_bytes start step until) 1) ≡ step
  unfolding number_at
  step_same s =
      let first = bytes_of 4 (unsigned_of 4 start) in
      let long = length_bytes_of 4 (unsigned_of 4 start) in
      ap (signed_of 4) (rw append_assoc (le_at_between 4 (unsigned_of 4 step) 4 first (until ∷ []) long (unsigned_below w32 step s)))
      ∙ signed_unsigned w32 step s

  pub until_same : get_or (slope_bytes start step until) 8 0 ≡ until
  unfolding bytes_of
  until_same = refl
