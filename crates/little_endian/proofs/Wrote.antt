-- The laws of what is put down in a buffer: bytes after bytes, in a line or in a loop, and the room that they take.
use mathlib.Core.Path.{◌≡◌, refl, sym, ap, ◌∙◌}
use mathlib.Core.List.{List, [], ◌∷◌, ◌++◌}
use Prim.Native.Nat.{ℕ, ◌+◌, ◌*◌, ◌≤◌, ◌<◌}
use native.Mathlib.Nat.{mul-suc, mul-add, mul-le-mul_left}
use native.Mathlib.Omega.{arith}
use lib.ListN.{length, set, length-append}
use lib.Seq.{length-sets}
use Rattle.little_endian.specs.LittleEndian.{bytes_of, stored}
use Rattle.little_endian.specs.Runs.{run}
use Rattle.little_endian.specs.Wrote.{Wrote}
use Rattle.little_endian.proofs.LittleEndian.{sets_append, length_bytes_of}
use Rattle.little_endian.proofs.Runs.{run_none, run_more}

-- ---- what is put down
pub wrote_none : (l : List ℕ) (at : ℕ) → Wrote l l at [] at
wrote_none l at = record { is = refl; next = omega arith }

pub wrote_byte : (x : ℕ) {l : List ℕ} {at r : ℕ} → r ≡ at + 1 → Wrote l (set l at x) at (x ∷ []) r
wrote_byte x e = record { is = refl; next = e }

pub wrote_number : (w x : ℕ) {l l' : List ℕ} {at r : ℕ} → l' ≡ stored w l at x → r ≡ at + w → Wrote l l' at (bytes_of w x) r
unfolding stored
wrote_number w x e n = record { is = e; next = omega (arith, length_bytes_of w x) }

-- one after the other
pub wrote_then : {l₀ l₁ l₂ : List ℕ} {at p r : ℕ} {u v : List ℕ} → Wrote l₀ l₁ at u p → Wrote l₁ l₂ p v r → Wrote l₀ l₂ at (u ++ v) r
wrote_then {l₀ = l₀} {at = at} {u = u} {v = v} a b = record {
  is = b.is ∙ rw (a.is, a.next) (sym (sets_append u v l₀ at));
  next = omega (arith, length-append u v);
}

-- the same bytes by another name
pub wrote_as : {l l' : List ℕ} {at r : ℕ} {u v : List ℕ} → u ≡ v → Wrote l l' at u r → Wrote l l' at v r
wrote_as e w = rw (← e) w

-- the buffer keeps its length
pub wrote_length : {l l' : List ℕ} {at r : ℕ} {u : List ℕ} → Wrote l l' at u r → length l' ≡ length l
wrote_length w = ap length w.is ∙ simp length-sets

-- ---- a loop that puts down n parts of at most w bytes each, from place `at` of a buffer b₀ on: after k of them the buffer is b
pub record Putting (w n : ℕ) (parts : ℕ → List ℕ) (b₀ : List ℕ) (at : ℕ) (b : List ℕ) (place k : ℕ) : Type 0 where
  pub fits : at + w * n ≤ length b₀
  pub count : k ≤ n
  pub length_kept : length b ≡ length b₀
  pub here : place ≤ at + w * k
  pub wrote : Wrote b₀ b at (parts k) place

module _ {w n : ℕ} {parts : ℕ → List ℕ} {b₀ : List ℕ} {at : ℕ} where
  pub putting_none : at + w * n ≤ length b₀ → parts 0 ≡ [] → Putting w n parts b₀ at b₀ at 0
  putting_none h e = record { fits = h; count = omega arith; length_kept = refl; here = omega arith; wrote = rw e (wrote_none b₀ at) }

  module _ {b : List ℕ} {place k : ℕ} (s : Putting w n parts b₀ at b place k) where
    -- there is room for one more part
    pub room_more : k < n → place + w ≤ length b
    room_more h = omega (arith, s.fits, s.here, s.length_kept, mul-le-mul_left w h, mul-suc w k)

    pub putting_more : {b' part : List ℕ} {place' : ℕ} → k < n → Wrote b b' place part place' → place' ≤ place + w → parts (k + 1) ≡ parts k ++ part
        → Putting w n parts b₀ at b' place' (k + 1)
    putting_more h a l e = record {
      fits = s.fits;
      count = omega arith;
      length_kept = wrote_length a ∙ s.length_kept;
      here = omega (arith, s.here, l, mul-add w k 1);
      wrote = rw e (wrote_then s.wrote a);
    }

    pub putting_all : n ≤ k → Wrote b₀ b at (parts n) place
    putting_all h = let e : k ≡ n = omega (arith, s.count) in rw (← e) s.wrote

-- ---- a loop that puts down n numbers of w bytes each
module _ (w : ℕ) (f : ℕ → ℕ) {n : ℕ} {b₀ : List ℕ} {at : ℕ} where
  pub run_start : at + w * n ≤ length b₀ → Putting w n (λ k. run w k f) b₀ at b₀ at 0
  run_start h = putting_none h (run_none w f)

  -- one number more
  pub run_turn : {b b' : List ℕ} {place k x : ℕ} → Putting w n (λ k. run w k f) b₀ at b place k → k < n → b' ≡ stored w b place x → x ≡ f k
      → Putting w n (λ k. run w k f) b₀ at b' (place + w) (k + 1)
  run_turn {k = k} s h e v = putting_more s h (wrote_number w _ (e ∙ ap (stored w _ _) v) refl) (omega arith) (run_more w k f)
