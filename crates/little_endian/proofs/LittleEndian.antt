-- The laws of numbers in bytes, over the count n of bytes.
use mathlib.Core.Path.{◌≡◌, refl, sym, ap, ap₂, ◌∙◌}
use mathlib.Core.List.{List, [], ◌∷◌, ◌++◌, append_assoc}
use mathlib.Core.Logic.{◌⊎◌, inl, inr, ⊎_elim}
use Prim.Native.Nat.{ℕ, zero, suc, ◌+◌, ◌-◌, ◌*◌, ◌/◌, ◌%◌, ◌^◌, ◌≤◌, ◌<◌}
use native.Mathlib.Nat.{add-zero, zero-add, add-suc, suc-add, mul_assoc, pow-succ', one-le-pow}
use native.Mathlib.Nat.{mod-lt, mod-add-div, add-mul-mod_self_left, add-mul-div_left}
use native.Mathlib.Omega.{arith}
use lib.Dec.{lit<}
use lib.ListN.{length, get_or, take, drop, set, length-take, get_or-append, get_or-eq_default}
use lib.Seq.{take-nil, take_all, take_at, length-take-le, drop-cons, drop-drop, drop_at, drop-append_seam}
use lib.Seq.{get_or-take, get_or-drop, get_or-append-add, get_or-set_other, sets, sets-eq, length-sets}
use mir.Syntax.{w8}
use mir.Val.{Fits}
use Rattle.whole.proofs.Laws.{ℕ_cases}
use Rattle.little_endian.specs.LittleEndian.{Bytes, le_of, le_at, bytes_of, stored}

-- ---- stores in a list
-- one run after another
pub sets_append : (vs ws b : List ℕ) (at : ℕ) → sets b at (vs ++ ws) ≡ sets (sets b at vs) (at + length vs) ws
sets_append [] ws b at = rw add-zero
sets_append (v ∷ vs) ws b at = sets_append vs ws (set b at v) (suc at) ∙ rw (suc-add, add-suc)

-- a run leaves every other element
pub get_d_sets : (vs b : List ℕ) (at k : ℕ) → (k < at) ⊎ (at + length vs ≤ k) → get_or (sets b at vs) k 0 ≡ get_or b k 0
get_d_sets [] b at k h = refl
get_d_sets (v ∷ vs) b at k h =
    get_d_sets vs (set b at v) (suc at) k
    (⊎_elim (λ (l : k < at). inl (omega arith)) (λ (l : at + suc (length vs) ≤ k). inr (omega arith)) h)
    ∙ get_or-set_other b at k v 0 (λ e. ⊎_elim (λ (l : k < at). omega arith) (λ (l : at + suc (length vs) ≤ k). omega arith) h)

-- ---- lists of bytes
-- what is lent as bytes
pub bytes_lent : {s : List ℕ} → ((k : ℕ) → Fits w8 (get_or s k 0)) → Bytes s
bytes_lent fit = record { below = λ k. (fit k).fits }

pub bytes_drop : (n : ℕ) {s : List ℕ} → Bytes s → Bytes (drop n s)
bytes_drop n {s} b = record { below = λ k. rw get_or-drop (b.below (n + k)) }

pub bytes_take : (n : ℕ) {s : List ℕ} → Bytes s → Bytes (take n s)
bytes_take n {s} b = record {
  below = λ k.
      ⊎_elim
      (λ (h : k < n). rw get_or-take (b.below k))
      (λ (h : n ≤ k).
      let l : length (take n s) ≤ k = rw length-take (omega arith) in
      rw (get_or-eq_default (take n s) 0 l) (lit< tt))
      (ℕ_cases k n);
}

pub bytes_cons : {x : ℕ} {s : List ℕ} → x < 256 → Bytes s → Bytes (x ∷ s)
bytes_cons {x} {s} h b = record { below = each }
  where
    each : (k : ℕ) → get_or (x ∷ s) k 0 < 256
    each zero = h
    each (suc k) = b.below k

pub bytes_append : {s t : List ℕ} → Bytes s → Bytes t → Bytes (s ++ t)
bytes_append {s} {t} b d = record {
  below = λ k.
      ⊎_elim
      (λ (h : k < length s). rw (get_or-append s t 0 k h) (b.below k))
      (λ (h : length s ≤ k).
      let e : k ≡ length s + (k - length s) = omega arith in
      rw (e, get_or-append-add s t (k - length s) 0) (d.below (k - length s)))
      (ℕ_cases k (length s));
}

-- ---- reading
-- by the part of the list
pub le_at_part : (n at : ℕ) (s : List ℕ) → le_at n at s ≡ le_of (take n (drop at s))
unfolding le_at
le_at_part n at s = refl

pub le_at_none : (at : ℕ) (s : List ℕ) → le_at 0 at s ≡ 0
unfolding le_at le_of
le_at_none at s = refl

-- the lowest byte, and the rest
pub le_at_suc : (n at : ℕ) (s : List ℕ) → le_at (suc n) at s ≡ get_or s at 0 + 256 * le_at n (suc at) s
unfolding le_at le_of
le_at_suc n zero [] = rw (take-nil {A = ℕ} n)
le_at_suc n (suc at) [] = rw (take-nil {A = ℕ} n)
le_at_suc n zero (b ∷ s) = refl
le_at_suc n (suc at) (b ∷ s) = le_at_suc n at s

pub le_at_one : (at : ℕ) (s : List ℕ) → le_at 1 at s ≡ get_or s at 0
le_at_one at s = rw (le_at_suc, le_at_none) (omega arith)

-- the m lowest bytes, and the n next
pub le_at_add : (m n at : ℕ) (s : List ℕ) → le_at (m + n) at s ≡ le_at m at s + 256 ^ m * le_at n (at + m) s
le_at_add zero n at s = rw (zero-add, add-zero, le_at_none) (omega arith)
le_at_add (suc m) n at s =
    rw (suc-add, le_at_suc (m + n) at s, le_at_suc m at s, le_at_add m n (suc at) s, pow-succ', suc-add at m, add-suc at m)
    (omega (arith, mul_assoc 256 (256 ^ m) (le_at n (suc (at + m)) s)))

-- n bytes spell a number below 256^n
pub le_at_below : (n at : ℕ) {s : List ℕ} → Bytes s → le_at n at s < 256 ^ n
le_at_below zero at {s} h = rw le_at_none (omega arith)
le_at_below (suc n) at {s} h = rw le_at_suc (omega (arith, h.below at, le_at_below n (suc at) h, pow-succ' 256 n))

-- two lists with the same n bytes there
pub le_at_same : (n at : ℕ) (s t : List ℕ) → ((k : ℕ) → at ≤ k → k < at + n → get_or s k 0 ≡ get_or t k 0) →
    le_at n at s ≡ le_at n at t
le_at_same zero at s t h = rw (le_at_none at s, le_at_none at t)
le_at_same (suc n) at s t h =
    rw (le_at_suc n at s, le_at_suc n at t)
    (ap₂ (λ (b x : ℕ). b + 256 * x) (h at (omega arith) (omega arith))
    (le_at_same n (suc at) s t (λ k l r. h k (omega arith) (omega arith))))

-- in the part from place k on, and in the part before it
pub le_at_drop : (n at k : ℕ) (s : List ℕ) → le_at n at (drop k s) ≡ le_at n (k + at) s
unfolding le_at
le_at_drop n at k s = rw drop-drop

pub le_at_take : (n at k : ℕ) (s : List ℕ) → at + n ≤ k → le_at n at (take k s) ≡ le_at n at s
le_at_take n at k s h = le_at_same n at (take k s) s (λ j l r. get_or-take k s j 0 (omega arith))

-- in the first of two lists, and in the second
pub le_at_left : (n at : ℕ) (s t : List ℕ) → at + n ≤ length s → le_at n at (s ++ t) ≡ le_at n at s
le_at_left n at s t h = le_at_same n at (s ++ t) s (λ j l r. get_or-append s t 0 j (omega arith))

pub le_at_right : (n at : ℕ) (s t : List ℕ) → le_at n (length s + at) (s ++ t) ≡ le_at n at t
le_at_right n at s t = sym (le_at_drop n at (length s) (s ++ t)) ∙ ap (le_at n at) (drop-append_seam s t)

-- ---- the bytes of a number
pub length_bytes_of : (n x : ℕ) → length (bytes_of n x) ≡ n
unfolding bytes_of
length_bytes_of zero x = refl
length_bytes_of (suc n) x = ap suc (length_bytes_of n (x / 256))

-- each is a byte
pub bytes_bytes_of : (n x : ℕ) → Bytes (bytes_of n x)
unfolding bytes_of
bytes_bytes_of n x = record { below = each n x }
  where
    each : (n x k : ℕ) → get_or (bytes_of n x) k 0 < 256
    each zero x k = lit< tt
    each (suc n) x zero = mod-lt x (lit< tt)
    each (suc n) x (suc k) = each n (x / 256) k

-- the m lowest bytes, and the n next
bytes_of_append : (m n a b : ℕ) → a < 256 ^ m → bytes_of (m + n) (a + 256 ^ m * b) ≡ bytes_of m a ++ bytes_of n b
unfolding bytes_of
bytes_of_append zero n a b h = ap₂ bytes_of (zero-add n) (omega arith)
bytes_of_append (suc m) n a b h =
    let e : a + 256 ^ suc m * b ≡ a + 256 * (256 ^ m * b) = rw (pow-succ', mul_assoc) in
    let k : a / 256 < 256 ^ m = omega (arith, pow-succ' 256 m) in
    ap₂ bytes_of (suc-add m n) e
    ∙ ap₂ (λ (x : ℕ) (l : List ℕ). x ∷ l) (add-mul-mod_self_left a 256 (256 ^ m * b))
    (ap (bytes_of (m + n)) (add-mul-div_left a (256 ^ m * b) (lit< tt)) ∙ bytes_of_append m n (a / 256) b k)

bytes_of_add : (m n x : ℕ) → bytes_of (m + n) x ≡ bytes_of m (x % 256 ^ m) ++ bytes_of n (x / 256 ^ m)
bytes_of_add m n x =
    ap (bytes_of (m + n)) (sym (mod-add-div x (256 ^ m)))
    ∙ bytes_of_append m n (x % 256 ^ m) (x / 256 ^ m) (mod-lt x (one-le-pow m 256 (lit< tt)))

-- the bytes of a number spell it
pub le_of_bytes_of : (n x : ℕ) → x < 256 ^ n → le_of (bytes_of n x) ≡ x
unfolding le_of bytes_of
le_of_bytes_of zero x h = omega arith
le_of_bytes_of (suc n) x h =
    let k : x / 256 < 256 ^ n = omega (arith, pow-succ' 256 n) in
    ap (λ (z : ℕ). x % 256 + 256 * z) (le_of_bytes_of n (x / 256) k) ∙ mod-add-div x 256

pub le_at_bytes_of : (n x : ℕ) → x < 256 ^ n → le_at n 0 (bytes_of n x) ≡ x
le_at_bytes_of n x h = rw (le_at_part, take_all n (bytes_of n x) (omega (arith, length_bytes_of n x))) (le_of_bytes_of n x h)

-- and so do they between other bytes
pub le_at_between : (n x at : ℕ) (s t : List ℕ) → length s ≡ at → x < 256 ^ n → le_at n at (s ++ (bytes_of n x ++ t)) ≡ x
le_at_between n x at s t e h =
    let b : at ≡ length s + 0 = omega arith in
    rw (b, le_at_right n 0 s (bytes_of n x ++ t), le_at_left n 0 (bytes_of n x) t (omega (arith, length_bytes_of n x))) (le_at_bytes_of n x h)

-- what is read is written again
pub bytes_of_le_at : (n at : ℕ) {s : List ℕ} → Bytes s → at + n ≤ length s → bytes_of n (le_at n at s) ≡ take n (drop at s)
unfolding bytes_of
bytes_of_le_at zero at {s} h r = refl
bytes_of_le_at (suc n) at {s} h r =
    let b : get_or s at 0 < 256 = h.below at in
    let l : at < length s = omega arith in
    rw (le_at_suc, drop-cons s at 0)
    (ap₂ (λ (x : ℕ) (t : List ℕ). x ∷ t) (omega arith) (ap (bytes_of n) (omega arith) ∙ bytes_of_le_at n (suc at) h (omega arith)))

-- ---- storing
pub length_stored : (n : ℕ) (b : List ℕ) (at x : ℕ) → length (stored n b at x) ≡ length b
unfolding stored
length_stored n b at x = length-sets b at (bytes_of n x)

-- the bytes that are there then
pub stored_part : (n : ℕ) (b : List ℕ) (at x : ℕ) → at + n ≤ length b → take n (drop at (stored n b at x)) ≡ bytes_of n x
unfolding stored
stored_part n b at x h =
    let r : at + length (bytes_of n x) ≤ length b = rw length_bytes_of h in
    let f : length (take at b) ≡ at = length-take-le at b (omega arith) in
    let g : length (bytes_of n x) ≡ n = length_bytes_of n x in
    rw (sets-eq, append_assoc, drop_at, take_at)

-- what is written is read back
pub le_at_stored : (n : ℕ) (b : List ℕ) (at x : ℕ) → at + n ≤ length b → x < 256 ^ n → le_at n at (stored n b at x) ≡ x
le_at_stored n b at x h f = rw (le_at_part, stored_part) (le_of_bytes_of n x f)

pub stored_one : (b : List ℕ) (at x : ℕ) → x < 256 → stored 1 b at x ≡ set b at x
unfolding stored bytes_of
stored_one b at x h = ap (set b at) (omega arith)

-- the m lowest bytes, and then the n next
pub stored_add : (m n : ℕ) (b : List ℕ) (at x : ℕ) → stored (m + n) b at x ≡ stored n (stored m b at (x % 256 ^ m)) (at + m) (x / 256 ^ m)
unfolding stored
stored_add m n b at x = rw (bytes_of_add, sets_append, length_bytes_of)

-- every other byte is as it was
pub get_D_stored : (n : ℕ) (b : List ℕ) (at x k : ℕ) → (k < at) ⊎ (at + n ≤ k) → get_or (stored n b at x) k 0 ≡ get_or b k 0
unfolding stored
get_D_stored n b at x k h = get_d_sets (bytes_of n x) b at k (rw length_bytes_of h)

-- and so is every number in the other bytes
pub le_at_elsewhere : (n : ℕ) (b : List ℕ) (at x m k : ℕ) → (k + m ≤ at) ⊎ (at + n ≤ k) → le_at m k (stored n b at x) ≡ le_at m k b
le_at_elsewhere n b at x m k h =
    le_at_same m k (stored n b at x) b
    (λ j l r. get_D_stored n b at x j (⊎_elim (λ (a : k + m ≤ at). inl (omega arith)) (λ (a : at + n ≤ k). inr (omega arith)) h))
