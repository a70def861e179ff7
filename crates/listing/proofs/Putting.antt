-- The laws of a text that stands in a buffer.
use mathlib.Core.Path.{◌≡◌, refl, sym, ap, ◌∙◌}
use mathlib.Core.List.{List, [], ◌++◌}
use Prim.Native.Nat.{ℕ, ◌+◌, ◌*◌, ◌≤◌, ◌<◌}
use native.Mathlib.Omega.{arith}
use lib.ListN.{length, drop}
use lib.Seq.{sets-eq, length-take-le}
use Rattle.io.specs.Counts.{IsPrefixLen}
use Rattle.little_endian.specs.Wrote.{Wrote}
use Rattle.little_endian.proofs.Wrote.{wrote_length, wrote_none, wrote_then, wrote_as, Putting, putting_none, putting_more, putting_all, room_more}
use Rattle.listing.specs.declared.Text.{Text}
use Rattle.listing.specs.Putting.{Free, Put, Listed}

-- ---- a text that grows
-- what was put leaves so many more bytes
pub free_rest : {t u : Text} {bytes : List ℕ} {most : ℕ} → Put t u bytes most → (more : ℕ) → Free t (most + more) → Free u more
free_rest p more f = record { fits = omega (arith, f.fits, p.few, p.kept) }

pub put_none : (t : Text) → Put t t [] 0
put_none t = record { wrote = wrote_none _ _; few = omega arith; kept = refl; same = refl }

-- one after the other
pub put_then : {t u v : Text} {a b : List ℕ} {m n : ℕ} → Put t u a m → Put u v b n → Put t v (a ++ b) (m + n)
put_then p q = record { wrote = wrote_then p.wrote q.wrote; few = omega (arith, p.few, q.few); kept = q.kept ∙ p.kept; same = q.same ∙ p.same }

-- the same bytes by another name
pub put_as : {t u : Text} {a b : List ℕ} {most : ℕ} → a ≡ b → Put t u a most → Put t u b most
put_as e p = record { wrote = wrote_as e p.wrote; few = p.few; kept = p.kept; same = p.same }

-- a larger bound
pub put_few : {t u : Text} {bytes : List ℕ} {few most : ℕ} → few ≤ most → Put t u bytes few → Put t u bytes most
put_few h p = record { wrote = p.wrote; few = omega (arith, p.few); kept = p.kept; same = p.same }

-- a loop that puts down n parts of at most w bytes each: before it, a turn of it, after it
pub record Partly (w n : ℕ) (parts : ℕ → List ℕ) (t u : Text) (k : ℕ) : Type 0 where
  pub putting : Putting w n parts t.buffer.now t.at u.buffer.now u.at k
  pub same : u.buffer.ghost_name ≡ t.buffer.ghost_name

module _ {w n : ℕ} {parts : ℕ → List ℕ} {t : Text} where
  pub partly_none : Free t (w * n) → parts 0 ≡ [] → Partly w n parts t t 0
  partly_none f e = record { putting = putting_none f.fits e; same = refl }

  module _ {u : Text} {k : ℕ} (s : Partly w n parts t u k) where
    pub free_more : k < n → Free u w
    free_more h = record { fits = room_more s.putting h }

    pub partly_more : {v : Text} {part : List ℕ} → k < n → Put u v part w → parts (k + 1) ≡ parts k ++ part → Partly w n parts t v (k + 1)
    partly_more h p e = record { putting = putting_more s.putting h p.wrote p.few e; same = p.same ∙ s.same }

    pub partly_all : n ≤ k → Put t u (parts n) (w * n)
    partly_all h = record { wrote = putting_all s.putting h; few = let e : k ≡ n = omega (arith, s.putting.count) in rw (← e) s.putting.here; kept = s.putting.length_kept; same = s.same }

-- ---- a whole text
-- it is listed, and r counts bytes of the buffer
pub listed : {text l l' : List ℕ} {r : ℕ} → r ≤ 32_768 → 32_768 ≡ length l → Wrote l l' 0 text r → Listed text l l' r × IsPrefixLen r l'
listed {l' = l'} {r = r} h e a =
    let few : r ≤ length l' = omega (arith, wrote_length a) in
    (record { size = omega (arith, a.next); few = h; is = a.is }, (few, sym (length-take-le r l' few)))

-- every other byte is as it was
pub listed_parts : {text l l' : List ℕ} {r : ℕ} → 32_768 ≤ length l → Listed text l l' r → l' ≡ text ++ drop r l
listed_parts {text} {l} {r = r} h a =
    let e : 0 + length text ≡ r = omega (arith, a.size) in
    a.is ∙ sets-eq text l 0 (omega (arith, a.few)) ∙ ap (λ (k : ℕ). text ++ drop k l) e
