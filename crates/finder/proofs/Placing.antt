-- The recursion over the instruments left, and its loop over the parts of one instrument.
use mathlib.Core.Path.{◌≡◌, refl, ap, ◌∙◌, sym}
use mathlib.Core.Bool.{Bool, true, false}
use mathlib.Core.List.{List, [], ◌∷◌, ◌++◌}
use Prim.Native.Nat.{ℕ, zero, suc, ◌+◌, ◌-◌, ◌*◌, ◌≤◌, ◌<◌}
use native.Mathlib.Nat.{mul-le-mul_right, add-mul}
use native.Mathlib.Numerals.{add-one}
use native.Mathlib.Omega.{arith}
use borrow.Author.Tests.{eqb-true, eqb-false}
use lib.Dec.{eqb}
use lib.ListN.{length, get_or, set, length-set}
use lib.Seq.{get_or-set_same, get_or-set_other}
use Rattle.whole.specs.Range.{million}
use Rattle.whole.specs.Sum.{sum_ℕ}
use Rattle.whole.specs.Test.{pick}
use Rattle.whole.proofs.Sum.{sum_ℕ_turn, sum_ℕ_cong, sum_ℕ_past}
use Rattle.finder.specs.Answers.{FindAnswer}
use Rattle.finder.specs.Grid.{down_from}
use Rattle.finder.specs.Find.{not_found, first_that}
use Rattle.finder.specs.Placing.{Placing, placements}
use Rattle.finder.proofs.First.{hit, first_found, first_later}

-- ---- shares one after the other
-- a place of an array with another share at one
pub set_at : (l : List ℕ) (at v k y : ℕ) → at < length l → (k ≡ at → y ≡ v) → ((k ≡ at → ⊥) → y ≡ get_or l k 0) → y ≡ get_or (set l at v) k 0
set_at l at v k y room here else = go (eqb k at) refl
  where
    go : (b : Bool) → eqb k at ≡ b → y ≡ get_or (set l at v) k 0
    go true e = let is = eqb-true k at e in here is ∙ sym (get_or-set_same l at v 0 room) ∙ ap (λ (j : ℕ). get_or (set l at v) j 0) (sym is)
    go false e = let other = eqb-false k at e in else other ∙ sym (get_or-set_other l at k v 0 other)

-- the first shares, with one more at their end
pub sum_set : (l : List ℕ) (at v : ℕ) → at < length l → sum_ℕ (at + 1) (λ j. get_or (set l at v) j 0) ≡ sum_ℕ at (λ j. get_or l j 0) + v
sum_set l at v h =
    sym (sum_ℕ_turn (λ j. get_or (set l at v) j 0) at
    (sum_ℕ_cong at (λ j. get_or l j 0) (λ j. get_or (set l at v) j 0) (λ k b. sym (get_or-set_other l at k v 0 (λ e. omega arith))))
    (sym (get_or-set_same l at v 0 h)))

-- s of the parts left, and what is left then
parts_left : (s parts unit k : ℕ) → s ≤ parts → k + s * unit + (parts - s) * unit ≡ k + parts * unit
parts_left s parts unit k l =
    let e : (parts - s) + s ≡ parts = omega arith in
    let f : (parts - s) * unit + s * unit ≡ parts * unit = sym (add-mul (parts - s) s unit) ∙ ap (λ (a : ℕ). a * unit) e in
    omega arith

module _ {n : ℕ} {shares : List ℕ} {at others parts unit : ℕ} (h : Placing n shares at others parts unit) where
  -- a share of s parts is at most 1,000,000
  pub share_fits : (s : ℕ) → s ≤ parts → s * unit ≤ million
  share_fits s l = let m = mul-le-mul_right unit l in omega (arith, h.whole)

  pub place_few : n ≤ 4 → at < 4
  place_few few = omega (arith, h.places)

  -- with all parts on the last instrument the shares come to 1,000,000
  pub last_whole : n ≤ 4 → others ≡ 0 → {last : List ℕ} → last ≡ set shares at (parts * unit) → sum_ℕ n (λ j. get_or last j 0) ≡ million
  last_whole few none {last} e =
      let p : n ≡ at + 1 = omega (arith, h.places) in
      ap (λ (m : ℕ). sum_ℕ m (λ j. get_or last j 0)) p
      ∙ ap (λ (l : List ℕ). sum_ℕ (at + 1) (λ j. get_or l j 0)) e
      ∙ sum_set shares at (parts * unit) (omega (arith, h.places, h.array)) ∙ h.whole

  -- and so do the four of the array
  pub last_four : n ≤ 4 → others ≡ 0 → {last : List ℕ} → last ≡ set shares at (parts * unit) → sum_ℕ 4 (λ j. get_or last j 0) ≡ million
  last_four few none {last} e =
      let p : n + (4 - n) ≡ 4 = omega arith in
      ap (λ (m : ℕ). sum_ℕ m (λ j. get_or last j 0)) (sym p)
      ∙ sum_ℕ_past n (4 - n) (λ j. get_or last j 0) (λ k l. ap (λ (l : List ℕ). get_or l k 0) e ∙ get_or-set_other shares at k (parts * unit) 0 (λ z. omega (arith, h.places)) ∙ h.behind k (omega (arith, h.places)))
      ∙ last_whole few none e

  -- with at most the parts left on this one the four shares of the array come to at most 1,000,000
  pub set_few : n ≤ 4 → (v : ℕ) → v ≤ parts * unit → sum_ℕ 4 (λ j. get_or (set shares at v) j 0) ≤ million
  set_few few v l =
      let four : at + 1 + (3 - at) ≡ 4 = omega (arith, h.places) in
      let s : ℕ → ℕ = λ j. get_or (set shares at v) j 0 in
      let e = ap (λ (m : ℕ). sum_ℕ m s) (sym four)
      ∙ sum_ℕ_past (at + 1) (3 - at) s (λ k b. get_or-set_other shares at k v 0 (λ z. omega arith) ∙ h.behind k (omega arith))
      ∙ sum_set shares at v (omega (arith, h.places, h.array)) in
      omega (arith, e, h.whole)

  -- and with s of them on this one the others can be placed
  pub next_placing : n ≤ 4 → (others ≡ 0 → ⊥) → (s : ℕ) → s ≤ parts → {next : List ℕ} → next ≡ set shares at (s * unit) → Placing n next (at + 1) (others - 1) (parts - s) unit
  next_placing few some s l {next} e =
      let room : at < length shares = omega (arith, h.places, h.array) in
      record {
        places = omega (arith, h.places);
        array = ap (λ (l : List ℕ). length l) e ∙ length-set shares at (s * unit) ∙ h.array;
        few = omega (arith, h.few);
        behind = λ j b. ap (λ (l : List ℕ). get_or l j 0) e ∙ get_or-set_other shares at j (s * unit) 0 (λ z. omega arith) ∙ h.behind j (omega arith);
        whole = ap (λ (l : List ℕ). sum_ℕ (at + 1) (λ j. get_or l j 0) + (parts - s) * unit) e
            ∙ ap (λ (k : ℕ). k + (parts - s) * unit) (sum_set shares at (s * unit) room)
            ∙ parts_left s parts unit (sum_ℕ at (λ j. get_or shares j 0)) l ∙ h.whole;
      }

-- ---- lists one behind the other
down_next : {A : Type 0} (s : ℕ) (f : ℕ → List A) → 0 < s → down_from s f ≡ f (s - 1) ++ down_from (s - 1) f
unfolding down_from
down_next zero f h = absurd (omega arith)
down_next (suc s) f h = let e : s ≡ suc s - 1 = omega arith in ap (λ (k : ℕ). f k ++ down_from k f) e

-- what is placed where the instrument at a place takes s parts
abbrev pub behind : (unit : ℕ) (shares : List ℕ) (at others parts s : ℕ) → List (List ℕ)
behind unit shares at others parts s = placements unit (set shares at (s * unit)) (at + 1) (others - 1) (parts - s)

placements_last : (unit : ℕ) (shares : List ℕ) (at others parts : ℕ) → others ≡ 0 → set shares at (parts * unit) ∷ [] ≡ placements unit shares at others parts
unfolding placements
placements_last unit shares at zero parts e = refl
placements_last unit shares at (suc n) parts e = absurd (omega arith)

placements_more : (unit : ℕ) (shares : List ℕ) (at others parts : ℕ) → (others ≡ 0 → ⊥) → placements unit shares at others parts ≡ down_from (parts + 1) (behind unit shares at others parts)
unfolding placements
placements_more unit shares at zero parts h = absurd (h refl)
placements_more unit shares at (suc n) parts h =
    let e : n ≡ suc n - 1 = omega arith in
    ap (λ (m : ℕ). down_from (suc parts) (λ s. placements unit (set shares at (s * unit)) (at + 1) m (parts - s))) e
    ∙ ap (λ (k : ℕ). down_from k (behind unit shares at (suc n) parts)) (sym (add-one parts))

module _ (test : List ℕ → Bool) (shares : List ℕ) (at others parts unit : ℕ) where
  abbrev whole : FindAnswer
  whole = first_that test (placements unit shares at others parts)

  -- ---- the last instrument takes what is left
  pub last_tells : others ≡ 0 → {last : List ℕ} → last ≡ set shares at (parts * unit) → pick (test last) (hit last) (not_found 0) ≡ whole
  unfolding first_that
  last_tells e {last} put = ap (λ (l : List ℕ). first_that test (l ∷ [])) put ∙ ap (first_that test) (placements_last unit shares at others parts e)

  -- ---- the loop: what is left to try, fewer than s parts on this instrument, decides the whole
  pub record Trying (s : ℕ) : Type 0 where
    pub upto : s ≤ parts + 1
    pub same : first_that test (down_from s (behind unit shares at others parts)) ≡ whole

  pub try_start : (others ≡ 0 → ⊥) → Trying (parts + 1)
  try_start some = record { upto = omega arith; same = ap (first_that test) (sym (placements_more unit shares at others parts some)) }

  module _ {s : ℕ} (turn : 0 < s) (t : Trying s) {next : List ℕ} {a : FindAnswer}
      (put : next ≡ set shares at ((s - 1) * unit)) (gave : a ≡ first_that test (placements unit next (at + 1) (others - 1) (parts - (s - 1)))) where
    abbrev first : List (List ℕ)
    first = behind unit shares at others parts (s - 1)

    abbrev rest : List (List ℕ)
    rest = down_from (s - 1) (behind unit shares at others parts)

    here : a ≡ first_that test first
    here = gave ∙ ap (λ (l : List ℕ). first_that test (placements unit l (at + 1) (others - 1) (parts - (s - 1)))) put

    both : first_that test (first ++ rest) ≡ whole
    both = ap (first_that test) (sym (down_next s (behind unit shares at others parts) turn)) ∙ t.same

    pub try_found : a.found ≡ true → a ≡ whole
    try_found f = here ∙ first_found test first rest (ap (λ (a : FindAnswer). a.found) (sym here) ∙ f) ∙ both

    pub try_turn : a.found ≡ false → Trying (s - 1)
    try_turn f = record { upto = omega (arith, t.upto); same = first_later test first rest (ap (λ (a : FindAnswer). a.found) (sym here) ∙ f) ∙ both }

  pub try_end : (s : ℕ) → s ≤ 0 → Trying s → not_found 0 ≡ whole
  unfolding first_that down_from
  try_end zero h t = t.same
  try_end (suc s) h t = absurd (omega arith)
