-- Checks 4 and 5 by the records that a walk gives: what fails them, and what passes.
use mathlib.Core.Path.{◌≡◌, refl, sym, ap, ◌∙◌}
use mathlib.Core.Bool.{Bool, true, false}
use mathlib.Core.List.{List}
use mathlib.Core.Logic.{⊎_elim}
use Prim.Native.Nat.{ℕ, ◌≤◌, ◌<◌}
use native.Mathlib.Omega.{arith}
use borrow.Author.Tests.{eq-eqb, ne_eqb}
use lib.Dec.{eqb}
use lib.ListN.{length}
use Rattle.std.specs.Prelude.{Option, None}
use Rattle.whole.specs.Test.{all}
use Rattle.whole.proofs.Laws.{ℕ_cases}
use Rattle.whole.proofs.Test.{both_first, all_at, all_yes, all_fails, false_true}
use Rattle.records.specs.Cursor.{whole_at, place}
use Rattle.records.proofs.Cursor.{none_later, whole_no}
use Rattle.plan.specs.declared.Shape.{Shape}
use Rattle.planfile.specs.declared.Spot as spot
use Rattle.planfile.specs.Kinds.{role_of}
use Rattle.planfile.specs.Groups.{Group, Spot, groups_of, total, spot_at, spot_shown}
use Rattle.planfile.specs.Checks.{has_role, role_ok, roles_ok, size_ok, sizes_ok}
use Rattle.planfile.proofs.Checks.{has_none, roles_consist, roles_fail}
use Rattle.planfile.proofs.Groups.{spot_back, role_some}
use Rattle.reader.specs.declared.Entry.{Entry}
use Rattle.reader.proofs.Walks.{Stands, role_stands}

module _ (s : List ℕ) (gs : List Group) where
  -- a file that passes check 4 has no record past the last spot
  pub none_past : roles_ok s gs ≡ true → (t : ℕ) → total gs ≤ t → whole_at s (place s t) ≡ false
  none_past e t h = none_later s (total gs) t h (whole_no s (place s (total gs)) (omega (arith, (roles_consist s gs e).ends)))

  -- so one that has some fails
  pub past_fails : (t : ℕ) → total gs ≤ t → whole_at s (place s t) ≡ true → roles_ok s gs ≡ false
  past_fails t h w = go (roles_ok s gs) refl
    where
      go : (b : Bool) → roles_ok s gs ≡ b → b ≡ false
      go true e = absurd (false_true (sym (none_past e t h) ∙ w))
      go false e = refl

  -- one fails that has too few
  pub missing_fails : (t : ℕ) → t < total gs → whole_at s (place s t) ≡ false → roles_ok s gs ≡ false
  unfolding role_ok
  missing_fails t l w = roles_fail s gs t l (has_none s t (spot_at gs t).role w)

  module _ {t : ℕ} {entry : Entry} (f : Stands s t entry) where
    pub role_is : role_ok s gs t ≡ eqb (role_of entry.kind) (spot_at gs t).role
    unfolding role_ok
    role_is = role_stands f (spot_at gs t).role

    -- and one whose record t has another role
    pub other_fails : eqb (role_of entry.kind) (spot_at gs t).role ≡ false → roles_ok s gs ≡ false
    other_fails e = ⊎_elim
        (λ (l : t < total gs). roles_fail s gs t l (role_is ∙ e))
        (λ (l : total gs ≤ t). past_fails t l f.whole)
        (ℕ_cases t (total gs))

  -- the records seen are all that are wanted, or not
  module _ (seen : ℕ) (passed : all seen (role_ok s gs) ≡ true) where
    pub all_seen : seen ≡ total gs → place s seen ≡ length s → roles_ok s gs ≡ true
    unfolding roles_ok
    all_seen i e = rw (← i, passed) (eq-eqb _ _ e)

    pub not_at_end : seen ≡ total gs → (place s seen ≡ length s → ⊥) → roles_ok s gs ≡ false
    unfolding roles_ok
    not_at_end i e = rw (← i, passed) (ne_eqb _ _ e)

    pub not_all : (seen ≡ total gs → ⊥) → whole_at s (place s seen) ≡ false → roles_ok s gs ≡ false
    unfolding role_ok has_role
    not_all n w = ⊎_elim
        (λ (l : seen < total gs). missing_fails seen l w)
        (λ (l : total gs ≤ seen). past_fails (total gs) (omega arith) (both_first _ _ (all_at seen (role_ok s gs) (total gs) (omega arith) passed)))
        (ℕ_cases seen (total gs))

-- a record without a spot
pub spotless : (h : Shape) (t : ℕ) {found : Option spot.Spot} → spot_shown found ≡ spot_at (groups_of h) t → found ≡ None → total (groups_of h) ≤ t
spotless h t e n = ⊎_elim
    (λ (l : t < total (groups_of h)).
    let z : record { role = 0; index = 0 } ≡ spot_at (groups_of h) t = ap spot_shown (sym n) ∙ e in
    let some = role_some h (spot_at (groups_of h) t).role (spot_at (groups_of h) t).index (spot_back h t l).index in
    absurd (omega (arith, some, ap (λ (x : Spot). x.role) z)))
    (λ (l : total (groups_of h) ≤ t). l)
    (ℕ_cases t (total (groups_of h)))

-- ---- check 5, of a file that passes check 4
module _ (s : List ℕ) (h : Shape) (e : roles_ok s (groups_of h) ≡ true) where
  pub size_fails : {t : ℕ} {entry : Entry} → Stands s t entry → size_ok s h t ≡ false → sizes_ok s h ≡ false
  unfolding sizes_ok
  size_fails {t} f n = ⊎_elim
      (λ (l : t < total (groups_of h)). all_fails (total (groups_of h)) (size_ok s h) t l n)
      (λ (l : total (groups_of h) ≤ t). absurd (false_true (sym (none_past s (groups_of h) e t l) ∙ f.whole)))
      (ℕ_cases t (total (groups_of h)))

  pub sizes_pass : (t : ℕ) → whole_at s (place s t) ≡ false → all t (size_ok s h) ≡ true → sizes_ok s h ≡ true
  unfolding sizes_ok
  sizes_pass t w a = ⊎_elim
      (λ (l : t < total (groups_of h)). absurd (false_true (sym w ∙ (roles_consist s (groups_of h) e).whole t l)))
      (λ (l : total (groups_of h) ≤ t). all_yes _ _ (λ k m. all_at t (size_ok s h) k (omega arith) a))
      (ℕ_cases t (total (groups_of h)))
