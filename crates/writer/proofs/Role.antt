-- Records by role: no role is past 9, 8 is none, and each but a pattern's is that of one kind, whose number it is.
use mathlib.Core.Path.{◌≡◌, refl, sym, ap, ◌∙◌}
use mathlib.Core.Bool.{Bool, true, not}
use mathlib.Core.Logic.{⊎_elim}
use Prim.Native.Nat.{ℕ, suc, ◌≤◌, ◌<◌}
use native.Mathlib.Omega.{arith}
use borrow.Author.Tests.{eqb-true, eq-eqb, ne_eqb, leb-true}
use lib.Dec.{eqb, leb}
use lib.ListN.{length}
use Rattle.whole.specs.Entry.{nth}
use Rattle.whole.specs.Test.{pick, all}
use Rattle.whole.proofs.Entry.{nth_outside}
use Rattle.whole.proofs.Laws.{ℕ_cases}
use Rattle.whole.proofs.Test.{all_at, false_true}
use Rattle.plan.specs.Held.{Held}
use Rattle.planfile.specs.Kinds.{roles, role_of}
use Rattle.planfile.specs.Groups.{groups_of, count_of}
use Rattle.planfile.specs.Records.{record_of}
use Rattle.planfile.proofs.Groups.{role_some}
use Rattle.planfile.proofs.Roles.{suits_held}

-- a test that every kind passes; that it does is computed
kind_passes : (test : ℕ → Bool) → all (suc (length roles)) test ≡ true → (kind : ℕ) → 0 < role_of kind → test kind ≡ true
unfolding role_of
kind_passes test e kind some = ⊎_elim
    (λ (l : length roles < kind). absurd (omega (arith, nth_outside 0 roles kind (λ h. l))))
    (λ (l : kind ≤ length roles). all_at (suc (length roles)) test kind (omega arith) e)
    (ℕ_cases (length roles) kind)

module _ (H : Held) (role j : ℕ) (l : j < count_of (groups_of H.shape) role) where
  abbrev kind : ℕ
  kind = (record_of H role j).kind

  stands : role_of kind ≡ role
  stands = (suits_held H role j l).stands

  some : 0 < role_of kind
  some = rw stands (role_some H.shape role j l)

  pub role_few : role ≤ 9
  unfolding role_of nth all
  role_few = rw stands at (leb-true (role_of kind) 9 (kind_passes (λ k. leb (role_of k) 9) refl kind some))

  -- a slope stands where a list does
  pub no_slope : role ≡ 8 → ⊥
  unfolding role_of nth all
  no_slope e = false_true (sym (ap not (eq-eqb (role_of kind) 8 (stands ∙ e))) ∙ kind_passes (λ k. not (eqb (role_of k) 8)) refl kind some)

  pub kind_own : (role ≡ 5 → ⊥) → kind ≡ role
  unfolding role_of nth all
  kind_own other =
      let tested = ne_eqb (role_of kind) 5 (λ e. other (sym stands ∙ e)) in
      let own = kind_passes (λ k. pick (eqb (role_of k) 5) true (eqb k (role_of k))) refl kind some in
      eqb-true kind (role_of kind) (ap (λ (b : Bool). pick b true (eqb kind (role_of kind))) (sym tested) ∙ own) ∙ stands
