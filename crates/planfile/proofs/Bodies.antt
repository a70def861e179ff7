-- The laws of kinds: their roles, and how long their bodies are.
use mathlib.Core.Path.{◌≡◌, refl, sym, ap, ◌∙◌}
use mathlib.Core.Bool.{Bool, true, false}
use mathlib.Core.Logic.{⊎_elim}
use mathlib.Core.List.{List, [], ◌∷◌}
use Prim.Native.Nat.{ℕ, zero, suc, ◌+◌, ◌≤◌, ◌<◌}
use native.Mathlib.Omega.{arith}
use borrow.Author.Rules.{rules}
use borrow.Author.Tests.{eqb-true, eq-eqb, ne_eqb}
use lib.Dec.{eqb}
use lib.ListN.{length, get_or}
use Rattle.whole.specs.Entry.{nth}
use Rattle.whole.specs.Test.{pick, all}
use Rattle.whole.proofs.Entry.{nth_outside}
use Rattle.whole.proofs.Laws.{ℕ_cases}
use Rattle.whole.proofs.Test.{all_at, false_true}
use Rattle.plan.specs.declared.Shape.{Shape}
use Rattle.planfile.specs.Kinds.{roles, role_of, sizes, size_of}
use Rattle.planfile.specs.Reading.{InRange}

-- ---- a number from a on that is none of the next n is past them
abbrev NoneOf : (a n kind : ℕ) → Type 0
NoneOf a zero kind = Unit
NoneOf a (suc n) kind = NoneOf a n kind × (kind ≡ a + n → ⊥)

pub past_from : (a n : ℕ) {kind : ℕ} → a ≤ kind → NoneOf a n kind → a + n ≤ kind
past_from a zero from p = omega arith
past_from a (suc n) {kind} from p =
    let l = past_from a n from p.0 in
    ⊎_elim (λ (h : a + n < kind). omega arith) (λ (h : kind ≤ a + n). absurd (p.1 (omega arith))) (ℕ_cases (a + n) kind)

pub past : (n : ℕ) {kind : ℕ} → NoneOf 0 n kind → n ≤ kind
past n p = omega (arith, past_from 0 n (omega arith) p)

-- ---- the kinds of a role
role_past : (kind : ℕ) → length roles < kind → role_of kind ≡ 0
unfolding role_of
role_past kind l = nth_outside 0 roles kind (λ h. l)

-- a kind fits two bytes
pub kind_few : (kind : ℕ) → 0 < role_of kind → kind < 65536
kind_few kind some = ⊎_elim
    (λ (l : length roles < kind). absurd (omega (arith, role_past kind l)))
    (λ (l : kind ≤ length roles). omega arith)
    (ℕ_cases (length roles) kind)

-- a test that every kind of a role passes; that it does is computed
pub role_only : (role : ℕ) (test : ℕ → Bool) → 0 < role → all (suc (length roles)) (λ k. pick (eqb (role_of k) role) (test k) true) ≡ true
    → (kind : ℕ) → role_of kind ≡ role → test kind ≡ true
role_only role test some e kind r = ⊎_elim
    (λ (l : kind < suc (length roles)).
    ap (λ (b : Bool). pick b (test kind) true) (sym (eq-eqb (role_of kind) role r)) ∙ all_at _ (λ k. pick (eqb (role_of k) role) (test k) true) kind l e)
    (λ (l : suc (length roles) ≤ kind). absurd (omega (arith, role_past kind (omega arith))))
    (ℕ_cases kind (suc (length roles)))

-- a role of one kind, whose number it is
abbrev pub Lone : (role : ℕ) → Type 0
Lone role = all (suc (length roles)) (λ k. pick (eqb (role_of k) role) (eqb k role) true) ≡ true

pub lone : (role : ℕ) → 0 < role → Lone role → {kind : ℕ} → role_of kind ≡ role → kind ≡ role
lone role some e {kind} r = eqb-true kind role (role_only role (λ k. eqb k role) some e kind r)

-- a role of two kinds: that whose number it is, and another
abbrev pub Paired : (role other : ℕ) → Type 0
Paired role other = all (suc (length roles)) (λ k. pick (eqb (role_of k) role) (eqb k (pick (eqb k other) other role)) true) ≡ true

pub paired : (role other : ℕ) → 0 < role → Paired role other → {kind : ℕ} → role_of kind ≡ role → kind ≡ pick (eqb kind other) other role
paired role other some e {kind} r =
    eqb-true kind (pick (eqb kind other) other role) (role_only role (λ k. eqb k (pick (eqb k other) other role)) some e kind r)

-- where a kind of the role can only be the role itself, the test of the one is that of the other
pub role_kind : (role kind : ℕ) → role_of role ≡ role → (role_of kind ≡ role → kind ≡ role) → eqb (role_of kind) role ≡ eqb kind role
role_kind role kind own only = go (eqb (role_of kind) role) refl
  where
    go : (b : Bool) → eqb (role_of kind) role ≡ b → b ≡ eqb kind role
    go true e = sym (eq-eqb kind role (only (eqb-true (role_of kind) role e)))
    go false e = sym (ne_eqb kind role (λ i. false_true (sym e ∙ eq-eqb (role_of kind) role (ap role_of i ∙ own))))

-- ---- the length of a body
-- what holds of every size, one after the other, holds of the size of every kind
abbrev Below : (b : ℕ → ℕ) → List ℕ → Type 0
Below b [] = Unit
Below b (x ∷ xs) = (x ≤ b 0) × Below (λ k. b (suc k)) xs

below_at : (b : ℕ → ℕ) (xs : List ℕ) → Below b xs → (k : ℕ) → get_or xs k 0 ≤ b k
below_at b [] e k = omega arith
below_at b (x ∷ xs) e zero = e.0
below_at b (x ∷ xs) e (suc k) = below_at (λ k. b (suc k)) xs e.1 k

-- no body of a role is longer, from role 1 on
abbrev pub longest : (role : ℕ) → ℕ
longest =
    nth 0
    (4
    ∷ 240
    ∷ 240
    ∷ 120
    ∷ 116
    ∷ 64
    ∷ 240
    ∷ 0
    ∷ 128
    ∷ [])

module _ (h : Shape) (r : InRange h) where
  pub size_most : (kind : ℕ) → size_of h kind ≤ longest (role_of kind)
  unfolding size_of role_of nth
  size_most zero = omega arith
  size_most (suc k) = below_at (λ k. longest (role_of (suc k))) (sizes h) (search rules) k

  -- it fits two bytes
  pub size_few : (kind : ℕ) → size_of h kind < 65536
  unfolding size_of nth
  size_few zero = omega arith
  size_few (suc k) = omega (arith, below_at (λ k. 65535) (sizes h) (search rules) k)

  -- what has no role has no body
  pub size_none : (kind : ℕ) → role_of kind ≡ 0 → size_of h kind ≡ 0
  unfolding nth
  size_none kind e = omega (arith, size_most kind, ap longest e)
