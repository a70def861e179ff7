-- A file that holds no money already invested, no cost at the horizon and no slope is one of document 01: a group of no records plays no part, and a role of
-- which only one kind stands is that kind.
use mathlib.Core.Path.{◌≡◌, refl, sym, ap, ap₂, ◌∙◌, subst, fun_ext}
use mathlib.Core.Bool.{Bool, false}
use mathlib.Core.List.{List, [], ◌∷◌, ◌++◌}
use Prim.Native.Nat.{ℕ, ◌+◌, ◌-◌, ◌<◌}
use native.Mathlib.Omega.{arith}
use borrow.Author.Tests.{ne_eqb}
use lib.Dec.{ltb, eqb}
use lib.ListN.{length}
use Rattle.whole.specs.Entry.{nth}
use Rattle.whole.specs.Test.{pick, both, all}
use Rattle.whole.proofs.Entry.{entry_at}
use Rattle.whole.proofs.Test.{all_cong}
use Rattle.records.specs.Cursor.{whole_at, place, kind_at}
use Rattle.plan.specs.declared.Shape.{Shape}
use Rattle.plan.specs.Held.{HeldPattern, PlainHeld, unheld_pattern}
use Rattle.planfile.specs.Groups.{Group}
use Rattle.planfile.specs.Groups.{Spot}
use Rattle.planfile.specs.Kinds.{role_of}
use Rattle.planfile.specs.Groups.{many, one, groups_of, total, spot_at, count_of, place_of}
use Rattle.planfile.specs.Rows.{pattern_in}
use Rattle.planfile.specs.Checks.{shape_in, has_role, role_ok, roles_ok, size_ok, sizes_ok}
use Rattle.planfile.specs.Records.{record_in, held_of, held_in}
use Rattle.planfile.specs.Plain.{groups_plain, PlainFile, kinds_plain, PlainKinds}
use Rattle.planfile.proofs.Bodies.{Lone, lone, paired, role_kind}
use Rattle.planfile.proofs.Groups.{spot_past, ◌▸◌, each_role, spot_back}

-- ---- a group of none, between others
module _ (r : ℕ) (hs : List Group) where
  total_skip : (gs : List Group) → total (gs ++ (many r 0 ∷ hs)) ≡ total (gs ++ hs)
  unfolding total
  total_skip [] = omega arith
  total_skip (g ∷ gs) = ap (λ (n : ℕ). g.count + n) (total_skip gs)

  spot_skip : (gs : List Group) (t : ℕ) → spot_at (gs ++ (many r 0 ∷ hs)) t ≡ spot_at (gs ++ hs) t
  unfolding spot_at
  spot_skip [] t = let e : t - 0 ≡ t = omega arith in spot_past (many r 0) hs t (omega arith) ∙ ap (spot_at hs) e
  spot_skip (g ∷ gs) t = ap (λ (s : Spot). pick (ltb t g.count) (record { role = g.role; index = t }) s) (spot_skip gs (t - g.count))

  place_skip : (gs : List Group) (role j : ℕ) → (role ≡ r → ⊥) → place_of (gs ++ (many r 0 ∷ hs)) role j ≡ place_of (gs ++ hs) role j
  unfolding place_of
  place_skip [] role j n = rw (ne_eqb r role (λ e. n (sym e))) (omega arith)
  place_skip (g ∷ gs) role j n = ap (λ (p : ℕ). pick (eqb g.role role) j (g.count + p)) (place_skip gs role j n)

-- ---- the groups of a shape that holds neither of the two kinds that may be absent
module _ (h : Shape) (unopened : h.opened ≡ false) (uncosted : h.costed ≡ false) where
  abbrev before : List Group
  before = one 1 ∷ many 2 h.instruments ∷ one 3 ∷ []

  abbrev after : List Group
  after = one 4 ∷ many 5 h.patterns ∷ one 6 ∷ []

  same_total : total (groups_of h) ≡ total (groups_plain h)
  unfolding groups_of groups_plain
  same_total = rw (unopened, uncosted) (total_skip 7 (many 9 0 ∷ after) before ∙ total_skip 9 after before)

  same_spot : (t : ℕ) → spot_at (groups_of h) t ≡ spot_at (groups_plain h) t
  unfolding groups_of groups_plain
  same_spot t = rw (unopened, uncosted) (spot_skip 7 (many 9 0 ∷ after) before t ∙ spot_skip 9 after before t)

  same_place : (role j : ℕ) → (role ≡ 7 → ⊥) → (role ≡ 9 → ⊥) → place_of (groups_of h) role j ≡ place_of (groups_plain h) role j
  unfolding groups_of groups_plain
  same_place role j seven nine =
      rw (unopened, uncosted) (place_skip 7 (many 9 0 ∷ after) before role j seven ∙ place_skip 9 after before role j nine)

-- groups with the same records pass the same test of each record by its role
same_test : (s : List ℕ) (test : (t role : ℕ) → Bool) (gs hs : List Group) → total gs ≡ total hs → ((t : ℕ) → spot_at gs t ≡ spot_at hs t)
    → both (all (total gs) (λ t. test t (spot_at gs t).role)) (eqb (place s (total gs)) (length s))
    ≡ both (all (total hs) (λ t. test t (spot_at hs t).role)) (eqb (place s (total hs)) (length s))
same_test s test gs hs count spots =
    ap₂ (λ (n : ℕ) (ok : ℕ → Bool). both (all n ok) (eqb (place s n) (length s))) count
    (fun_ext (λ t. ap (λ (spot : Spot). test t spot.role) (spots t)))

pub plain_file : (s : List ℕ) → (shape_in s).opened ≡ false → (shape_in s).costed ≡ false → PlainFile s
unfolding roles_ok role_ok sizes_ok
plain_file s o c =
    let h = shape_in s in
    record {
      kinds = same_test s (has_role s) (groups_of h) (groups_plain h) (same_total h o c) (same_spot h o c);
      sizes = ap (λ (n : ℕ). all n (size_ok s h)) (same_total h o c);
      places = same_place h o c;
    }

-- ---- where no pattern is a slope, a record's role is its kind
module _ (s : List ℕ) (plain : PlainHeld (held_in s)) where
  abbrev h : Shape
  h = shape_in s

  abbrev at : (role j : ℕ) → ℕ
  at = place_of (groups_of h)

  abbrev kind : (role j : ℕ) → ℕ
  kind role j = kind_at s (at role j)

  no_slope : (j : ℕ) → j < h.patterns → eqb (kind 5 j) 8 ≡ false
  unfolding held_in held_of record_in pattern_in
  no_slope j l = sym (ap (λ (i : HeldPattern). i.sloped) (entry_at unheld_pattern h.patterns _ j l)) ∙ plain.sloped (1 + j)

  lone_kind : (role j : ℕ) → 0 < role → role_of role ≡ role → Lone role → eqb (role_of (kind role j)) role ≡ eqb (kind role j) role
  lone_kind role j some own e = role_kind role (kind role j) own (lone role some e)

  kind_of_role : (role j : ℕ) → j < count_of (groups_of h) role → eqb (role_of (kind role j)) role ≡ eqb (kind role j) role
  unfolding groups_of role_of nth all
  kind_of_role =
      each_role (groups_of h) (λ role j. eqb (role_of (kind role j)) role ≡ eqb (kind role j) role) (
      (λ j l. lone_kind 1 j (omega arith) refl refl)
      ▸ (λ j l. lone_kind 2 j (omega arith) refl refl)
      ▸ (λ j l. lone_kind 3 j (omega arith) refl refl)
      ▸ (λ j l. lone_kind 7 j (omega arith) refl refl)
      ▸ (λ j l. lone_kind 9 j (omega arith) refl refl)
      ▸ (λ j l. lone_kind 4 j (omega arith) refl refl)
      ▸ (λ j l. role_kind 5 (kind 5 j) refl (λ r. paired 5 8 (omega arith) refl r ∙ rw (no_slope j l)))
      ▸ (λ j l. lone_kind 6 j (omega arith) refl refl)
      ▸ tt)

  kinds_of_roles : roles_ok s (groups_of h) ≡ kinds_plain s (groups_of h)
  unfolding roles_ok role_ok has_role kinds_plain
  kinds_of_roles =
      let gs = groups_of h in
      ap (λ (ok : Bool). both ok (eqb (place s (total gs)) (length s)))
      (all_cong (total gs) _ _ (λ t l.
      let b = spot_back h t l in
      let spot = spot_at gs t in
      ap (both (whole_at s (place s t)))
      (subst (λ (u : ℕ). eqb (role_of (kind_at s u)) spot.role ≡ eqb (kind_at s u) spot.role) b.place
      (kind_of_role spot.role spot.index b.index))))

  pub plain_kinds : PlainKinds s
  unfolding kinds_plain held_in held_of
  plain_kinds =
      let o : h.opened ≡ false = plain.opened in
      let c : h.costed ≡ false = plain.costed in
      let test : (t role : ℕ) → Bool = λ t role. both (whole_at s (place s t)) (eqb (kind_at s t) role) in
      record { kinds = kinds_of_roles ∙ same_test s test (groups_of h) (groups_plain h) (same_total h o c) (same_spot h o c) }
