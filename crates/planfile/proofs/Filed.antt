-- Both ways between a file and its records by role.
use mathlib.Core.Path.{◌≡◌, refl, sym, ap, ap₂, ◌∙◌, subst}
use mathlib.Core.Bool.{Bool, true, false}
use mathlib.Core.Logic.{⊎_elim}
use mathlib.Core.List.{List}
use Prim.Native.Nat.{ℕ, ◌≤◌, ◌<◌}
use native.Mathlib.Omega.{arith}
use borrow.Author.Tests.{eq-eqb, ne_eqb}
use lib.Dec.{eqb}
use lib.ListN.{length, get_or}
use Rattle.whole.specs.Table.{table}
use Rattle.whole.proofs.Laws.{ℕ_cases}
use Rattle.little_endian.specs.LittleEndian.{Bytes}
use Rattle.records.specs.Record.{Rec, file_bytes}
use Rattle.records.specs.Cursor.{whole_file, place, kind_at, body_at}
use Rattle.records.proofs.Records.{Small}
use Rattle.records.proofs.Cursor.{whole_no, none_later, Consists, record_at, kind_written, body_written, consists_written, file_written, file_again}
use Rattle.plan.specs.declared.Shape.{Shape}
use Rattle.plan.specs.Held.{flag}
use Rattle.plan.specs.Refusal.{shape_ok}
use Rattle.planfile.specs.Groups.{Group}
use Rattle.planfile.specs.Groups.{Spot}
use Rattle.planfile.specs.Kinds.{role_of, size_of}
use Rattle.planfile.specs.Groups.{groups_of, total, spot_at, count_of, place_of, none, laid}
use Rattle.planfile.specs.Rows.{rec, head_rec}
use Rattle.planfile.specs.Checks.{shape_in, has_role, first_ok, roles_ok, sizes_ok}
use Rattle.planfile.specs.Records.{record_in, file_from}
use Rattle.planfile.specs.Reading.{InRange, Laid}
use Rattle.planfile.proofs.Bodies.{kind_few, size_few}
use Rattle.planfile.proofs.Groups.{place_spot, role_some, spot_back, length_laid, laid_at, laid_place}
use Rattle.planfile.proofs.Checks.{has_none, roles_consist, role_there, roles_pass, size_there, sizes_pass}

-- a record that may stand in a role
pub record Suits (h : Shape) (role : ℕ) (r : Rec) : Type 0 where
  pub stands : role_of r.kind ≡ role
  pub size : length r.body ≡ size_of h r.kind

-- records of which each may stand in its role
abbrev pub AllSuit : (h : Shape) → (f : (role j : ℕ) → Rec) → Type 0
AllSuit h f = (role j : ℕ) → j < count_of (groups_of h) role → Suits h role (f role j)

-- ---- what is written is read
module _ (h : Shape) (range : InRange h) (f : (role j : ℕ) → Rec) (fit : AllSuit h f) where
  abbrev gs : List Group
  gs = groups_of h

  abbrev rs : List Rec
  rs = laid gs f

  suits : (t : ℕ) → t < total gs → Suits h (spot_at gs t).role (get_or rs t none)
  suits t l = rw (laid_at f gs t l) (fit (spot_at gs t).role (spot_at gs t).index (spot_back h t l).index)

  inside : {t : ℕ} → t < length rs → t < total gs
  inside l = omega (arith, length_laid f gs)

  among : {t : ℕ} → t < total gs → t < length rs
  among l = omega (arith, length_laid f gs)

  small : (t : ℕ) → t < length rs → Small (get_or rs t none)
  small t l =
      let u = suits t (inside l) in
      let r = get_or rs t none in
      record {
        kind = kind_few r.kind (rw u.stands (role_some h _ _ (spot_back h t (inside l)).index));
        body = omega (arith, u.size, size_few h range r.kind);
      }

  kind_at_law : (t : ℕ) → t < total gs → kind_at (file_from h f) t ≡ (get_or rs t none).kind
  unfolding file_from
  kind_at_law t l = kind_written rs none small t (among l)

  body_at_law : (t : ℕ) → t < total gs → body_at (file_from h f) t ≡ (get_or rs t none).body
  unfolding file_from
  body_at_law t l = body_written rs none small t (among l)

  pub whole_written : whole_file (file_from h f) ≡ true
  unfolding file_from
  whole_written = file_written rs none small

  consists : Consists (file_from h f) (total gs)
  unfolding file_from
  consists = subst (λ (c : ℕ). Consists (file_bytes rs) c) (length_laid f gs) (consists_written rs none small)

  pub has_written : (t role : ℕ) → t < total gs → has_role (file_from h f) t role ≡ eqb (spot_at gs t).role role
  unfolding has_role
  has_written t role l = rw (consists.whole t l, kind_at_law t l, (suits t l).stands)

  -- at the place of a role stands a record of it just where the groups have one
  pub held_there : (role t : ℕ) (is_held : Bool) → place_of gs role 0 ≡ t → count_of gs role ≡ flag is_held → has_role (file_from h f) t role ≡ is_held
  held_there role t true i e =
      let a = place_spot gs role 0 (omega (arith, e)) in
      rw (← i) (has_written (place_of gs role 0) role a.inside ∙ eq-eqb _ _ (ap (λ (x : Spot). x.role) a.spot))
  held_there role t false i e =
      let s = file_from h f in
      ⊎_elim
      (λ (l : t < total gs). has_written t role l ∙ ne_eqb _ role (λ r. absurd (omega (arith, (spot_back h t l).index, ap (count_of gs) r, e))))
      (λ (l : total gs ≤ t). has_none s t role (none_later s (total gs) t l (whole_no s _ (omega (arith, consists.ends)))))
      (ℕ_cases t (total gs))

  pub roles_written : roles_ok (file_from h f) gs ≡ true
  roles_written = roles_pass (file_from h f) gs (λ t l. has_written t (spot_at gs t).role l ∙ eq-eqb (spot_at gs t).role _ refl) consists.ends

  pub sizes_written : sizes_ok (file_from h f) h ≡ true
  sizes_written = sizes_pass (file_from h f) h (λ t l. ap length (body_at_law t l) ∙ (suits t l).size ∙ ap (size_of h) (sym (kind_at_law t l)))

  pub record_written : (role j : ℕ) → j < count_of gs role → record_in (file_from h f) h role j ≡ f role j
  unfolding record_in
  record_written role j l =
      let p = place_of gs role j in
      let a = place_spot gs role j l in
      ap₂ rec (kind_at_law p a.inside) (body_at_law p a.inside) ∙ laid_place f gs role j l

  -- the head
  pub first_written : f 1 0 ≡ head_rec h → shape_ok (shape_in (file_from h f)) ≡ true → first_ok (file_from h f) ≡ true
  unfolding first_ok place groups_of total laid table
  first_written head ok =
      let l : 0 < total gs = omega arith in
      rw (consists.whole 0 l, kind_at_law 0 l ∙ ap (λ (r : Rec). r.kind) head, body_at_law 0 l ∙ ap (λ (r : Rec). r.body) head) ok

-- ---- what is read is written again
module _ {s : List ℕ} (h : Shape) (l : Laid s h) where
  abbrev groups : List Group
  groups = groups_of h

  pub suits_read : AllSuit h (record_in s h)
  unfolding record_in
  suits_read role j i =
      let a = place_spot groups role j i in
      let t = place_of groups role j in
      record {
        stands = role_there s groups l.roles t a.inside ∙ ap (λ (x : Spot). x.role) a.spot;
        size = size_there s h l.sizes t a.inside;
      }

  pub written_again : Bytes s → file_from h (record_in s h) ≡ s
  unfolding file_from record_in
  written_again b =
      file_again b (total groups) (roles_consist s groups l.roles) (laid groups (record_in s h)) none (length_laid (record_in s h) groups)
      (λ t i. laid_at (record_in s h) groups t i ∙ ap (record_at s) (spot_back h t i).place)
