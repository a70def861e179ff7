-- Both round trips: a file, what it holds, and the file of that; what is held, its file, and what that holds.
use mathlib.Core.Path.{◌≡◌, refl, sym, ap, ap₂, ◌∙◌}
use mathlib.Core.Bool.{true}
use mathlib.Core.List.{List}
use Prim.Native.Nat.{ℕ, ◌≤◌, ◌<◌}
use native.Mathlib.Omega.{arith}
use borrow.Author.Tests.{le-leb}
use lib.ListN.{length}
use lib.Seq.{drop-cons}
use Rattle.whole.specs.Entry.{nth}
use Rattle.whole.specs.Test.{all}
use Rattle.little_endian.specs.LittleEndian.{Bytes}
use Rattle.records.specs.Record.{file_bytes}
use Rattle.records.specs.Cursor.{size_from, place, kind_at, body_at}
use Rattle.records.proofs.Cursor.{whole_end, length_body, bytes_body}
use Rattle.plan.specs.declared.Shape.{Shape}
use Rattle.plan.specs.Held.{Held, held, Typed, plan_from}
use Rattle.plan.specs.Refusal.{shape_ok}
use Rattle.plan.proofs.Held.{Tidy, held_from}
use Rattle.planfile.specs.Kinds.{role_of, size_of}
use Rattle.planfile.specs.Groups.{groups_of, total, count_of, place_of}
use Rattle.planfile.specs.Rows.{rec, head_rec}
use Rattle.planfile.specs.Checks.{shape_in, layout_refusal}
use Rattle.planfile.specs.Records.{record_in, file_from, held_of, record_of, held_in, file_of}
use Rattle.planfile.specs.Reading.{InRange, Laid}
use Rattle.planfile.proofs.Bodies.{lone}
use Rattle.planfile.proofs.Groups.{laid_cong}
use Rattle.planfile.proofs.Checks.{roles_consist}
use Rattle.planfile.proofs.Filed.{whole_written, roles_written, sizes_written, record_written, first_written, suits_read, written_again}
use Rattle.planfile.proofs.Length.{length_written}
use Rattle.planfile.proofs.Roles.{suits_held, shape_held, records_again, tidy_read, typed_read, Fits, held_again}

-- ---- a file that has passed checks 3 to 5
module _ {s : List ℕ} (b : Bytes s) (l : Laid s (shape_in s)) where
  -- its head is that of its shape
  head_read : head_rec (shape_in s) ≡ record_in s (shape_in s) 1 0
  unfolding shape_in record_in groups_of total count_of place_of place body_at role_of size_of nth all
  head_read =
      let u = suits_read (shape_in s) l 1 0 (omega arith) in
      let k : kind_at s 0 ≡ 1 = lone 1 (omega arith) refl u.stands in
      let w = (roles_consist s (groups_of (shape_in s)) l.roles).whole 0 (omega arith) in
      let four : size_from s 0 ≡ 4 = sym (length_body s 0 w) ∙ u.size ∙ ap (size_of (shape_in s)) k in
      let long : 8 ≤ length s = omega (arith, whole_end s 0 w) in
      ap₂ rec (sym k) (rw (four, drop-cons s 4 0 (omega arith), drop-cons s 5 0 (omega arith), drop-cons s 6 0 (omega arith), drop-cons s 7 0 (omega arith)))

  -- the file of what it holds is that file
  pub file_again : file_of (held_in s) ≡ s
  unfolding file_of held_in held_of file_from record_in
  file_again =
      let h = shape_in s in
      let g = record_in s h in
      ap file_bytes (laid_cong h (record_of (held_of h g)) g (records_again h g (λ role j. bytes_body s (place_of (groups_of h) role j) b) (suits_read h l) head_read)) ∙ written_again h l b

-- what the plan of what it holds holds is that
pub held_read : (s : List ℕ) → InRange (shape_in s) → held (plan_from (held_in s)) ≡ held_in s
unfolding held_in
held_read s r = held_from (held_in s) (tidy_read (shape_in s) r (record_in s (shape_in s)))

-- and its starts and steps have 32 bits
pub typed_plan : {s : List ℕ} → Bytes s → InRange (shape_in s) → Typed (plan_from (held_in s))
unfolding held_in record_in
typed_plan {s} b r = typed_read (shape_in s) r (record_in s (shape_in s)) (λ role j. bytes_body s (place_of (groups_of (shape_in s)) role j) b)

-- ---- the file of what is held
module _ (H : Held) (range : InRange H.shape) where
  -- checks 1 to 5 take it
  pub layout_file : shape_ok H.shape ≡ true → layout_refusal (file_of H) ≡ 0
  unfolding layout_refusal file_of record_of nth
  layout_file ok =
      let h = H.shape in
      let u = suits_held H in
      rw (
        le-leb (length (file_from h (record_of H))) 16_384 (omega (arith, length_written h range (record_of H) u)),
        whole_written h range (record_of H) u,
        first_written h range (record_of H) u refl (rw (shape_held H range) ok),
        shape_held H range,
        roles_written h range (record_of H) u,
        sizes_written h range (record_of H) u,
      )

  -- its records are those of what is held
  pub record_file : (role j : ℕ) → j < count_of (groups_of H.shape) role → record_in (file_of H) H.shape role j ≡ record_of H role j
  unfolding file_of
  record_file = record_written H.shape range (record_of H) (suits_held H)

  -- so it holds what is held
  pub held_file : Tidy H → Fits H → held_in (file_of H) ≡ H
  unfolding held_in
  held_file tidy fits =
      ap (λ (h : Shape). held_of h (record_in (file_of H) h)) (shape_held H range) ∙ held_again H tidy fits (record_in (file_of H) H.shape) record_file
