-- Demand 2, of files: the file of an accepted plan is its one file, an accepted file is that of the plan that it is read as, and so
-- are the bytes that were written.
use mathlib.Core.Path.{◌≡◌, refl, sym, ap, subst, ◌∙◌}
use mathlib.Core.Bool.{true}
use mathlib.Core.List.{List, ◌++◌}
use Prim.Native.Nat.{ℕ, ◌≤◌}
use native.Mathlib.Nat.{zero-add}
use native.Mathlib.Omega.{arith}
use borrow.Author.Tests.{le-leb, leb-true}
use lib.Dec.{leb}
use lib.ListN.{length, take, drop}
use lib.Seq.{sets, sets-eq, take-append_seam}
use Rattle.little_endian.specs.LittleEndian.{Bytes}
use Rattle.plan.specs.declared.Plan.{Plan}
use Rattle.plan.specs.Held.{no_plan, Held, shape_of, held, Typed, plan_from}
use Rattle.plan.specs.Numbers.{numbers, meaning}
use Rattle.plan.specs.Refusal.{shape_ok, head_ok, head_refusal, refusal_of}
use Rattle.plan.proofs.Held.{Tidy, tidy_held, held_from}
use Rattle.plan.proofs.Checks.{check_true, first_none, first_next, not_refused, answer_accepted, accepted}
use Rattle.planfile.specs.Answers.{ReadAnswer}
use Rattle.planfile.specs.Answers.{WriteAnswer}
use Rattle.planfile.specs.Records.{held_in, file_of}
use Rattle.planfile.specs.Reading.{InRange}
use Rattle.planfile.specs.Read.{read_refusal, read_answer}
use Rattle.planfile.specs.Write.{write_refusal, write_answer, buffer_after}
use Rattle.planfile.specs.Demand2.{OneFile}
use Rattle.planfile.proofs.Checks.{head_range}
use Rattle.planfile.proofs.Roles.{fits_accepted}
use Rattle.planfile.proofs.Trips.{layout_file, held_file}
use Rattle.planfile.proofs.Answers.{plan_passes, plan_typed, file_of_read}

-- ---- the file of an accepted plan
module _ (plan : Plan) (e : refusal_of (numbers plan) ≡ 0) where
  abbrev s : List ℕ
  s = file_of (held plan)

  range : InRange (shape_of plan)
  range = head_range (held plan) (accepted plan e).head

  tidy : Tidy (held plan)
  tidy = tidy_held plan (accepted plan e).head

  -- it is written into every buffer with room for it
  none_refuses : (buffer : List ℕ) → length s ≤ length buffer → write_refusal plan buffer ≡ 0
  unfolding write_refusal
  none_refuses buffer room = rw (e, le-leb _ _ room)

  module _ (typed : Typed plan) where
    holds : held_in s ≡ held plan
    holds = held_file (held plan) range tidy (fits_accepted plan (accepted plan e) typed)

    passes : read_refusal s ≡ 0
    unfolding read_refusal refusal_of head_refusal head_ok shape_ok
    passes =
        let ok : shape_ok (shape_of plan) ≡ true = check_true (head_ok (numbers plan)) 3 0 (omega arith) (first_none (head_refusal (numbers plan)) _ e) in
        rw (layout_file (held plan) range ok) (ap (λ (H : Held). refusal_of (meaning H)) holds ∙ e)

    read_written : read_answer s ≡ record { refusal = 0; plan = plan_from (held plan) }
    unfolding read_answer
    read_written = answer_accepted (λ n. record { refusal = n; plan = no_plan }) _ _ passes ∙ ap (λ (H : Held). record { refusal = 0; plan = plan_from H }) holds

-- ---- the buffer after a call that is not refused
module _ (plan : Plan) (buffer : List ℕ) (e : write_refusal plan buffer ≡ 0) where
  plan_taken : refusal_of (numbers plan) ≡ 0
  unfolding write_refusal
  plan_taken = first_none (refusal_of (numbers plan)) _ e

  room : length (file_of (held plan)) ≤ length buffer
  unfolding write_refusal
  room = leb-true _ _ (check_true (leb (length (file_of (held plan))) (length buffer)) 12 0 (omega arith) (first_next (refusal_of (numbers plan)) _ e))

  -- the file, and after it the bytes that were there
  buffer_written : buffer_after plan buffer ≡ file_of (held plan) ++ drop (length (file_of (held plan))) buffer
  unfolding buffer_after
  buffer_written = answer_accepted (λ n. buffer) _ (sets buffer 0 (file_of (held plan))) e ∙ rw (sets-eq (file_of (held plan)) buffer 0 (omega (arith, room)), zero-add)

-- ---- one file
module _ (plan : Plan) (e : refusal_of (numbers plan) ≡ 0) where
  -- bytes that are read as the plan are its file
  only_file : (t : List ℕ) → Bytes t → read_answer t ≡ record { refusal = 0; plan = plan_from (held plan) } → t ≡ file_of (held plan)
  only_file t b r =
      let f = ap (λ (a : ReadAnswer). a.refusal) r in
      sym (file_of_read t f b) ∙ ap (λ (a : ReadAnswer). file_of (held a.plan)) r ∙ ap file_of (held_from (held plan) (tidy plan e))

  pub one_file : Typed plan → OneFile (file_of (held plan)) plan
  unfolding write_answer
  one_file typed = record {
    written = λ buffer room. answer_accepted (λ n. record { refusal = n; length = 0 }) _ _ (none_refuses plan e buffer room);
    left = λ buffer room. buffer_written plan buffer (none_refuses plan e buffer room);
    read = read_written plan e typed;
    same = ap meaning (held_from (held plan) (tidy plan e));
    only = only_file;
  }

-- the bytes that were read as a
pub file_read : {s : List ℕ} {a : ReadAnswer} → Bytes s → a ≡ read_answer s → a.refusal ≡ 0 → OneFile s a.plan
file_read {s} b is e =
    let f : (read_answer s).refusal ≡ 0 = rw (← is) e in
    rw is (subst (λ (t : List ℕ). OneFile t (read_answer s).plan) (file_of_read s f b)
    (one_file (read_answer s).plan (plan_passes s f) (plan_typed s f b)))

-- the bytes that were written, where a was answered and the buffer was left as it is said
pub file_written : (plan : Plan) (buffer : List ℕ) → Typed plan → {a : WriteAnswer} {buffer' : List ℕ}
    → a ≡ write_answer plan buffer → buffer' ≡ buffer_after plan buffer → a.refusal ≡ 0 → OneFile (take a.length buffer') plan
unfolding write_answer
file_written plan buffer typed is left e =
    let f : (write_answer plan buffer).refusal ≡ 0 = rw (← is) e in
    let r : write_refusal plan buffer ≡ 0 = not_refused (λ n. record { refusal = n; length = 0 }) _ (λ (a : WriteAnswer). a.refusal) (λ n. refl) _ f in
    rw (is, left, answer_accepted {A = WriteAnswer} (λ n. record { refusal = n; length = 0 }) _ (record { refusal = 0; length = length (file_of (held plan)) }) r, buffer_written plan buffer r, take-append_seam) (one_file plan (plan_taken plan buffer r) typed)
