-- What a file has whose records are read without a refusal, and one that is read whole.
use mathlib.Core.Path.{◌≡◌, refl, ap, ◌∙◌, subst}
use mathlib.Core.Bool.{false}
use mathlib.Core.List.{List}
use Prim.Native.Nat.{ℕ, ◌≤◌}
use lib.IntN.{pos}
use Rattle.whole.proofs.Entry.{entry_empty}
use Rattle.little_endian.specs.LittleEndian.{Bytes}
use Rattle.plan.specs.Held.{no_plan, PlainHeld, held, Typed, plan_from}
use Rattle.plan.specs.Numbers.{Numbers, numbers, meaning}
use Rattle.plan.specs.Refusal.{refusal_of, Accepted}
use Rattle.plan.proofs.Held.{until_small}
use Rattle.plan.proofs.Checks.{first_none, first_next, not_refused, answer_accepted, accepted}
use Rattle.planfile.specs.Answers.{ReadAnswer}
use Rattle.planfile.specs.Checks.{shape_in, layout_refusal}
use Rattle.planfile.specs.Records.{record_in, held_of, held_in, file_of}
use Rattle.planfile.specs.Reading.{Laid}
use Rattle.planfile.specs.Read.{numbers_in, records_answer, read_refusal, read_answer}
use Rattle.planfile.proofs.Checks.{layout_laid}
use Rattle.planfile.proofs.Roles.{tidy_read}
use Rattle.planfile.proofs.Trips.{file_again, held_read, typed_plan}

-- a file without a kind 7 holds nothing for it, nor does one without a kind 9
pub unopened_none : (s : List ℕ) → (shape_in s).opened ≡ false → (k : ℕ) → (held_in s).opening k ≡ pos 0
unfolding held_in held_of
unopened_none s e = rw e (entry_empty (pos 0) _)

pub uncosted_none : (s : List ℕ) → (shape_in s).costed ≡ false → (j : ℕ) → (held_in s).cost j ≡ pos 0
unfolding held_in held_of
uncosted_none s e = rw e (entry_empty (pos 0) _)

pub uncosted_in : (s : List ℕ) → (shape_in s).costed ≡ false → (held_in s).shape.costed ≡ false
unfolding held_in held_of
uncosted_in s e = e

pub plain_unopened : (s : List ℕ) → PlainHeld (held_in s) → (shape_in s).opened ≡ false
unfolding held_in held_of
plain_unopened s e = e.opened

pub plain_uncosted : (s : List ℕ) → PlainHeld (held_in s) → (shape_in s).costed ≡ false
unfolding held_in held_of
plain_uncosted s e = e.costed

-- ---- checks 1 to 5 alone
module _ (s : List ℕ) (e : (records_answer s).refusal ≡ 0) where
  pub records_none : layout_refusal s ≡ 0
  unfolding records_answer
  records_none = not_refused (λ n. record { refusal = n; plan = no_plan }) _ (λ (a : ReadAnswer). a.refusal) (λ n. refl) _ e

  pub records_plan : (records_answer s).plan ≡ plan_from (held_in s)
  unfolding records_answer
  records_plan = ap (λ (a : ReadAnswer). a.plan) (answer_accepted (λ n. record { refusal = n; plan = no_plan }) _ (record { refusal = 0; plan = plan_from (held_in s) }) records_none)

  pub records_numbers : numbers (records_answer s).plan ≡ numbers_in s
  records_numbers = ap meaning (ap held records_plan ∙ held_read s (layout_laid s records_none).range)

-- ---- all checks
module _ (s : List ℕ) (e : (read_answer s).refusal ≡ 0) where
  none_refused : read_refusal s ≡ 0
  unfolding read_answer
  none_refused = not_refused (λ n. record { refusal = n; plan = no_plan }) _ (λ (a : ReadAnswer). a.refusal) (λ n. refl) _ e

  -- its records are those that its shape requires
  laid_read : Laid s (shape_in s)
  unfolding read_refusal
  laid_read = layout_laid s (first_none (layout_refusal s) _ none_refused)

  -- its plan is that of what it holds, with the same numbers
  pub plan_read : (read_answer s).plan ≡ plan_from (held_in s)
  unfolding read_answer
  plan_read = ap (λ (a : ReadAnswer). a.plan) (answer_accepted (λ n. record { refusal = n; plan = no_plan }) _ (record { refusal = 0; plan = plan_from (held_in s) }) none_refused)

  pub plan_holds : held (read_answer s).plan ≡ held_in s
  plan_holds = ap held plan_read ∙ held_read s laid_read.range

  pub read_numbers : numbers (read_answer s).plan ≡ numbers_in s
  read_numbers = ap meaning plan_holds

  -- no check refuses it
  pub plan_passes : refusal_of (numbers (read_answer s).plan) ≡ 0
  unfolding read_refusal
  plan_passes = ap refusal_of read_numbers ∙ first_next (layout_refusal s) _ none_refused

  pub read_accepted : Accepted (numbers (read_answer s).plan)
  read_accepted = accepted (read_answer s).plan plan_passes

  -- the file is that of its plan
  pub file_of_read : Bytes s → file_of (held (read_answer s).plan) ≡ s
  file_of_read b = ap file_of plan_holds ∙ file_again b laid_read

  -- every T that it holds is one of a byte
  pub until_read : (t : ℕ) → ((held_in s).pattern t).until ≤ 30
  unfolding held_in
  until_read t =
      let few : (numbers_in s).T t ≤ 30 = subst (λ (P : Numbers). P.T t ≤ 30) read_numbers (read_accepted.until_few t) in
      until_small ((tidy_read (shape_in s) laid_read.range (record_in s (shape_in s))).rates t) few

  -- and its starts and steps have 32 bits
  pub plan_typed : Bytes s → Typed (read_answer s).plan
  plan_typed b = rw plan_read (typed_plan b laid_read.range)

-- what was answered as a, and is not refused, is an accepted plan
pub accepted_read : (s : List ℕ) {a : ReadAnswer} → a ≡ read_answer s → a.refusal ≡ 0 → Accepted (numbers a.plan)
accepted_read s e f = rw e (read_accepted s (rw e at f))
