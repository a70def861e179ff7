-- What is answered once the checks are made.
use mathlib.Core.Path.{◌≡◌, refl, sym, ap, ◌∙◌}
use mathlib.Core.Bool.{true, false}
use mathlib.Core.List.{List}
use Prim.Native.Nat.{ℕ}
use Rattle.std.specs.Prelude.{Ok, Err}
use Rattle.refusal.specs.declared.Refusal.{Refusal}
use Rattle.refusal.specs.Number.{number_of}
use Rattle.little_endian.specs.LittleEndian.{Bytes}
use Rattle.plan.specs.declared.Plan.{Plan}
use Rattle.plan.specs.Held.{Held, held, no_plan, plan_from}
use Rattle.plan.specs.Numbers.{meaning, numbers}
use Rattle.plan.specs.Refusal.{refusal_of}
use Rattle.plan.proofs.Checks.{first_some, answer_refused}
use Rattle.plan.proofs.Number.{number_some}
use Rattle.planfile.specs.Answers.{ReadAnswer, read_shown}
use Rattle.planfile.specs.Checks.{layout_refusal}
use Rattle.planfile.specs.Records.{held_in}
use Rattle.planfile.specs.Read.{records_answer, read_refusal, read_answer, reading_of}
use Rattle.planfile.specs.Demand2.{OneFile}
use Rattle.planfile.proofs.Checks.{layout_laid}
use Rattle.planfile.proofs.Trips.{held_read}
use Rattle.planfile.proofs.Demand2.{file_read}

abbrev refused_by : (number : ℕ) → ReadAnswer
refused_by number = record { refusal = number; plan = no_plan }

module _ (s : List ℕ) where
  -- ---- the records refuse
  pub refused_layout : {n : ℕ} → n ≡ layout_refusal s → (n ≡ 0 → ⊥) → refused_by n ≡ read_answer s
  unfolding read_answer read_refusal
  refused_layout e h = sym (rw (← e, first_some _ _ h) (answer_refused refused_by _ _ h))

  module _ (refused : Refusal) (e : number_of refused ≡ layout_refusal s) where
    pub refused_records : read_shown (Err refused) ≡ reading_of s false
    unfolding records_answer
    refused_records = sym (rw (← e) (answer_refused refused_by _ _ (number_some refused)))

    pub layout_refused : read_shown (Err refused) ≡ reading_of s true
    layout_refused = refused_layout e (number_some refused)

  -- ---- they do not, and the plan is that of what the file holds
  module _ (none : layout_refusal s ≡ 0) {plan : Plan} (is : plan ≡ plan_from (held_in s)) where
    pub filled_records : read_shown (Ok plan) ≡ reading_of s false
    unfolding records_answer
    filled_records = rw (none, is)

    refusal_is : refusal_of (numbers plan) ≡ read_refusal s
    unfolding read_refusal
    refusal_is = rw none (ap (λ (H : Held). refusal_of (meaning H)) (ap held is ∙ held_read s (layout_laid s none).range))

    -- its numbers are refused, or not
    pub filled_refused : (refused : Refusal) → number_of refused ≡ refusal_of (numbers plan) → read_shown (Err refused) ≡ reading_of s true
    unfolding read_answer
    filled_refused refused e = sym (rw (← refusal_is, ← e) (answer_refused refused_by _ _ (number_some refused)))

    pub filled_accepted : refusal_of (numbers plan) ≡ 0 → read_shown (Ok plan) ≡ reading_of s true
    unfolding read_answer
    filled_accepted e = rw (← refusal_is, e, is)

    -- and then the file, which is bytes, is the one file of the plan
    pub filled_file : Bytes s → refusal_of (numbers plan) ≡ 0 → OneFile s plan
    filled_file b e = file_read b (filled_accepted e) refl
