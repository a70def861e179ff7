-- What any bytes s are read as (document 01, "Checking order", 1 to 9, with document 02's 13 right before 8).
use Rattle.std.specs.Prelude.{Bool, List, ℕ}
use Rattle.whole.specs.Test.{pick}
use Rattle.plan.specs.Held.{no_plan, plan_from}
use Rattle.plan.specs.Numbers.{Numbers, meaning}
use Rattle.plan.specs.Refusal.{first_of, answer, refusal_of}
use Rattle.planfile.specs.Answers.{ReadAnswer}
use Rattle.planfile.specs.Checks.{layout_refusal}
use Rattle.planfile.specs.Records.{held_in}

module _ (s : List ℕ) where
  -- what a file means
  abbrev pub numbers_in : Numbers
  numbers_in = meaning (held_in s)

  -- the number of the first check that fails; 0 if none does: 1 to 5 on the records, then 6 to 9 and 13 on what they mean
  unfoldable pub read_refusal : ℕ
  read_refusal = first_of (layout_refusal s) (refusal_of numbers_in)

  -- what the records hold, whatever its numbers: checks 1 to 5 alone
  unfoldable pub records_answer : ReadAnswer
  records_answer = answer (λ n. record { refusal = n; plan = no_plan }) (layout_refusal s) (record { refusal = 0; plan = plan_from (held_in s) })

  unfoldable pub read_answer : ReadAnswer
  read_answer = answer (λ n. record { refusal = n; plan = no_plan }) read_refusal (record { refusal = 0; plan = plan_from (held_in s) })

  -- either of the two: with the checks on its numbers, or without
  abbrev pub reading_of : (checked : Bool) → ReadAnswer
  reading_of checked = pick checked read_answer records_answer
