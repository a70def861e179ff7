-- What a plan is written as: the one file that is read as it (document 01, "Checking order", 3, 6 to 9 and 12, with document 02's 13
-- right before 8).
use Rattle.std.specs.Prelude.{List, ℕ, leb, length}
use Rattle.std.proofs.lemmas.List.Edits.{sets}
use Rattle.plan.specs.declared.Plan.{Plan}
use Rattle.plan.specs.Held.{held}
use Rattle.plan.specs.Numbers.{numbers}
use Rattle.plan.specs.Refusal.{check, first_of, answer, refusal_of}
use Rattle.planfile.specs.Answers.{WriteAnswer}
use Rattle.planfile.specs.Records.{file_of}

module _ (plan : Plan) (buffer : List ℕ) where
  -- 3, 6 to 9 and 13, then 12: the buffer is shorter than the file
  unfoldable pub write_refusal : ℕ
  write_refusal = first_of (refusal_of (numbers plan)) (check (leb (length (file_of (held plan))) (length buffer)) 12 0)

  unfoldable pub write_answer : WriteAnswer
  write_answer = answer (λ n. record { refusal = n; length = 0 }) write_refusal (record { refusal = 0; length = length (file_of (held plan)) })

  -- the buffer after the call: the file stands in its first bytes; on a refusal nothing has changed
  unfoldable pub buffer_after : List ℕ
  buffer_after = answer (λ n. buffer) write_refusal (sets buffer 0 (file_of (held plan)))
