-- Demand 2, of files: what reading and writing say of each other. The contracts of `read` and `write` carry it.
use Rattle.std.specs.Prelude.{◌≡◌, List, ◌++◌, ℕ, ◌≤◌, length, drop}
use Rattle.little_endian.specs.LittleEndian.{Bytes}
use Rattle.plan.specs.declared.Plan.{Plan}
use Rattle.plan.specs.Held.{held, plan_from}
use Rattle.plan.specs.Numbers.{numbers}
use Rattle.planfile.specs.Read.{read_answer}
use Rattle.planfile.specs.Write.{write_answer, buffer_after}

-- the bytes s are the one file of a plan
pub record OneFile (s : List ℕ) (plan : Plan) : Type 0 where
  -- they are what is written of it: into any buffer with room for them, at its front, with nothing changed after them
  pub written : (buffer : List ℕ) → length s ≤ length buffer → write_answer plan buffer ≡ record { refusal = 0; length = length s }
  pub left : (buffer : List ℕ) → length s ≤ length buffer → buffer_after plan buffer ≡ s ++ drop (length s) buffer
  -- they are read as the plan with zeros past its N, n, q and m and for what it does not hold, which has the same numbers
  pub read : read_answer s ≡ record { refusal = 0; plan = plan_from (held plan) }
  pub same : numbers (plan_from (held plan)) ≡ numbers plan
  -- and no other bytes are
  pub only : (t : List ℕ) → Bytes t → read_answer t ≡ record { refusal = 0; plan = plan_from (held plan) } → t ≡ s
