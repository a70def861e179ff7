-- What is answered where a file is read and where a plan is to be written, by the number of the check that refuses it.
use Rattle.std.specs.Prelude.{ℕ, Result, Ok, Err}
use Rattle.refusal.specs.declared.Refusal.{Refusal}
use Rattle.refusal.specs.Number.{number_of}
use Rattle.plan.specs.declared.Plan.{Plan}
use Rattle.plan.specs.Held.{no_plan}

-- what a file is read as: the number of the check that refuses it, or 0 and its plan
pub record ReadAnswer : Type 0 where
  pub refusal : ℕ
  pub plan : Plan

-- what is answered where a plan is to be written: the number of the check that refuses it, or 0 and the length of its file
pub record WriteAnswer : Type 0 where
  pub refusal : ℕ
  pub length : ℕ

-- the code's answers: a refusal comes with the plan of zeros, or with length 0
abbrev pub read_shown : Result Plan Refusal → ReadAnswer
read_shown (Ok plan) = record { refusal = 0; plan = plan }
read_shown (Err refusal) = record { refusal = number_of refusal; plan = no_plan }

abbrev pub write_shown : Result ℕ Refusal → WriteAnswer
write_shown (Ok length) = record { refusal = 0; length = length }
write_shown (Err refusal) = record { refusal = number_of refusal; length = 0 }
