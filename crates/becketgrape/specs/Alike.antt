-- What the arrays carry where nothing is held plays no part (document 02, item 1), of the call that writes their file.
use Rattle.std.specs.Prelude.{◌≡◌, List, ℕ}
use Rattle.planfile.specs.Write.{write_answer, buffer_after}
use Rattle.arrays.specs.Lent.{Lent, plan_in, ReadAlike, HeldAlike}

-- what the call says of the arrays A and a buffer: the refusal, the length and the file are those of any other arrays that agree with A wherever
-- a place plays a part, and these hold the same
pub record WriteAlike (A : Lent) (buffer : List ℕ) : Type 0 where
  pub answer : (B : Lent) → ReadAlike A B → write_answer (plan_in A) buffer ≡ write_answer (plan_in B) buffer
  pub file : (B : Lent) → ReadAlike A B → buffer_after (plan_in A) buffer ≡ buffer_after (plan_in B) buffer
  pub holds : HeldAlike A
