-- The file of arrays is made of what they hold.
use mathlib.Core.Path.{◌≡◌, ap}
use mathlib.Core.List.{List}
use Prim.Native.Nat.{ℕ}
use lib.ListN.{length}
use lib.Dec.{leb}
use Rattle.std.proofs.lemmas.List.Edits.{sets}
use Rattle.plan.specs.Held.{Held}
use Rattle.plan.specs.Numbers.{meaning}
use Rattle.plan.specs.Refusal.{check, first_of, answer, refusal_of}
use Rattle.planfile.specs.Answers.{WriteAnswer}
use Rattle.planfile.specs.Records.{file_of}
use Rattle.planfile.specs.Write.{write_refusal, write_answer, buffer_after}
use Rattle.arrays.specs.Lent.{Lent, plan_in, ReadAlike}
use Rattle.arrays.proofs.Lent.{held_alike}
use Rattle.becketgrape.specs.Alike.{WriteAlike}

module _ (A : Lent) (buffer : List ℕ) where
  abbrev refused : Held → ℕ
  refused H = first_of (refusal_of (meaning H)) (check (leb (length (file_of H)) (length buffer)) 12 0)

  answer_alike : (B : Lent) → ReadAlike A B → write_answer (plan_in A) buffer ≡ write_answer (plan_in B) buffer
  unfolding write_answer write_refusal
  answer_alike B same =
      ap (λ (H : Held). answer {A = WriteAnswer} (λ n. record { refusal = n; length = 0 }) (refused H) (record { refusal = 0; length = length (file_of H) })) (held_alike A B same)

  file_alike : (B : Lent) → ReadAlike A B → buffer_after (plan_in A) buffer ≡ buffer_after (plan_in B) buffer
  unfolding buffer_after write_refusal
  file_alike B same = ap (λ (H : Held). answer (λ n. buffer) (refused H) (sets buffer 0 (file_of H))) (held_alike A B same)

  pub write_alike : WriteAlike A buffer
  write_alike = record { answer = answer_alike; file = file_alike; holds = held_alike A }
