-- What `write` answers and leaves in the buffer, by the three ways through its checks.
use mathlib.Core.Path.{◌≡◌, refl, sym, ◌∙◌}
use mathlib.Core.List.{List}
use Prim.Native.Nat.{ℕ, ◌≤◌, ◌<◌}
use borrow.Author.Tests.{le-leb, lt-leb}
use lib.ListN.{length, take}
use lib.Seq.{sets}
use Rattle.std.specs.Prelude.{Ok, Err}
use Rattle.refusal.specs.declared.Refusal.{Refusal}
use Rattle.refusal.specs.declared.Refusal.TheVariants.{Room}
use Rattle.refusal.specs.Number.{number_of}
use Rattle.plan.specs.declared.Plan.{Plan}
use Rattle.plan.specs.Held.{held, Typed}
use Rattle.plan.specs.Numbers.{numbers}
use Rattle.plan.specs.Refusal.{refusal_of}
use Rattle.plan.proofs.Checks.{first_some, answer_refused, answer_accepted}
use Rattle.plan.proofs.Number.{number_some}
use Rattle.planfile.specs.Answers.{write_shown}
use Rattle.planfile.specs.Records.{file_of}
use Rattle.planfile.specs.Write.{write_refusal, write_answer, buffer_after}
use Rattle.planfile.specs.Demand2.{OneFile}
use Rattle.planfile.proofs.Demand2.{file_written}

module _ (plan : Plan) (buffer : List ℕ) where
  -- refused, with this number
  module _ (refused : Refusal) (e : write_refusal plan buffer ≡ number_of refused) where
    refused_is : write_shown (Err refused) ≡ write_answer plan buffer
    unfolding write_answer
    refused_is = sym (rw e (answer_refused (λ n. record { refusal = n; length = 0 }) _ _ (number_some refused)))

    refused_left : buffer ≡ buffer_after plan buffer
    unfolding buffer_after
    refused_left = sym (rw e (answer_refused (λ n. buffer) _ _ (number_some refused)))

  -- the plan is refused
  module _ (refused : Refusal) (e : number_of refused ≡ refusal_of (numbers plan)) where
    plan_refused : write_refusal plan buffer ≡ number_of refused
    unfolding write_refusal
    plan_refused = rw (← e) (first_some _ _ (number_some refused))

    pub plan_is : write_shown (Err refused) ≡ write_answer plan buffer
    plan_is = refused_is refused plan_refused

    pub plan_left : buffer ≡ buffer_after plan buffer
    plan_left = refused_left refused plan_refused

  -- it is not, and its file has this length
  module _ (ok : refusal_of (numbers plan) ≡ 0) {n : ℕ} (size : n ≡ length (file_of (held plan))) where
    -- which the buffer has no room for
    module _ (h : length buffer < n) where
      short : write_refusal plan buffer ≡ 12
      unfolding write_refusal
      short = rw (ok, ← size, lt-leb n _ h)

      pub short_is : write_shown (Err Room) ≡ write_answer plan buffer
      short_is = refused_is Room short

      pub short_left : buffer ≡ buffer_after plan buffer
      short_left = refused_left Room short

    -- or has
    module _ (h : n ≤ length buffer) {buffer' : List ℕ} (put : buffer' ≡ sets buffer 0 (file_of (held plan))) where
      none : write_refusal plan buffer ≡ 0
      unfolding write_refusal
      none = rw (ok, ← size, le-leb n _ h)

      pub written_is : write_shown (Ok n) ≡ write_answer plan buffer
      unfolding write_answer
      written_is = rw size (sym (answer_accepted (λ m. record { refusal = m; length = 0 }) _ _ none))

      pub written_left : buffer' ≡ buffer_after plan buffer
      unfolding buffer_after
      written_left = put ∙ sym (answer_accepted (λ m. buffer) _ _ none)

      pub written_kept : Typed plan → OneFile (take n buffer') plan
      written_kept typed = file_written plan buffer typed written_is written_left refl
