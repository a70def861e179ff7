-- What is true of every file that is listed.
use mathlib.Core.Path.{◌≡◌, refl, sym, ap, ◌∙◌, subst₂}
use mathlib.Core.List.{List}
use Prim.Native.Nat.{ℕ}
use native.Mathlib.Omega.{arith}
use Rattle.little_endian.specs.LittleEndian.{Bytes}
use Rattle.plan.specs.Numbers.{Numbers}
use Rattle.plan.specs.Refusal.{refusal_of}
use Rattle.plan.proofs.Checks.{answer_accepted}
use Rattle.planner.specs.Verdict.{judgement_of}
use Rattle.planner.specs.Alike.{meant}
use Rattle.planner.specs.Level.{RowsApart}
use Rattle.planner.proofs.Plain.{plain_flow, plain_horizon, plain_held}
use Rattle.planner.proofs.Alike.{alike}
use Rattle.planner.proofs.Level.{rows_apart}
use Rattle.planfile.specs.Records.{held_in}
use Rattle.planfile.specs.Read.{numbers_in, read_answer}
use Rattle.planfile.proofs.Answers.{unopened_none, uncosted_none, uncosted_in, plain_unopened, plain_uncosted, read_numbers, plan_passes}
use Rattle.planfile.proofs.Demand2.{file_read}
use Rattle.planfile.proofs.Plain.{plain_file, plain_kinds}
use Rattle.listing.specs.Text.{refused_text, judgement_text, plan_text, text_of}
use Rattle.listing.specs.Demands.{Demands}
use Rattle.listing.proofs.Demand3.{of_file, level_exact_of}

-- the text of what a file means
unfoldable text_of_numbers : Numbers → List ℕ
text_of_numbers P = judgement_text P.patterns P.instruments (judgement_of P)

module _ (s : List ℕ) (e : (read_answer s).refusal ≡ 0) where
  text_read : text_of s ≡ text_of_numbers (numbers_in s)
  unfolding text_of text_of_numbers
  text_read = answer_accepted refused_text (read_answer s).refusal (plan_text (read_answer s).plan) e ∙ ap text_of_numbers (read_numbers s e)

  not_13 : refusal_of (numbers_in s) ≡ 13 → ⊥
  not_13 r = absurd (omega (arith, r, ap refusal_of (read_numbers s e), plan_passes s e))

text_alike : (s t : List ℕ) → (read_answer s).refusal ≡ 0 → (read_answer t).refusal ≡ 0 → meant (numbers_in s) ≡ meant (numbers_in t) → text_of s ≡ text_of t
unfolding text_of_numbers
text_alike s t e f same =
    let rows = ((alike (held_in s)).others (held_in t) same (not_13 s e) (not_13 t f)).rows in
    text_read s e
    ∙ ap (λ (P : Numbers). judgement_text P.patterns P.instruments (judgement_of (numbers_in s))) same
    ∙ ap (judgement_text (numbers_in t).patterns (numbers_in t).instruments) rows
    ∙ sym (text_read t f)

pub demands : {s : List ℕ} → Bytes s → Demands s
demands {s} b = record {
  kept = file_read b refl;
  exact = of_file s;
  plain = plain_file s;
  plain_flow = λ e. plain_flow (numbers_in s) (unopened_none s e);
  plain_horizon = λ e. plain_horizon (numbers_in s) (uncosted_in s e) (uncosted_none s e);
  plain_kinds = plain_kinds s;
  plain_numbers = λ e. plain_held (held_in s) e (unopened_none s (plain_unopened s e)) (uncosted_none s (plain_uncosted s e));
  alike = alike (held_in s);
  printed_alike = text_alike s;
  level_exact = level_exact_of s;
  level_apart = λ f e g t. subst₂ (λ (P Q : Numbers). RowsApart P Q t) (read_numbers s e) (read_numbers f g) (rows_apart (read_answer s).plan (read_answer f).plan t);
}
