-- The text of a plan, by its judgement, and that of a file, by what it was read as.
use mathlib.Core.Path.{◌≡◌, sym, ap, ◌∙◌}
use mathlib.Core.List.{List, ◌++◌}
use Prim.Native.Nat.{ℕ}
use Rattle.std.specs.Prelude.{map, Result, Ok, Err, IfOk}
use Rattle.refusal.specs.Number.{number_of, refusal_in}
use Rattle.refusal.specs.declared.Refusal.{Refusal}
use Rattle.plan.specs.Numbers.{numbers}
use Rattle.plan.specs.Held.{plan_from}
use Rattle.plan.specs.Refusal.{answer, refusal_of}
use Rattle.plan.specs.declared.Plan.{Plan}
use Rattle.plan.specs.declared.accepted.AcceptedPlan.{AcceptedPlan}
use Rattle.plan.proofs.Checks.{answer_refused}
use Rattle.plan.proofs.Number.{number_some}
use Rattle.planner.specs.Answers.{Judgement}
use Rattle.planner.specs.Shown.{word_number, row_shown, judgement_made}
use Rattle.planner.specs.Rows.{no_judgement}
use Rattle.planner.specs.Verdict.{judgement_of}
use Rattle.planner.specs.declared.Judged.{Judged}
use Rattle.planfile.specs.Answers.{ReadAnswer}
use Rattle.planfile.specs.Checks.{layout_refusal}
use Rattle.planfile.specs.Read.{read_answer}
use Rattle.planfile.specs.Records.{held_in}
use Rattle.reader.proofs.Answer.{filled_accepted, filled_refused}
use Rattle.listing.specs.Shown.{accepted_shown}
use Rattle.listing.specs.Text.{refused_text, lines_text, last_text, judgement_text, plan_text, text_of}

-- ---- of a plan
module _ (plan : Plan) where
  pub text_judged : (j : Judged) → judgement_made j ≡ judgement_of (numbers plan)
      → lines_text plan.patterns plan.instruments (map row_shown j.rows) ++ last_text (word_number j.word) j.short ≡ plan_text plan
  unfolding judgement_text
  text_judged j e = ap (judgement_text plan.patterns plan.instruments) e

  pub text_unjudged : (refusal : Refusal) → no_judgement (number_of refusal) ≡ judgement_of (numbers plan) → refused_text (number_of refusal) ≡ plan_text plan
  unfolding judgement_text
  text_unjudged refusal e = sym (answer_refused refused_text (number_of refusal) _ (number_some refusal)) ∙ ap (judgement_text plan.patterns plan.instruments) e

-- ---- of a file
module _ (s : List ℕ) where
  pub text_read : {plan : Plan} → record { refusal = 0; plan = plan } ≡ read_answer s → plan_text plan ≡ text_of s
  unfolding text_of
  text_read e = ap (λ (a : ReadAnswer). answer refused_text a.refusal (plan_text a.plan)) e

  pub text_refused : (refusal : Refusal) {plan : Plan} → record { refusal = number_of refusal; plan = plan } ≡ read_answer s → refused_text (number_of refusal) ≡ text_of s
  unfolding text_of
  text_refused refusal e = sym (answer_refused refused_text (number_of refusal) _ (number_some refusal)) ∙ ap (λ (a : ReadAnswer). answer refused_text a.refusal (plan_text a.plan)) e

  -- what the plan of its records is accepted or refused as
  pub accepted_read : layout_refusal s ≡ 0 → {plan : Plan} → plan ≡ plan_from (held_in s) → (result : Result AcceptedPlan Refusal)
      → refusal_in result ≡ refusal_of (numbers plan) → IfOk result (λ accepted. accepted.plan.now ≡ plan) → accepted_shown result ≡ read_answer s
  accepted_read none is (Ok accepted) e same = filled_accepted s none (same ∙ is) (ap (λ (plan : Plan). refusal_of (numbers plan)) same ∙ sym e)
  accepted_read none is (Err refusal) e same = filled_refused s none is refusal e
