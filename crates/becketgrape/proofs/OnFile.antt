-- What a call on a file answers, by what the file was read as.
use mathlib.Core.Path.{◌≡◌, refl, sym, ap, ◌∙◌, subst, subst₂}
use mathlib.Core.Bool.{Bool, true, false}
use mathlib.Core.List.{List}
use Prim.Native.Nat.{ℕ, zero, suc}
use native.Mathlib.Omega.{arith}
use lib.Dec.{eqb, leb}
use lib.IntN.{ℤ, pos}
use lib.ListN.{length, replicate}
use Rattle.std.specs.Result.{result_unwrap_or}
use mir.Val.{bool_byte}
use Rattle.std.specs.Prelude.{Option, Some, None, is_some, unwrap_or, Result, Ok, Err, IfOk, IsErrAnd}
use Rattle.refusal.specs.Number.{number_of, refusal_in}
use Rattle.refusal.specs.declared.Refusal.{Refusal}
use Rattle.plan.specs.declared.Plan.{Plan}
use Rattle.plan.specs.declared.accepted.AcceptedPlan.{AcceptedPlan}
use Rattle.plan.specs.Numbers.{Numbers, numbers}
use Rattle.plan.specs.Held.{no_plan, plan_from}
use Rattle.plan.specs.Refusal.{check, first_of, answer, refusal_of}
use Rattle.plan.proofs.Checks.{answer_accepted, answer_refused, not_refused}
use Rattle.planfile.specs.Read.{numbers_in, read_answer}
use Rattle.planfile.specs.Answers.{ReadAnswer, WriteAnswer, read_shown, write_shown}
use Rattle.plan.proofs.Number.{number_some}
use Rattle.planfile.proofs.Answers.{records_numbers, read_numbers}
use Rattle.planfile.specs.Checks.{shape_in, first_ok, roles_ok, sizes_ok, layout_refusal}
use Rattle.planfile.specs.Groups.{groups_of}
use Rattle.planfile.specs.Records.{held_in}
use Rattle.planfile.specs.Read.{read_refusal, records_answer}
use Rattle.records.specs.Cursor.{whole_file}
use Rattle.reckoning.specs.declared.Row.{Row}
use Rattle.reckoning.specs.Answers.{Reckoned, GammaTable, fund_shown, no_row, gammas_shown}
use Rattle.patterns.specs.declared.Form.{Form}
use Rattle.patterns.specs.Answers.{FormAnswer}
use Rattle.patterns.specs.Shown.{form_shown}
use Rattle.planner.specs.Answers.{BoundAnswer}
use Rattle.planner.specs.Shown.{bound_shown, judgement_shown}
use Rattle.patterns.specs.Pattern.{no_form}
use Rattle.planner.specs.Calls.{no_fund, no_bound, fund_answer, bound_answer, form_answer}
use Rattle.planner.specs.declared.rows.Judged.{Judged}
use Rattle.planner.specs.Verdict.{no_verdict, judgement_of, verdict_answer}
use Rattle.planner.proofs.VerdictLaws.{verdict_judged}
use Rattle.planner.specs.Demand3.{FundNear, FormNear, VerdictTrue}
use Rattle.planner.specs.Level.{LevelApart}
use Rattle.planner.proofs.Level.{level_true}
use Rattle.cash.specs.Theorem.{CashTrue}
use Rattle.cash.specs.Call.{no_cash, cash_answer}
use Rattle.cash.proofs.Call.{cash_true}
use Rattle.finder.specs.Claims.{FindTrue}
use Rattle.finder.specs.Find.{not_found, find_answer}
use Rattle.finder.specs.Answers.{FindAnswer}
use Rattle.finder.specs.Shown.{find_shown}
use Rattle.finder.proofs.Answer.{plan_11, find_11, find_true}
use Rattle.listing.proofs.Demand3.{of_file, level_exact_of}
use Rattle.becketgrape.specs.Calls.{on_reading, on_file, fund_of_file, bound_of_file, form_of_file, verdict_of_file, cash_of_file, find_of_file}
use Rattle.becketgrape.specs.Level.{LevelOfFile}

module _ {A T : Type 0} (refused : ℕ → A) (shown : Result T Refusal → A) (err : (e : Refusal) → shown (Err e) ≡ refused (number_of e)) where
  refused_shown : (n : ℕ) (r : Result T Refusal) → IsErrAnd r (λ e. number_of e ≡ n) → shown r ≡ refused n
  refused_shown n (Ok x) h = absurd h
  refused_shown n (Err e) h = err e ∙ ap refused h

  module _ (s : List ℕ) (call : Numbers → A) (r : Result T Refusal) {Post : AcceptedPlan → Type 0}
      (refusal : ((read_answer s).refusal ≡ 0 → ⊥) → IsErrAnd r (λ e. number_of e ≡ (read_answer s).refusal))
      (called : (read_answer s).refusal ≡ 0 → ((plan : AcceptedPlan) × (plan.plan.now ≡ (read_answer s).plan) × Post plan))
      (says : (plan : AcceptedPlan) → Post plan → shown r ≡ call (numbers plan.plan.now)) where
    pub file_answered : shown r ≡ on_file s refused call
    file_answered = go (read_answer s).refusal refl
      where
        go : (n : ℕ) → (read_answer s).refusal ≡ n → shown r ≡ on_file s refused call
        go zero e =
            let k = called e in
            says k.0 k.2 ∙ ap (λ (plan : Plan). call (numbers plan)) k.1 ∙ ap call (read_numbers s e) ∙ sym (answer_accepted refused (read_answer s).refusal _ e)
        go (suc n) e =
            let h : (read_answer s).refusal ≡ 0 → ⊥ = λ z. omega (arith, e, z) in
            refused_shown (read_answer s).refusal r (refusal h) ∙ sym (answer_refused refused (read_answer s).refusal _ h)

-- what holds of every refusal, and of the call's answer for a file that is read, holds of the answer
module _ (s : List ℕ) {A : Type 0} (refused : ℕ → A) (call : Numbers → A) where
  either : (r : ReadAnswer) (Q : A → Type 0) → ((n : ℕ) → (n ≡ 0 → ⊥) → Q (refused n)) → (r.refusal ≡ 0 → Q (call (numbers_in s))) → Q (on_reading s r refused call)
  either r Q if-refused if-read = go r.refusal refl
    where
      go : (n : ℕ) → r.refusal ≡ n → Q (answer refused n (call (numbers_in s)))
      go zero e = if-read e
      go (suc n) e = if-refused (suc n) (λ z. omega arith)

-- that is so of the verdict of a judgement
pub file_judged : (s : List ℕ) (r : Result Judged Refusal) {Post : AcceptedPlan → Type 0}
    → (((read_answer s).refusal ≡ 0 → ⊥) → IsErrAnd r (λ e. number_of e ≡ (read_answer s).refusal))
    → ((read_answer s).refusal ≡ 0 → ((plan : AcceptedPlan) × (plan.plan.now ≡ (read_answer s).plan) × Post plan))
    → ((plan : AcceptedPlan) → Post plan → judgement_shown r ≡ judgement_of (numbers plan.plan.now)) → (judgement_shown r).verdict ≡ verdict_of_file s
unfolding verdict_of_file
file_judged s r refusal called says =
    file_answered no_verdict (λ (r : Result Judged Refusal). (judgement_shown r).verdict) (λ e. refl) s verdict_answer r refusal called (λ plan k. verdict_judged (numbers plan.plan.now) (says plan k))

-- ---- on the records alone
module _ (s : List ℕ) {A : Type 0} (refused : ℕ → A) (call : Numbers → A) where
  pub records_refused : (e : Refusal) → read_shown (Err e) ≡ records_answer s → refused (number_of e) ≡ on_reading s (records_answer s) refused call
  records_refused e is =
      let k = ap (λ (a : ReadAnswer). a.refusal) is in
      ap refused k ∙ sym (answer_refused refused (records_answer s).refusal _ (λ z. number_some e (k ∙ z)))

  pub records_called : (plan : Plan) → read_shown (Ok plan) ≡ records_answer s → {x : A} → x ≡ call (numbers plan) → x ≡ on_reading s (records_answer s) refused call
  records_called plan is f =
      let n = sym (ap (λ (a : ReadAnswer). a.refusal) is) in
      f ∙ ap (λ (a : ReadAnswer). call (numbers a.plan)) is ∙ ap call (records_numbers s n) ∙ sym (answer_accepted refused (records_answer s).refusal _ n)

-- ---- an answer in numbers of its own: its refusal's, and what else it has, zeros where it is refused
pub fund_put : (r : Result ℤ Refusal) {n : ℕ} {z : ℤ} {a : Reckoned} → n ≡ refusal_in r → z ≡ result_unwrap_or r (pos 0) → fund_shown r ≡ a → record { refusal = n; fund = z } ≡ a
fund_put (Ok fund) n z s = rw (n, z) s
fund_put (Err e) n z s = rw (n, z) s

pub bound_put : (r : Result ℤ Refusal) {n : ℕ} {b : ℤ} {a : BoundAnswer} → n ≡ refusal_in r → b ≡ result_unwrap_or r (pos 0) → bound_shown r ≡ a → record { refusal = n; bound = b } ≡ a
bound_put (Ok bound) n b s = rw (n, b) s
bound_put (Err e) n b s = rw (n, b) s

pub form_put : (r : Result Form Refusal) {n : ℕ} {f : Form} {a : FormAnswer} → n ≡ refusal_in r → f ≡ result_unwrap_or r (record { coefficients = replicate 16 (pos 0); constant = pos 0; value = pos 0 }) → form_shown r ≡ a
    → record { refusal = n; coefficients = f.coefficients; constant = f.constant; value = f.value } ≡ a
form_put (Ok form) n f s = rw (n, f) s
form_put (Err e) n f s = rw (n, f) s

pub gammas_put : (r : Result (List Row) Refusal) {n : ℕ} {rows : List Row} {a : GammaTable} → n ≡ refusal_in r → rows ≡ result_unwrap_or r (replicate 30 no_row) → gammas_shown r ≡ a → record { refusal = n; rows = rows } ≡ a
gammas_put (Ok rows) n e s = rw (n, e) s
gammas_put (Err refusal) n e s = rw (n, e) s

pub find_put : (r : Result (Option (List ℕ)) Refusal) {n found : ℕ} {shares : List ℕ} {a : FindAnswer} → n ≡ refusal_in r → found ≡ bool_byte (is_some (result_unwrap_or r None)) → shares ≡ unwrap_or (result_unwrap_or r None) (replicate 16 0) → find_shown r ≡ a
    → record { refusal = n; found = eqb found 1; shares = shares } ≡ a
find_put (Ok (Some shares)) n f e s = rw (n, f, e) s
find_put (Ok None) n f e s = rw (n, f, e) s
find_put (Err refusal) n f e s = rw (n, f, e) s

pub read_put : (r : Result Plan Refusal) {n : ℕ} {plan : Plan} {a : ReadAnswer} → n ≡ refusal_in r → plan ≡ result_unwrap_or r no_plan → read_shown r ≡ a → record { refusal = n; plan = plan } ≡ a
read_put (Ok plan) n e s = rw (n, e) s
read_put (Err refusal) n e s = rw (n, e) s

pub write_put : (r : Result ℕ Refusal) {n length : ℕ} {a : WriteAnswer} → n ≡ refusal_in r → length ≡ result_unwrap_or r 0 → write_shown r ≡ a → record { refusal = n; length = length } ≡ a
write_put (Ok length) n e s = rw (n, e) s
write_put (Err refusal) n e s = rw (n, e) s

-- and what holds of one that is not refused
pub kept_put : {T : Type 0} (P : T → Type 0) (none : T) (r : Result T Refusal) → IfOk r P → refusal_in r ≡ 0 → P (result_unwrap_or r none)
kept_put P none (Ok x) h e = h
kept_put P none (Err refusal) h e = absurd (number_some refusal e)

-- ---- what the answers mean
module _ (s : List ℕ) (t : ℕ) where
  pub fund_near : FundNear (numbers_in s) t (fund_of_file s t)
  unfolding fund_of_file
  fund_near =
      either s no_fund (λ P. fund_answer P t) (read_answer s) (FundNear (numbers_in s) t)
      (λ n h. record { near = λ e. absurd (h e); bound = λ e. absurd (h e) }) (λ e. ((of_file s).claims e).fund t)

  -- an accepted answer is that of the call on the numbers of a file that was read
  fund_read : (fund_of_file s t).refusal ≡ 0 → (read_answer s).refusal ≡ 0
  unfolding fund_of_file
  fund_read = not_refused no_fund _ (λ (a : Reckoned). a.refusal) (λ n. refl) _

  fund_of_read : (read_answer s).refusal ≡ 0 → fund_of_file s t ≡ fund_answer (numbers_in s) t
  unfolding fund_of_file
  fund_of_read = answer_accepted no_fund (read_answer s).refusal _

  bound_of_read : (read_answer s).refusal ≡ 0 → bound_of_file s t ≡ bound_answer (numbers_in s) t
  unfolding bound_of_file
  bound_of_read = answer_accepted no_bound (read_answer s).refusal _

  pub form_near : FormNear (numbers_in s) t (form_of_file s t)
  unfolding form_of_file
  form_near =
      either s no_form (λ P. form_answer P t) (read_answer s) (FormNear (numbers_in s) t)
      (λ n h. record { near = λ e. absurd (h e); bound = λ e. absurd (h e) }) (λ e. ((of_file s).claims e).form t)

pub level_of_file : (s : List ℕ) (t : ℕ) → LevelOfFile s t (fund_of_file s t)
level_of_file s t = record {
  exact = λ e. level_exact_of s e t;
  apart = λ f pair e g.
      let a = fund_read s t e in
      let b = fund_read f t g in
      let apart = subst₂ (λ (P Q : Numbers). LevelApart P Q t (fund_answer P t) (fund_answer Q t) (bound_answer P t)) (read_numbers s a) (read_numbers f b) ((level_true (read_answer s).plan t).apart (read_answer f).plan) in
      rw (bound_of_read s t a, fund_of_read s t a, fund_of_read f t b) (apart pair (rw (fund_of_read s t a) at e) (rw (fund_of_read f t b) at g));
}

pub verdict_true : (s : List ℕ) → VerdictTrue (numbers_in s) (verdict_of_file s)
unfolding verdict_of_file
verdict_true s =
    either s no_verdict verdict_answer (read_answer s) (VerdictTrue (numbers_in s))
    (λ n h. record { pattern_solvent = λ e. absurd (h e); pattern_short = λ e. absurd (h e); plan_solvent = λ e. absurd (h e); plan_short = λ e. absurd (h e) })
    (λ e. ((of_file s).claims e).verdict)

pub cash_true_of : (s : List ℕ) (lending borrowing : List ℤ) → CashTrue (numbers_in s) lending borrowing (cash_of_file s lending borrowing)
unfolding cash_of_file
cash_true_of s lending borrowing =
    either s no_cash (λ P. cash_answer P lending borrowing) (records_answer s) (CashTrue (numbers_in s) lending borrowing)
    (λ n h. record { near = λ e. absurd (h e); bound = λ e. absurd (h e); is_solvent = λ e. absurd (h e); is_short = λ e. absurd (h e) })
    (λ e. cash_true (numbers_in s) lending borrowing)

pub find_true_of : (s : List ℕ) (D : ℕ) → FindTrue (numbers_in s) D (find_of_file s D)
unfolding find_of_file
find_true_of s D =
    either s not_found (λ P. find_answer P D) (read_answer s) (FindTrue (numbers_in s) D)
    (λ n h. record { found = λ e. absurd (h e); none = λ e. absurd (h e); refused = λ e. refl; zeros = λ e. refl; own = λ e. absurd (h e) })
    (λ e. subst (λ (P : Numbers). FindTrue P D (find_answer P D)) (read_numbers s e) (find_true (read_answer s).plan D))

-- no check of a file has the number 11, so that the search's call never has it
layout_11 : (short whole head roles sizes : Bool) (after : ℕ) → (after ≡ 11 → ⊥) → first_of (check short 1 (check whole 2 (check head 3 (check roles 4 (check sizes 5 0))))) after ≡ 11 → ⊥
layout_11 false whole head roles sizes after h e = omega arith
layout_11 true false head roles sizes after h e = omega arith
layout_11 true true false roles sizes after h e = omega arith
layout_11 true true true false sizes after h e = omega arith
layout_11 true true true true false after h e = omega arith
layout_11 true true true true true after h e = h e

read_11 : (s : List ℕ) → read_refusal s ≡ 11 → ⊥
unfolding read_refusal layout_refusal
read_11 s = layout_11 (leb (length s) 16_384) (whole_file s) (first_ok s) (roles_ok s (groups_of (shape_in s))) (sizes_ok s (shape_in s)) (refusal_of (numbers_in s)) (plan_11 (numbers_in s))

pub find_11_of : (s : List ℕ) (D : ℕ) → (find_of_file s D).refusal ≡ 11 → ⊥
unfolding find_of_file read_answer
find_11_of s D = go (read_refusal s) (read_11 s)
  where
    go : (n : ℕ) → (n ≡ 11 → ⊥) → (answer not_found (answer {A = ReadAnswer} (λ n. record { refusal = n; plan = no_plan }) n (record { refusal = 0; plan = plan_from (held_in s) })).refusal (find_answer (numbers_in s) D)).refusal ≡ 11 → ⊥
    go zero h e = find_11 (numbers_in s) D e
    go (suc n) h e = h e
