-- The verdict: what its refusal is, the ways out of judging a plan, and what its words say.
use mathlib.Core.Path.{◌≡◌, refl, sym, ap, ap₂, ◌∙◌}
use mathlib.Core.Bool.{Bool, true, false}
use mathlib.Core.List.{List}
use Prim.Native.Nat.{ℕ, ◌+◌, ◌≤◌, ◌<◌}
use native.Mathlib.Omega.{arith}
use borrow.Author.Tests.{eqb-true, eqb-false}
use lib.Dec.{eqb}
use lib.ListN.{get_or, replicate}
use lib.IntN.{ℤ, ◌+ℤ◌}
use lib.Signed.{le_z, ◌≤ℤ◌}
use Rattle.std.specs.Prelude.{Err}
use Rattle.refusal.specs.Number.{number_of}
use Rattle.refusal.specs.declared.Refusal.{Refusal}
use Rattle.whole.specs.Test.{pick, all}
use Rattle.whole.specs.Table.{table}
use Rattle.whole.proofs.Test.{all_at, all_cong, le_true}
use Rattle.whole.proofs.Table.{table_at}
use Rattle.plan.specs.Numbers.{Numbers}
use Rattle.plan.specs.Refusal.{refusal_of, Accepted}
use Rattle.plan.proofs.Checks.{first_some, accepted_none}
use Rattle.plan.proofs.Number.{number_some}
use Rattle.patterns.specs.Pattern.{shared_of}
use Rattle.planner.specs.Verdict.{
  solvent,
  short,
  close,
  word_of,
  bits_of,
  plan_word_of,
  no_verdict,
  no_pattern_row,
  row_fits,
  pattern_word,
  row_of,
  verdict_refusal,
  short_bits,
  plan_word,
  verdict_answer,
  rows_of,
  judgement_of,
}
use Rattle.planner.specs.Rows.{no_judgement, verdict_of}
use Rattle.planner.specs.Shown.{judgement_shown}
use Rattle.planner.specs.Answers.{PatternRow}
use Rattle.planner.specs.Answers.{VerdictAnswer}
use Rattle.planner.specs.Answers.{Judgement}
use Rattle.planner.proofs.Answers.{out_number, out_accepted}
use Rattle.planner.proofs.Bits.{bits_cong}

-- ---- the verdict that m words make, and that of an array which holds them
abbrev pub verdict_by : (m : ℕ) (word : ℕ → ℕ) → VerdictAnswer
verdict_by m word = record {
  refusal = 0;
  words = table 64 m word 0;
  short = bits_of m (λ t. eqb (word t) short);
  word = plan_word_of m word (bits_of m (λ t. eqb (word t) short));
}

made_by : (m : ℕ) (word : ℕ → ℕ) → m ≤ 64 → {words : List ℕ} → words ≡ table 64 m word 0 → verdict_of m words ≡ verdict_by m word
made_by m word few {words} e =
    let same : (t : ℕ) → t < m → get_or words t 0 ≡ word t = λ t l. ap (λ (words : List ℕ). get_or words t 0) e ∙ table_at 64 m word 0 0 t l few in
    let shorts : bits_of m (λ t. eqb (get_or words t 0) short) ≡ bits_of m (λ t. eqb (word t) short) = bits_cong m _ _ (λ t l. ap (λ (x : ℕ). eqb x short) (same t l)) in
    let solvents : all m (λ t. eqb (get_or words t 0) solvent) ≡ all m (λ t. eqb (word t) solvent) = all_cong m _ _ (λ t l. ap (λ (x : ℕ). eqb x solvent) (same t l)) in
    rw (shorts, solvents, e)

abbrev judgement : VerdictAnswer → List PatternRow → Judgement
judgement v rows = record { verdict = v; rows = rows }

module _ (P : Numbers) where
  -- ---- the refusal
  pub plan_refuses : (e : Refusal) → number_of e ≡ refusal_of P → number_of e ≡ verdict_refusal P
  unfolding verdict_refusal
  plan_refuses e k = k ∙ sym (first_some (refusal_of P) _ (λ z. number_some e (k ∙ z)))

  module _ (ok : Accepted P) where
    pub pattern_refuses : all P.patterns (λ t. row_fits (shared_of P) (P.i (1 + t))) ≡ false → 11 ≡ verdict_refusal P
    unfolding verdict_refusal
    pattern_refuses e = rw (accepted_none ok, e)

    none_refuses : all P.patterns (λ t. row_fits (shared_of P) (P.i (1 + t))) ≡ true → 0 ≡ verdict_refusal P
    unfolding verdict_refusal
    none_refuses e = rw (accepted_none ok, e)

  -- ---- the ways out
  pub judge_refused : {number : ℕ} → number ≡ verdict_refusal P → (number ≡ 0 → ⊥) → no_judgement number ≡ judgement_of P
  unfolding judgement_of verdict_answer rows_of
  judge_refused e h = ap₂ judgement (out_number no_verdict _ e h) (out_number (λ n. replicate 64 no_pattern_row) _ e h)

  pub judged_refused : (e : Refusal) → number_of e ≡ verdict_refusal P → judgement_shown (Err e) ≡ judgement_of P
  judged_refused e k = judge_refused k (number_some e)

  pub judge_made : Accepted P → all P.patterns (λ t. row_fits (shared_of P) (P.i (1 + t))) ≡ true → {words : List ℕ} {rows : List PatternRow} {v : VerdictAnswer} →
      words ≡ table 64 P.patterns (λ t. pattern_word P (1 + t)) 0 → rows ≡ table 64 P.patterns (λ t. row_of P (1 + t)) no_pattern_row → v ≡ verdict_of P.patterns words →
      record { verdict = v; rows = rows } ≡ judgement_of P
  unfolding judgement_of verdict_answer rows_of short_bits plan_word
  judge_made ok fit words_are rows_are e =
      let none = none_refuses ok fit in
      ap₂ judgement (out_accepted no_verdict none (e ∙ made_by P.patterns (λ t. pattern_word P (1 + t)) ok.head.patterns_few words_are)) (out_accepted (λ n. replicate 64 no_pattern_row) none rows_are)

  -- the verdict of a judgement
  pub verdict_judged : {j : Judgement} → j ≡ judgement_of P → j.verdict ≡ verdict_answer P
  unfolding judgement_of
  verdict_judged e = ap (λ (j : Judgement). j.verdict) e

-- ---- what a pattern's word says of its fund z and bound b, against c
module _ (z b c : ℤ) where
  pub word_solvent : word_of z b c ≡ solvent → c ≤ℤ z
  unfolding word_of
  word_solvent = go (le_z c z) (le_z (z +ℤ b) c) refl
    where
      go : (y s : Bool) → le_z c z ≡ y → pick y solvent (pick s short close) ≡ solvent → c ≤ℤ z
      go true s e h = le_true c z e
      go false true e h = absurd (omega arith)
      go false false e h = absurd (omega arith)

  pub word_short : word_of z b c ≡ short → (z +ℤ b) ≤ℤ c
  unfolding word_of
  word_short = go (le_z c z) (le_z (z +ℤ b) c) refl
    where
      go : (y s : Bool) → le_z (z +ℤ b) c ≡ s → pick y solvent (pick s short close) ≡ short → (z +ℤ b) ≤ℤ c
      go true s e h = absurd (omega arith)
      go false true e h = le_true (z +ℤ b) c e
      go false false e h = absurd (omega arith)

-- ---- what the plan's word says of m words
module _ (m : ℕ) (word : ℕ → ℕ) (bits : ℕ) where
  pub plan_solvent : plan_word_of m word bits ≡ solvent → (t : ℕ) → t < m → word t ≡ solvent
  plan_solvent h t l = eqb-true (word t) solvent (all_at m (λ t. eqb (word t) solvent) t l (go (eqb bits 0) (all m (λ t. eqb (word t) solvent)) h))
    where
      go : (y s : Bool) → pick y (pick s solvent close) short ≡ solvent → s ≡ true
      go true true e = refl
      go true false e = absurd (omega arith)
      go false s e = absurd (omega arith)

  pub plan_short : plan_word_of m word bits ≡ short → bits ≡ 0 → ⊥
  plan_short h = eqb-false bits 0 (go (eqb bits 0) (all m (λ t. eqb (word t) solvent)) h)
    where
      go : (y s : Bool) → pick y (pick s solvent close) short ≡ short → y ≡ false
      go true true e = absurd (omega arith)
      go true false e = absurd (omega arith)
      go false s e = refl
