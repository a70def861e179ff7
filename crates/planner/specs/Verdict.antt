-- Document 01, "Bound, form, verdict": the words, over a plan's numbers P.
use Rattle.std.specs.Prelude.{Bool, List, ℕ, zero, suc, ◌+◌, ◌*◌, eqb, replicate, ℤ, pos, ◌+ℤ◌}
use Rattle.std.specs.Int.Signed.{le_z}
use Rattle.whole.specs.Test.{pick, both, all}
use Rattle.whole.specs.Table.{table}
use Rattle.plan.specs.Numbers.{Numbers}
use Rattle.plan.specs.Refusal.{answer, first_of, check, refusal_of}
use Rattle.patterns.specs.Pattern.{Shared, shared_of, fund_at, bound_at, constant_at, coefficients_at, flow_fits, coefficients_fit, constant_fits}
use Rattle.planner.specs.Answers.{PatternRow, VerdictAnswer, Judgement}

-- words are numbers from 1, in this order
abbrev pub solvent : ℕ
solvent = 1

abbrev pub short : ℕ
short = 2

abbrev pub close : ℕ
close = 3

-- the word of a pattern whose fund is z, with the bound b, against c
unfoldable pub word_of : (z b c : ℤ) → ℕ
word_of z b c = pick (le_z c z) solvent (pick (le_z (z +ℤ b) c) short close)

-- one word of bits: the lowest is that of p 0, and n are looked at
unfoldable pub bits_of : (n : ℕ) → (p : ℕ → Bool) → ℕ
bits_of zero p = 0
bits_of (suc n) p = pick (p 0) 1 0 + 2 * bits_of n (λ t. p (suc t))

-- the word of a plan with m patterns, from their words and the short ones as bits: short if any bit is set, solvent if every
-- pattern is, else close
abbrev pub plan_word_of : (m : ℕ) (word : ℕ → ℕ) (bits : ℕ) → ℕ
plan_word_of m word bits = pick (eqb bits 0) (pick (all m (λ t. eqb (word t) solvent)) solvent close) short

-- what a refusal holds
abbrev pub no_verdict : ℕ → VerdictAnswer
no_verdict number = record { refusal = number; words = replicate 64 0; short = 0; word = 0 }

abbrev pub no_pattern_row : PatternRow
no_pattern_row = record { word = 0; fund = pos 0; bound = pos 0; coefficients = replicate 16 (pos 0); constant = pos 0 }

-- ---- what a pattern of the rates i comes to
module _ (S : Shared) (i : ℕ → ℤ) where
  -- check 11 for all that it reckons: the allocation's flow, every instrument and the flow of Q
  unfoldable pub row_fits : Bool
  row_fits = both (flow_fits S i) (both (coefficients_fit S i) (constant_fits S i))

  -- its word, by its fund with what is left inside and B, against 0
  unfoldable pub word_at : ℕ
  word_at = word_of (fund_at S i) (pos (bound_at S i)) (pos 0)

  unfoldable pub row_at : PatternRow
  row_at = record {
    word = word_at;
    fund = fund_at S i;
    bound = pos (bound_at S i);
    coefficients = coefficients_at S i;
    constant = constant_at S i;
  }

-- ---- the verdict
module _ (P : Numbers) where
  -- what pattern t comes to: its fund, its word, and all of its row
  unfoldable pub fund_of : (t : ℕ) → ℤ
  fund_of t = fund_at (shared_of P) (P.i t)

  unfoldable pub pattern_word : (t : ℕ) → ℕ
  pattern_word t = word_at (shared_of P) (P.i t)

  unfoldable pub row_of : (t : ℕ) → PatternRow
  row_of t = row_at (shared_of P) (P.i t)

  -- the verdict's checks: 3 and 6 to 9, with 13 right before 8, then 11 in every pattern
  unfoldable pub verdict_refusal : ℕ
  verdict_refusal = first_of (refusal_of P) (check (all P.patterns (λ t. row_fits (shared_of P) (P.i (1 + t)))) 11 0)

  -- bit t - 1 is set if pattern t is short
  unfoldable pub short_bits : ℕ
  short_bits = bits_of P.patterns (λ t. eqb (pattern_word (1 + t)) short)

  unfoldable pub plan_word : ℕ
  plan_word = plan_word_of P.patterns (λ t. pattern_word (1 + t)) short_bits

  unfoldable pub verdict_answer : VerdictAnswer
  verdict_answer = answer no_verdict verdict_refusal
      (record { refusal = 0; words = table 64 P.patterns (λ t. pattern_word (1 + t)) 0; short = short_bits; word = plan_word })

  -- every pattern's row, beside the verdict
  unfoldable pub rows_of : List PatternRow
  rows_of = answer (λ n. replicate 64 no_pattern_row) verdict_refusal (table 64 P.patterns (λ t. row_of (1 + t)) no_pattern_row)

  unfoldable pub judgement_of : Judgement
  judgement_of = record { verdict = verdict_answer; rows = rows_of }
