-- What the code makes of a plan on the way to its answers: the row of a pattern, and of the rows' words the verdict.
use Rattle.std.specs.Prelude.{List, [], ℕ, eqb, get_or, replicate, ℤ, pos}
use Rattle.whole.specs.Test.{pick}
use Rattle.patterns.specs.Pattern.{Shared}
use Rattle.planner.specs.Answers.{PatternRow, OneRow, VerdictAnswer, Judgement}
use Rattle.planner.specs.Verdict.{short, row_fits, row_at, bits_of, plan_word_of, no_verdict, no_pattern_row}

-- what a refusal holds
abbrev pub refused_row : OneRow
refused_row = record { refusal = 11; row = no_pattern_row }

abbrev pub no_judgement : ℕ → Judgement
no_judgement number = record { verdict = no_verdict number; rows = replicate 64 no_pattern_row }

-- the row of a pattern of the rates i, unless check 11 refuses one of the flows
module _ (S : Shared) (i : ℕ → ℤ) where
  unfoldable pub row_reckoned : OneRow
  row_reckoned = pick (row_fits S i) (record { refusal = 0; row = row_at S i }) refused_row

-- the row at a place, counted from 0
abbrev pub row_in : List PatternRow → (t : ℕ) → PatternRow
row_in rows t = get_or rows t (record { word = 0; fund = pos 0; bound = pos 0; coefficients = []; constant = pos 0 })

-- the verdict that m words in an array make
abbrev pub verdict_of : (m : ℕ) (words : List ℕ) → VerdictAnswer
verdict_of m words =
    let bits = bits_of m (λ t. eqb (get_or words t 0) short) in
    record { refusal = 0; words = words; short = bits; word = plan_word_of m (λ t. get_or words t 0) bits }
