-- What the code's answers are as the papers' records: a refusal by its number, a word by its number, and zeros where there is none.
use Rattle.std.specs.Prelude.{◌≡◌, List, map, ℕ, ◌≤◌, ◌<◌, get_or, Option, IsSome, Some, None, Result, Ok, Err, ℤ}
use Rattle.refusal.specs.Number.{number_of}
use Rattle.refusal.specs.declared.Refusal.{Refusal}
use Rattle.planner.specs.Answers.{BoundAnswer, PatternRow, OneRow, VerdictAnswer, Judgement}
use Rattle.planner.specs.Calls.{no_bound}
use Rattle.planner.specs.Rows.{no_judgement}
use Rattle.planner.specs.Verdict.{solvent, short, close, no_verdict, no_pattern_row}
use Rattle.planner.specs.declared.rows.Judged.{Judged}
use Rattle.planner.specs.declared.rows.PatternRow.{PatternRow as RowMade}
use Rattle.planner.specs.declared.rows.Verdict.{Verdict}
use Rattle.planner.specs.declared.rows.Word.{Word}
use Rattle.planner.specs.declared.rows.Word.TheVariants.{Solvent, Short, Close}

-- ---- words
abbrev pub word_number : Word → ℕ
word_number Solvent = solvent
word_number Short = short
word_number Close = close

-- the word of a pattern, 0 past the last one
abbrev pub word_shown : Option Word → ℕ
word_shown None = 0
word_shown (Some word) = word_number word

-- the words of m patterns, in an array with none past them
pub record Words (m : ℕ) (words : List (Option Word)) : Type 0 where
  pub few : m ≤ 64
  pub some : (t : ℕ) → t < m → IsSome (get_or words t None)
  pub none : (t : ℕ) → m ≤ t → get_or words t None ≡ None

-- ---- the bound's call
abbrev pub bound_shown : Result ℤ Refusal → BoundAnswer
bound_shown (Ok bound) = record { refusal = 0; bound = bound }
bound_shown (Err refusal) = no_bound (number_of refusal)

-- ---- rows
abbrev pub row_made : RowMade → PatternRow
row_made row = record { word = word_number row.word; fund = row.fund; bound = row.bound; coefficients = row.coefficients; constant = row.constant }

-- the row of a pattern, zeros past the last one
abbrev pub row_shown : Option RowMade → PatternRow
row_shown None = no_pattern_row
row_shown (Some row) = row_made row

-- one that check 11 takes, or refuses
abbrev pub one_shown : Result RowMade Refusal → OneRow
one_shown (Ok row) = record { refusal = 0; row = row_made row }
one_shown (Err refusal) = record { refusal = number_of refusal; row = no_pattern_row }

-- ---- the verdict
abbrev pub verdict_made : Verdict → VerdictAnswer
verdict_made v = record { refusal = 0; words = map word_shown v.words; short = v.short; word = word_number v.word }

abbrev pub verdict_shown : Result Verdict Refusal → VerdictAnswer
verdict_shown (Ok v) = verdict_made v
verdict_shown (Err refusal) = no_verdict (number_of refusal)

-- and with the rows that it was made of, which hold its words
abbrev pub judgement_made : Judged → Judgement
judgement_made j = record {
  verdict = record { refusal = 0; words = map (λ row. (row_shown row).word) j.rows; short = j.short; word = word_number j.word };
  rows = map row_shown j.rows;
}

abbrev pub judgement_shown : Result Judged Refusal → Judgement
judgement_shown (Ok j) = judgement_made j
judgement_shown (Err refusal) = no_judgement (number_of refusal)
