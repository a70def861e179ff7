-- The rows of a judgement that was made.
use mathlib.Core.Path.{◌≡◌, refl, sym, ap, ◌∙◌}
use mathlib.Core.Bool.{Bool, true, false}
use mathlib.Core.List.{List}
use Prim.Native.Nat.{ℕ, ◌+◌, ◌≤◌, ◌<◌}
use native.Mathlib.Omega.{arith}
use lib.ListN.{length, get_or, replicate, take}
use Rattle.std.specs.Prelude.{Option, Some, None, is_some, map}
use Rattle.std.proofs.Math.ListN.{get_or-map as get_or-mapped}
use Rattle.std.proofs.lemmas.List.{get_or-map, get_or-take, get_or_past, length-take-le}
use mathlib.Core.Logic.{⊎_elim}
use Rattle.whole.proofs.Laws.{ℕ_cases}
use Rattle.whole.proofs.Test.{false_true}
use Rattle.whole.specs.Test.{pick}
use Rattle.whole.specs.Table.{table}
use Rattle.whole.proofs.Table.{table_at}
use Rattle.plan.specs.Numbers.{Numbers}
use Rattle.plan.proofs.Checks.{not_refused, answer_accepted}
use Rattle.planner.specs.Answers.{PatternRow, VerdictAnswer, Judgement}
use Rattle.planner.specs.Rows.{row_in}
use Rattle.planner.specs.Shown.{row_made, row_shown, judgement_made}
use Rattle.planner.specs.Verdict.{solvent, short, close, no_verdict, no_pattern_row, word_of, word_at, row_at as row_of_rates, row_of, rows_of, verdict_refusal, verdict_answer, judgement_of}
use Rattle.planner.specs.declared.PatternRow.{PatternRow as RowMade}
use Rattle.planner.specs.declared.Judged.{Judged}
use Rattle.listing.specs.Putting.{EachThere}

-- the first m rows, each of which is there
module _ (rows : List (Option RowMade)) {m : ℕ} (each : EachThere m rows) where
  there_are : m ≤ length rows
  there_are = ⊎_elim
      (λ (h : length rows < m). absurd (false_true (ap is_some (sym (get_or_past rows (length rows) None (omega arith))) ∙ each.there (length rows) h)))
      (λ (h : m ≤ length rows). h)
      (ℕ_cases (length rows) m)

  pub first_rows : length (take m rows) ≡ m
  first_rows = length-take-le m rows there_are

  module _ {t : ℕ} (l : t < m) where
    -- one of them, as it is shown
    pub row_at : {row : RowMade} → get_or (take m rows) t None ≡ Some row → row_in (map row_shown rows) t ≡ row_made row
    row_at e = get_or-map row_shown rows t None _ (omega (arith, there_are)) ∙ ap row_shown (sym (get_or-take m rows t None l) ∙ e)

    pub row_there : get_or (take m rows) t None ≡ None → ⊥
    row_there e = false_true (ap is_some (sym e ∙ get_or-take m rows t None l) ∙ each.there t l)

-- ---- a judgement of the numbers P: each of its patterns has a row
some_word : (a b : Bool) → pick a solvent (pick b short close) ≡ 0 → ⊥
some_word true b e = absurd (omega arith)
some_word false true e = absurd (omega arith)
some_word false false e = absurd (omega arith)

some_row : (row : Option RowMade) → ((row_shown row).word ≡ 0 → ⊥) → is_some row ≡ true
some_row None h = absurd (h refl)
some_row (Some row) h = refl

module _ (P : Numbers) (few : P.patterns ≤ 64) (j : Judged) (e : judgement_made j ≡ judgement_of P) where
  none : verdict_refusal P ≡ 0
  unfolding judgement_of verdict_answer
  none = not_refused no_verdict (verdict_refusal P) (λ (s : VerdictAnswer). s.refusal) (λ n. refl) _ (sym (ap (λ (j : Judgement). j.verdict.refusal) e))

  rows_are : map row_shown j.rows ≡ table 64 P.patterns (λ t. row_of P (1 + t)) no_pattern_row
  unfolding judgement_of rows_of
  rows_are = ap (λ (j : Judgement). j.rows) e ∙ answer_accepted (λ n. replicate 64 no_pattern_row) (verdict_refusal P) _ none

  row_is : (t : ℕ) → t < P.patterns → row_shown (get_or j.rows t None) ≡ row_of P (1 + t)
  row_is t l =
      sym (get_or-mapped row_shown j.rows t None)
      ∙ ap (λ (rows : List PatternRow). get_or rows t no_pattern_row) rows_are
      ∙ table_at 64 P.patterns (λ t. row_of P (1 + t)) no_pattern_row no_pattern_row t l few

  pub each_there : EachThere P.patterns j.rows
  unfolding row_of row_of_rates word_at word_of
  each_there = record { there = λ t l. some_row (get_or j.rows t None) (λ z. some_word _ _ (sym (ap (λ (row : PatternRow). row.word) (row_is t l)) ∙ z)) }
