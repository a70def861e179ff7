-- What a pattern comes to: its row by the core's answers, and the loop over all patterns.
use mathlib.Core.Path.{◌≡◌, refl, sym, ap, ap₂, ◌∙◌, subst}
use mathlib.Core.Bool.{Bool, true, false}
use mathlib.Core.List.{List, ◌++◌, map}
use mathlib.Core.Logic.{⊎_elim}
use Prim.Native.Nat.{ℕ, zero, suc, ◌+◌, ◌-◌, ◌≤◌, ◌<◌}
use native.Mathlib.Omega.{arith}
use lib.ListN.{length, get_or, set, drop, replicate}
use lib.IntN.{ℤ, pos, ◌+ℤ◌, +ℤ_idr}
use Rattle.std.specs.Prelude.{Option, Some, None, IsSome, IsSomeAnd, Ok, Err}
use Rattle.std.proofs.Common.{length-append, length-drop}
use Rattle.std.proofs.lemmas.List.{length-map, get_or-set_same, get_or-set_other, get_or_append_left, get_or-append_right, drop-replicate}
use Rattle.refusal.specs.Number.{number_of}
use Rattle.refusal.specs.declared.Refusal.{Refusal}
use Rattle.whole.specs.Test.{pick, all}
use Rattle.whole.specs.Table.{table}
use Rattle.whole.proofs.Laws.{ℕ_cases, below_more}
use Rattle.whole.proofs.Entry.{cut_in, cut_past}
use Rattle.whole.proofs.Made.{table_of}
use Rattle.whole.proofs.Test.{both_not, all_none, all_more, all_end, all_fails}
use Rattle.reckoning.specs.Answers.{Reckoned, fund_shown}
use Rattle.reckoning.specs.Arrays.{fund_fits, fund_reckoned}
use Rattle.reckoning.specs.Reckoning.{fund}
use Rattle.plan.specs.Numbers.{Numbers}
use Rattle.plan.proofs.Number.{number_some}
use Rattle.patterns.specs.Answers.{Coefficients}
use Rattle.patterns.specs.Pattern.{Shared, shared_of, flow_reckoned, fund_at, bound_at, constant_at, flow_fits, coefficients_fit, constant_fits, coefficients_reckoned}
use Rattle.patterns.specs.Shown.{coefficients_shown}
use Rattle.planner.specs.Verdict.{word_of, no_pattern_row, row_fits, word_at, row_at, pattern_word, row_of}
use Rattle.planner.specs.Rows.{row_reckoned}
use Rattle.planner.specs.Shown.{word_number, word_shown, Words, row_made, row_shown, one_shown}
use Rattle.planner.specs.Answers.{PatternRow, OneRow}
use Rattle.planner.specs.declared.rows.PatternRow.{PatternRow as RowMade}
use Rattle.planner.specs.declared.rows.Word.{Word}
use Rattle.planner.specs.declared.rows.Word.TheVariants.{Solvent, Short, Close}
use Rattle.planner.proofs.Words.{map_at}

-- ---- an answer that check 11 picks: what it says where it is refused, and where it is not
module _ {A : Type 0} (refusal : A → ℕ) (x y : A) (taken : refusal x ≡ 0) (refused : refusal y ≡ 11) where
  picked_out : (b : Bool) {s : A} → s ≡ pick b x y → (refusal s ≡ 0 → ⊥) → (b ≡ false) × (refusal s ≡ 11)
  picked_out true e h = absurd (h (ap refusal e ∙ taken))
  picked_out false e h = (refl, ap refusal e ∙ refused)

  picked_in : (b : Bool) {s : A} → s ≡ pick b x y → refusal s ≡ 0 → (b ≡ true) × (s ≡ x)
  picked_in true e h = (refl, e)
  picked_in false e h = absurd (omega (arith, sym (ap refusal e ∙ refused) ∙ h))

-- a fund
module _ (r : ℕ → ℕ) (i f : ℕ → ℤ) (N : ℕ) (left : ℤ) where
  fund_out : (e : Refusal) → fund_shown (Err e) ≡ fund_reckoned r i f N left → (fund_fits r i f N left ≡ false) × (number_of e ≡ 11)
  unfolding fund_reckoned
  fund_out e h = picked_out (λ (s : Reckoned). s.refusal) _ _ refl refl (fund_fits r i f N left) h (number_some e)

  fund_in : {z : ℤ} → fund_shown (Ok z) ≡ fund_reckoned r i f N left → (fund_fits r i f N left ≡ true) × (z ≡ fund r i N f +ℤ left)
  unfolding fund_reckoned
  fund_in h = let p = picked_in (λ (s : Reckoned). s.refusal) _ _ refl refl (fund_fits r i f N left) h refl in (p.0, ap (λ (s : Reckoned). s.fund) p.1)

module _ (S : Shared) (i : ℕ → ℤ) where
  -- ---- the ways out of a pattern
  pub row_unfunded : (e : Refusal) → fund_shown (Err e) ≡ flow_reckoned S i → one_shown (Err e) ≡ row_reckoned S i
  unfolding row_reckoned row_fits flow_fits
  row_unfunded e h = let p = fund_out _ _ _ _ _ e h in rw (p.0, p.1)

  pub row_unformed : (e : Refusal) → coefficients_shown (Err e) ≡ coefficients_reckoned S i → one_shown (Err e) ≡ row_reckoned S i
  unfolding row_reckoned row_fits coefficients_reckoned
  row_unformed e h =
      let p = picked_out (λ (s : Coefficients). s.refusal) _ _ refl refl (coefficients_fit S i) h (number_some e) in
      rw (p.0, p.1, both_not (flow_fits S i))

  pub row_unbalanced : (e : Refusal) → fund_shown (Err e) ≡ fund_reckoned S.r i S.constant_flow S.years (pos 0) → one_shown (Err e) ≡ row_reckoned S i
  unfolding row_reckoned row_fits constant_fits
  row_unbalanced e h = let p = fund_out _ _ _ _ _ e h in rw (p.0, p.1, both_not (coefficients_fit S i), both_not (flow_fits S i))

  pub row_taken : (row : RowMade) → fund_shown (Ok row.fund) ≡ flow_reckoned S i → coefficients_shown (Ok row.coefficients) ≡ coefficients_reckoned S i
      → fund_shown (Ok row.constant) ≡ fund_reckoned S.r i S.constant_flow S.years (pos 0) → row.bound ≡ pos (bound_at S i) → word_number row.word ≡ word_of row.fund row.bound (pos 0)
      → one_shown (Ok row) ≡ row_reckoned S i
  unfolding row_reckoned row_fits row_at word_at fund_at constant_at flow_fits constant_fits coefficients_reckoned
  row_taken row f k q b w =
      let c = fund_in _ _ _ _ _ f in
      let d = fund_in _ _ _ _ _ q in
      let g = picked_in (λ (s : Coefficients). s.refusal) _ _ refl refl (coefficients_fit S i) k refl in
      rw (w, b, c.0, c.1, d.0, d.1, g.0, ap (λ (s : Coefficients). s.values) g.1, +ℤ_idr (fund S.r i S.years S.constant_flow))

-- ---- the row of a plan's pattern, which check 11 takes or refuses
module _ (P : Numbers) (t : ℕ) where
  row_refused : (e : Refusal) → one_shown (Err e) ≡ row_reckoned (shared_of P) (P.i t) → (row_fits (shared_of P) (P.i t) ≡ false) × (number_of e ≡ 11)
  unfolding row_reckoned
  row_refused e h = picked_out (λ (s : OneRow). s.refusal) _ _ refl refl (row_fits (shared_of P) (P.i t)) h (number_some e)

  row_known : (row : RowMade) → one_shown (Ok row) ≡ row_reckoned (shared_of P) (P.i t) → (row_fits (shared_of P) (P.i t) ≡ true) × (row_made row ≡ row_of P t)
  unfolding row_reckoned row_of
  row_known row h = let p = picked_in (λ (s : OneRow). s.refusal) _ _ refl refl (row_fits (shared_of P) (P.i t)) h refl in (p.0, ap (λ (s : OneRow). s.row) p.1)

-- ---- the loop over the patterns: the first t rows are those of patterns 1 to t, and check 11 takes them
abbrev IsRow : Numbers → (rows : List (Option RowMade)) (t : ℕ) → Type 0
IsRow P rows t = IsSomeAnd (get_or rows t None) (λ row. row_made row ≡ row_of P (1 + t))

pub record Rowed (P : Numbers) (rows : List (Option RowMade)) (t : ℕ) : Type 0 where
  pub upto : t ≤ P.patterns
  pub done : (s : ℕ) → s < t → IsRow P rows s
  pub fit : all t (λ s. row_fits (shared_of P) (P.i (1 + s))) ≡ true

module _ (P : Numbers) (rows : List (Option RowMade)) where
  pub rows_start : Rowed P rows 0
  rows_start = record { upto = omega arith; done = λ s l. absurd (omega arith); fit = all_none _ }

  module _ {t : ℕ} (few : t < length rows) (l : t < P.patterns) (a : Rowed P rows t) where
    pub rows_turn : (row : RowMade) → one_shown (Ok row) ≡ row_reckoned (shared_of P) (P.i (1 + t)) → Rowed P (set rows t (Some row)) (t + 1)
    rows_turn row e =
        let k = row_known P (1 + t) row e in
        record {
          upto = omega arith;
          done = below_more (IsRow P (set rows t (Some row))) t
              (λ s h. subst (λ (o : Option RowMade). IsSomeAnd o (λ row. row_made row ≡ row_of P (1 + s))) (sym (get_or-set_other rows t s (Some row) None (omega arith))) (a.done s h))
              (subst (λ (o : Option RowMade). IsSomeAnd o (λ row. row_made row ≡ row_of P (1 + t))) (sym (get_or-set_same rows t (Some row) None few)) k.1);
          fit = all_more t (λ s. row_fits (shared_of P) (P.i (1 + s))) a.fit k.0;
        }

    pub rows_refuse : (e : Refusal) → one_shown (Err e) ≡ row_reckoned (shared_of P) (P.i (1 + t)) → (all P.patterns (λ s. row_fits (shared_of P) (P.i (1 + s))) ≡ false) × (number_of e ≡ 11)
    rows_refuse e h = let k = row_refused P (1 + t) e h in (all_fails P.patterns (λ s. row_fits (shared_of P) (P.i (1 + s))) t l k.0, k.1)

-- ---- its end: an array of 64 places, whose others are empty
nothing : (n t : ℕ) → get_or (replicate {A = Option RowMade} n None) t None ≡ None
nothing zero t = refl
nothing (suc n) zero = refl
nothing (suc n) (suc t) = nothing n t

-- a word of the number 0 is none, and one of another number is there
no_word : (o : Option Word) → word_shown o ≡ 0 → o ≡ None
no_word None e = refl
no_word (Some Solvent) e = absurd (omega arith)
no_word (Some Short) e = absurd (omega arith)
no_word (Some Close) e = absurd (omega arith)

some_word : (o : Option Word) (w : Word) → word_shown o ≡ word_number w → IsSome o
some_word (Some o) w e = refl
some_word None Solvent e = absurd (omega arith)
some_word None Short e = absurd (omega arith)
some_word None Close e = absurd (omega arith)

module _ (P : Numbers) (few : P.patterns ≤ 64) (items : List (Option RowMade)) (long : length items ≡ P.patterns) {t : ℕ} (end : P.patterns ≤ t) (a : Rowed P items t) where
  abbrev pub rows_in : List (Option RowMade)
  rows_in = items ++ drop P.patterns (replicate 64 None)

  pub rows_fit : all P.patterns (λ s. row_fits (shared_of P) (P.i (1 + s))) ≡ true
  rows_fit = all_end P.patterns _ a.upto end a.fit

  size : length rows_in ≡ 64
  size = length-append items _ ∙ ap₂ ◌+◌ long (length-drop P.patterns (replicate 64 None)) ∙ omega (arith, few)

  -- where a pattern is, and where none is
  filled : (s : ℕ) → s < P.patterns → IsRow P rows_in s
  filled s l = subst (λ (o : Option RowMade). IsSomeAnd o (λ row. row_made row ≡ row_of P (1 + s))) (sym (get_or_append_left items _ None s (omega (arith, long)))) (a.done s (omega arith))

  empty : (s : ℕ) → P.patterns ≤ s → get_or rows_in s None ≡ None
  empty s l = get_or-append_right items _ P.patterns s None long l ∙ ap (λ (rows : List (Option RowMade)). get_or rows (s - P.patterns) None) (drop-replicate P.patterns 64 None) ∙ nothing (64 - P.patterns) (s - P.patterns)

  -- what is made of each row
  module _ {A : Type 0} (f : PatternRow → A) where
    made_at : (s : ℕ) → s < P.patterns → f (row_shown (get_or rows_in s None)) ≡ f (row_of P (1 + s))
    made_at s l = go (get_or rows_in s None) (filled s l)
      where
        go : (o : Option RowMade) → IsSomeAnd o (λ row. row_made row ≡ row_of P (1 + s)) → f (row_shown o) ≡ f (row_of P (1 + s))
        go (Some row) e = ap f e
        go None e = absurd e

    made_past : (s : ℕ) → P.patterns ≤ s → f (row_shown (get_or rows_in s None)) ≡ f no_pattern_row
    made_past s l = ap (λ (o : Option RowMade). f (row_shown o)) (empty s l)

    made_are : map (λ row. f (row_shown row)) rows_in ≡ table 64 P.patterns (λ t. f (row_of P (1 + t))) (f no_pattern_row)
    made_are = table_of 64 P.patterns (λ t. f (row_of P (1 + t))) (f no_pattern_row) _ few (length-map rows_in (λ row. f (row_shown row)) ∙ size) (λ s l.
        map_at (λ row. f (row_shown row)) rows_in s None (f no_pattern_row) refl ∙ ⊎_elim
        (λ (b : s < P.patterns). made_at s b ∙ sym (cut_in (f no_pattern_row) P.patterns (λ t. f (row_of P (1 + t))) s b))
        (λ (b : P.patterns ≤ s). made_past s b ∙ sym (cut_past (f no_pattern_row) P.patterns (λ t. f (row_of P (1 + t))) s b))
        (ℕ_cases s P.patterns))

  -- the rows, and their words
  pub rows_are : map row_shown rows_in ≡ table 64 P.patterns (λ t. row_of P (1 + t)) no_pattern_row
  rows_are = made_are (λ row. row)

  pub words_are : map (λ row. (row_shown row).word) rows_in ≡ table 64 P.patterns (λ t. pattern_word P (1 + t)) 0
  unfolding row_of row_at pattern_word
  words_are = made_are (λ row. row.word)

  -- an array of words that are those of the rows
  module _ (words : List (Option Word)) (e : map word_shown words ≡ map (λ row. (row_shown row).word) rows_in) where
    word_is : (s : ℕ) → word_shown (get_or words s None) ≡ (row_shown (get_or rows_in s None)).word
    word_is s =
        sym (map_at word_shown words s None 0 refl) ∙ ap (λ (words : List ℕ). get_or words s 0) e ∙ map_at (λ row. (row_shown row).word) rows_in s None 0 refl

    pub words_there : Words P.patterns words
    words_there = record {
      few = few;
      some = λ s l. go s (get_or words s None) (get_or rows_in s None) (filled s l) (word_is s);
      none = λ s l. no_word _ (word_is s ∙ made_past (λ row. row.word) s l);
    }
      where
        go : (s : ℕ) (o : Option Word) (p : Option RowMade) → IsSomeAnd p (λ row. row_made row ≡ row_of P (1 + s)) → word_shown o ≡ (row_shown p).word → IsSome o
        go s o (Some row) h k = some_word o row.word k
        go s o None h k = absurd h
