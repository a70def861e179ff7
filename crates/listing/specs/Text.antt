-- Document 01, "What the program prints": the text, byte for byte. A byte stands for a character by its ASCII code: 32 is a space,
-- 45 a minus sign, 10 a line feed.
use Rattle.std.specs.Prelude.{List, [], ◌∷◌, ◌++◌, ℕ, zero, suc, ◌+◌, ◌/◌, ◌%◌, ltb, eqb, ℤ, pos, negsuc, get_or}
use Rattle.std.specs.Int.Count.{ones, count_trailing_zeros}
use Rattle.whole.specs.Test.{pick}
use Rattle.plan.specs.Numbers.{numbers}
use Rattle.plan.specs.Refusal.{answer}
use Rattle.plan.specs.declared.Plan.{Plan}
use Rattle.planner.specs.Verdict.{solvent, short, judgement_of}
use Rattle.planner.specs.Rows.{row_in}
use Rattle.planner.specs.Answers.{PatternRow}
use Rattle.planner.specs.Answers.{Judgement}
use Rattle.planfile.specs.Read.{read_answer}

-- ---- numbers
-- a number below 10^k in base ten: the highest digit first, and no zero in front
unfoldable pub digits_in : (k n : ℕ) → List ℕ
digits_in zero n = []
digits_in (suc k) n = pick (ltb n 10) [] (digits_in k (n / 10)) ++ ((48 + n % 10) ∷ [])

-- any number of 64 bits
abbrev pub decimal : ℕ → List ℕ
decimal = digits_in 20

-- a whole number: `negsuc a` is -1 - a
unfoldable pub signed_text : ℤ → List ℕ
signed_text (pos n) = decimal n
signed_text (negsuc a) = (45 ∷ []) ++ decimal (a + 1)

-- ---- words
-- solvent, short, close, by their numbers 1, 2, 3
unfoldable pub word_text : (word : ℕ) → List ℕ
word_text w =
    pick (eqb w solvent) (115 ∷ 111 ∷ 108 ∷ 118 ∷ 101 ∷ 110 ∷ 116 ∷ [])
    (pick (eqb w short) (115 ∷ 104 ∷ 111 ∷ 114 ∷ 116 ∷ [])
    (99 ∷ 108 ∷ 111 ∷ 115 ∷ 101 ∷ []))

-- ---- lines
-- a number's field: one space stands before it
abbrev pub field : ℤ → List ℕ
field z = (32 ∷ []) ++ signed_text z

-- the fields of the first n amounts of an array
unfoldable pub fields : (n : ℕ) → List ℤ → List ℕ
fields zero zs = []
fields (suc n) zs = fields n zs ++ field (get_or zs n (pos 0))

-- the amounts of a pattern's line, with n instruments: fund, B, K_1 to K_n, Q
unfoldable pub amounts_text : (n : ℕ) → PatternRow → List ℕ
amounts_text n row = field row.fund ++ field row.bound ++ fields n row.coefficients ++ field row.constant

-- the line of pattern t: number, word, and the amounts
unfoldable pub line_text : (n t : ℕ) → PatternRow → List ℕ
line_text n t row = decimal t ++ (32 ∷ []) ++ word_text row.word ++ amounts_text n row ++ (10 ∷ [])

-- the lines of patterns 1 to m; row t - 1 of the array is pattern t's
unfoldable pub lines_text : (m n : ℕ) → List PatternRow → List ℕ
lines_text zero n rows = []
lines_text (suc m) n rows = lines_text m n rows ++ line_text n (m + 1) (row_in rows m)

-- the lowest short number, from the word of bits in which bit t - 1 is set if pattern t is short; 0 if none is
unfoldable pub lowest_short : (bits : ℕ) → ℕ
lowest_short bits = pick (eqb bits 0) 0 (count_trailing_zeros 64 bits + 1)

-- the last line: the plan's word, how many patterns are short, and the lowest short number
unfoldable pub last_text : (word bits : ℕ) → List ℕ
last_text word bits = word_text word ++ field (pos (ones bits)) ++ field (pos (lowest_short bits)) ++ (10 ∷ [])

-- a refusal's line: `refused` and its number
unfoldable pub refused_text : (number : ℕ) → List ℕ
refused_text number = (114 ∷ 101 ∷ 102 ∷ 117 ∷ 115 ∷ 101 ∷ 100 ∷ 32 ∷ []) ++ decimal number ++ (10 ∷ [])

-- ---- the whole text
-- that of a judgement over m patterns and n instruments
unfoldable pub judgement_text : (m n : ℕ) → Judgement → List ℕ
judgement_text m n s =
    answer refused_text s.verdict.refusal (lines_text m n s.rows ++ last_text s.verdict.word s.verdict.short)

-- that of a plan, which is its judgement's
abbrev pub plan_text : Plan → List ℕ
plan_text plan = judgement_text plan.patterns plan.instruments (judgement_of (numbers plan))

-- that of a file: a refusal's line where it is not read as a plan, else the plan's text
unfoldable pub text_of : (file : List ℕ) → List ℕ
text_of file = answer refused_text (read_answer file).refusal (plan_text (read_answer file).plan)
