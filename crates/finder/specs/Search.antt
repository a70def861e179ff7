-- What the recursion asks of each allocation that it goes through, of what all patterns share, their rates and their lines.
use Rattle.std.specs.Prelude.{◌≡◌, Bool, List, [], ℕ, ◌+◌, ◌<◌, length, get_or, pos, ℤ, true, Option, Some, None}
use Rattle.std.specs.Int.Signed.{le_z}
use Rattle.std.specs.List.{list_all}
use Rattle.whole.specs.Range.{million}
use Rattle.whole.specs.Sum.{sum_ℕ}
use Rattle.whole.specs.Test.{both}
use Rattle.reckoning.specs.Arrays.{rates_of}
use Rattle.reckoning.specs.declared.NewMoney.{NewMoney}
use Rattle.plan.specs.Numbers.{Numbers}
use Rattle.patterns.specs.Arrays.{shared_in, Allocated}
use Rattle.patterns.specs.declared.common.Common.{Common}
use Rattle.finder.specs.declared.lines.Line.{Line}
use Rattle.finder.specs.declared.splits.Split.{Split}
use Rattle.finder.specs.Answers.{FindAnswer}
use Rattle.finder.specs.Find.{not_found}
use Rattle.finder.specs.Lines.{line_from, line_of, fund_passes, height_over, wide_of}

-- a line's five numbers
abbrev pub numbers_in : Line → List ℤ
numbers_in line = line_from line.coefficients line.constant

-- shares of 1,000,000 together can be looked at
abbrev pub Looks : Common → Type 0
Looks c = (shares : List ℕ) → sum_ℕ c.instruments (λ j. get_or shares j 0) ≡ million → Allocated c (wide_of shares)

-- four shares lie below none of the lines
unfoldable pub below_none : (lines : List Line) (shares : List ℕ) → Bool
below_none lines shares = list_all (λ line. le_z (pos 0) (height_over (numbers_in line) shares)) lines

-- their allocation passes at each of the rates
unfoldable pub looked : (c : Common) (rates : List NewMoney) (shares : List ℕ) → Bool
looked c rates shares = list_all (λ i. fund_passes (shared_in c (wide_of shares)) (rates_of i.rates)) rates

-- both
unfoldable pub passes : (c : Common) (rates : List NewMoney) (lines : List Line) (shares : List ℕ) → Bool
passes c rates lines shares = both (below_none lines shares) (looked c rates shares)

-- what a branch of the recursion comes to, with four shares where one is found
abbrev pub split_shown : Option Split → FindAnswer
split_shown (Some s) = record { refusal = 0; found = true; shares = s.shares }
split_shown None = not_found 0

-- ---- the rates and the lines of all patterns
pub record RatesOf (P : Numbers) (rates : List NewMoney) : Type 0 where
  pub many : length rates ≡ P.patterns
  pub each : (t : ℕ) (i : NewMoney) → t < P.patterns → rates_of (get_or rates t i).rates ≡ P.i (1 + t)

pub record LinesOf (c : Common) (rates : List NewMoney) (lines : List Line) : Type 0 where
  pub many : length lines ≡ length rates
  pub each : (t : ℕ) (i : NewMoney) (line : Line) → t < length rates → numbers_in (get_or lines t line) ≡ line_of (shared_in c []) (rates_of (get_or rates t i).rates)
