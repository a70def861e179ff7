-- What the calls answer, as the papers have it: a refusal's number beside the values, 0 where there is none, and zeros where there is one.
use Rattle.std.specs.Prelude.{List, ℕ, ℤ}

-- the bound's call
pub record BoundAnswer : Type 0 where
  pub refusal : ℕ
  pub bound : ℤ

-- what one pattern comes to: its word, its fund and bound, K_1 to K_n and Q
pub record PatternRow : Type 0 where
  pub word : ℕ
  pub fund : ℤ
  pub bound : ℤ
  pub coefficients : List ℤ
  pub constant : ℤ

-- and whether check 11 takes it
pub record OneRow : Type 0 where
  pub refusal : ℕ
  pub row : PatternRow

-- the word of every pattern; the short ones as bits, bit t - 1 for pattern t; the plan's word
pub record VerdictAnswer : Type 0 where
  pub refusal : ℕ
  pub words : List ℕ
  pub short : ℕ
  pub word : ℕ

-- a verdict, and the rows that it was made of
pub record Judgement : Type 0 where
  pub verdict : VerdictAnswer
  pub rows : List PatternRow
