-- Ranges of whole numbers, and the two limits that document 01 names again and again.
use Rattle.std.specs.Prelude.{ℕ, ℤ, pos, neg_ℤ, ◌≤ℤ◌}

-- shares and rates are counted in millionths (document 01, "The plan and what is left aside")
abbrev pub million : ℕ
million = 1_000_000

-- no cell and no fund is taken above this (document 01, check 11)
abbrev pub limit : ℕ
limit = 1_000_000_000_000

-- z is at least a and at most b
pub record Between (a b z : ℤ) : Type 0 where
  pub low : a ≤ℤ z
  pub high : z ≤ℤ b

-- z is at most b without its sign
abbrev pub Within : ℕ → ℤ → Type 0
Within b z = Between (neg_ℤ (pos b)) (pos b) z
