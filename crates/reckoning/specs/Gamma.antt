-- Document 01, "Gammas" (document 004, equation 6).
use Rattle.std.specs.Prelude.{ℕ, eqb, ℤ, pos}
use Rattle.whole.specs.Test.{pick}
use Rattle.reckoning.specs.Reckoning.{alpha}

-- a flow of 1,000,000,000, the initial fund, in year l, and 0 otherwise
unfoldable pub unit : ℕ → ℕ → ℤ
unit l k = pick (eqb k l) (pos 1_000_000_000) (pos 0)

-- entry l of row k
unfoldable pub gamma : (r : ℕ → ℕ) (i : ℕ → ℤ) → ℕ → ℕ → ℤ
gamma r i k l = alpha r i (unit l) k
