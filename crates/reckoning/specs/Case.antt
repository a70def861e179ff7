-- Document 01, "Edges": the starred cases of the bound and of the gammas.
use Rattle.std.specs.Prelude.{List, [], ◌∷◌, ℕ, ℤ, pos}
use Rattle.whole.specs.Entry.{nth}
use Rattle.whole.specs.Case.{Case}
use Rattle.reckoning.specs.Bound.{B}
use Rattle.reckoning.specs.Gamma.{gamma}

-- B for N = 1 is 2; for N = 2, 7 at h = 0 and 8 at h = 60,000
unfoldable pub bound_cases : List Case
bound_cases =
    record { given = pos (B 0 1); stated = pos 2 }
    ∷ record { given = pos (B 0 2); stated = pos 7 }
    ∷ record { given = pos (B 60_000 2); stated = pos 8 }
    ∷ []

-- r = 500000, 500000, i_2 = 60,000, i_3 = 80,000, N = 3: gamma rows 3 and 4 begin 560000000 and 854800000
unfoldable pub halves : ℕ → ℕ
halves = nth 0 (500_000 ∷ 500_000 ∷ [])

unfoldable pub rising : ℕ → ℤ
rising = nth (pos 0) (pos 0 ∷ pos 60_000 ∷ pos 80_000 ∷ [])

unfoldable pub gamma_cases : List Case
gamma_cases =
    record { given = gamma halves rising 3 1; stated = pos 560_000_000 }
    ∷ record { given = gamma halves rising 4 1; stated = pos 854_800_000 }
    ∷ []
