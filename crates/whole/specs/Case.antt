-- The cases that document 01, "Edges", marks with a star: what the definitions give beside what the paper says.
use Rattle.std.specs.Prelude.{Bool, true, List, [], ◌∷◌, ℤ, pos, negsuc}
use Rattle.whole.specs.Floor.{share_of}
use Rattle.whole.specs.Test.{both, is_same}

pub record Case : Type 0 where
  pub given : ℤ
  pub stated : ℤ

-- the definitions give what is stated, in every case of a list
unfoldable pub agree : List Case → Bool
agree [] = true
agree (c ∷ cs) = both (is_same c.given c.stated) (agree cs)

-- share(7, 500000) = 3; share(-7, 500000) = -4; share(-1, 1) = -1; share(0, 5) = 0
unfoldable pub share_cases : List Case
share_cases =
    record { given = share_of (pos 7) (pos 500_000); stated = pos 3 }
    ∷ record { given = share_of (negsuc 6) (pos 500_000); stated = negsuc 3 }
    ∷ record { given = share_of (negsuc 0) (pos 1); stated = negsuc 0 }
    ∷ record { given = share_of (pos 0) (pos 5); stated = pos 0 }
    ∷ []
