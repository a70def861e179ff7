-- Numbers in bytes, the lowest byte first. A list of bytes is a list of naturals, and the place of its first byte is 0.
use Rattle.std.specs.Prelude.{List, [], ◌∷◌, ℕ, zero, suc, ◌+◌, ◌*◌, ◌/◌, ◌%◌, ◌<◌, get_or, take, drop}
use Rattle.std.proofs.lemmas.List.Edits.{sets}

-- each element of a list is a byte
pub record Bytes (s : List ℕ) : Type 0 where
  pub below : (k : ℕ) → get_or s k 0 < 256

-- the number that a list of bytes spells
unfoldable pub le_of : List ℕ → ℕ
le_of [] = 0
le_of (b ∷ bs) = b + 256 * le_of bs

-- the number that the n bytes from place `at` on spell, with zeros past the end
unfoldable pub le_at : ℕ → ℕ → List ℕ → ℕ
le_at n at s = le_of (take n (drop at s))

-- the n lowest bytes of a number
unfoldable pub bytes_of : ℕ → ℕ → List ℕ
bytes_of zero x = []
bytes_of (suc n) x = x % 256 ∷ bytes_of n (x / 256)

-- a buffer after the n lowest bytes of x were stored from place `at` on
unfoldable pub stored : ℕ → List ℕ → ℕ → ℕ → List ℕ
stored n b at x = sets b at (bytes_of n x)
