-- Numbers of one width, one after the other.
use Rattle.std.specs.Prelude.{List, [], ◌++◌, ℕ, zero, suc, ◌*◌}
use Rattle.little_endian.specs.LittleEndian.{le_at, bytes_of}

-- n numbers of w bytes each, and number k of such a run
unfoldable pub run : (w n : ℕ) → (f : ℕ → ℕ) → List ℕ
run w zero f = []
run w (suc n) f = run w n f ++ bytes_of w (f n)

unfoldable pub number_at : (w : ℕ) → List ℕ → (k : ℕ) → ℕ
number_at w body k = le_at w (w * k) body
