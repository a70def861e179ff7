-- Two's complement over n bytes: a signed z is held as z itself, and as z + 256^n where z is negative.
use Rattle.std.specs.Prelude.{ℕ, suc, ◌*◌, ◌-◌, ◌^◌, ltb, ℤ, pos, negsuc, ◌-ℤ◌}
use Rattle.whole.specs.Test.{pick}

-- the signed number of an unsigned one: from the half of 256^n on, it is less by 256^n
unfoldable pub signed_of : ℕ → ℕ → ℤ
signed_of n x = pick (ltb (2 * x) (256 ^ n)) (pos x) (pos x -ℤ pos (256 ^ n))

-- the unsigned number of a signed one: `negsuc a` is -1 - a
unfoldable pub unsigned_of : ℕ → ℤ → ℕ
unsigned_of n (pos a) = a
unsigned_of n (negsuc a) = 256 ^ n - suc a
