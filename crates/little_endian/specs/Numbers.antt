-- The laws of each type of number: it has at most eight bytes, and what is read is written again.
use Rattle.std.specs.Prelude.{◌≡◌, ℕ, ◌*◌, ◌^◌, ◌≤◌, ◌<◌}
use Rattle.std.proofs.Common.{arith, refl}
use mathlib.Core.Logic.{⊎_elim}
use borrow.Author.Tests.{lt-ltb, le-ltb}
use Rattle.whole.proofs.Laws.{ℕ_cases, less_more}
use Rattle.little_endian.specs.TwosComplement.{signed_of, unsigned_of}

pub few_1 : 1 ≤ 8
few_1 = omega arith

pub few_2 : 2 ≤ 8
few_2 = omega arith

pub few_4 : 4 ≤ 8
few_4 = omega arith

pub few_8 : 8 ≤ 8
few_8 = omega arith

pub signed_again : (n x : ℕ) → x < 256 ^ n → unsigned_of n (signed_of n x) ≡ x
unfolding signed_of unsigned_of
signed_again n x h = ⊎_elim
    (λ (l : 2 * x < 256 ^ n). rw (lt-ltb (2 * x) (256 ^ n) l) refl)
    (λ (l : 256 ^ n ≤ 2 * x).
    rw (le-ltb (2 * x) (256 ^ n) l, less_more x (256 ^ n) h) (omega arith))
    (ℕ_cases (2 * x) (256 ^ n))
