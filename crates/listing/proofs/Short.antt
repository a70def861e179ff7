-- The word of bits of a plan with the numbers P: a bit is set exactly if its pattern is short. The last line's second field is how many
-- are short, its third the lowest of them.
use mathlib.Core.Path.{◌≡◌}
use mathlib.Core.Bool.{Bool}
use Prim.Native.Nat.{ℕ, ◌+◌, ◌^◌, ◌/◌, ◌%◌, ◌≤◌, ◌<◌}
use borrow.Author.Tests.{eq-eqb, ne_eqb}
use lib.Count.{ones, count_trailing_zeros}
use lib.Dec.{eqb}
use Rattle.whole.specs.Sum.{sum_ℕ}
use Rattle.whole.specs.Test.{pick}
use Rattle.plan.specs.Numbers.{Numbers}
use Rattle.planner.specs.Verdict.{short, pattern_word, short_bits}
use Rattle.planner.proofs.Bits.{bit_at, bit_past, Lowest, bits_ones, bits_lowest}
use Rattle.listing.specs.Text.{lowest_short}

module _ (P : Numbers) where
  abbrev is_short_law : (t : ℕ) → Bool
  is_short_law t = eqb (pattern_word P (1 + t)) short

  -- bit t is that of pattern 1 + t; every bit past the patterns is clear
  pub bit_short : (t : ℕ) → t < P.patterns → short_bits P / 2 ^ t % 2 ≡ pick (is_short_law t) 1 0
  unfolding short_bits
  bit_short = bit_at P.patterns is_short_law

  pub bit_clear : (t : ℕ) → P.patterns ≤ t → short_bits P / 2 ^ t % 2 ≡ 0
  unfolding short_bits
  bit_clear = bit_past P.patterns is_short_law

  -- as many are set as patterns are short
  pub counts_short : ones (short_bits P) ≡ sum_ℕ P.patterns (λ t. pick (is_short_law t) 1 0)
  unfolding short_bits
  counts_short = bits_ones P.patterns is_short_law

  pub lowest_none : short_bits P ≡ 0 → lowest_short (short_bits P) ≡ 0
  unfolding lowest_short
  lowest_none e = rw (eq-eqb (short_bits P) 0 e)

  -- the lowest is found, if there is any; patterns count from 1
  pub lowest_is : P.patterns ≤ 64 → (short_bits P ≡ 0 → ⊥) → (t : ℕ) × Lowest P.patterns is_short_law t × (lowest_short (short_bits P) ≡ t + 1)
  unfolding short_bits lowest_short
  lowest_is few some = (count_trailing_zeros 64 (short_bits P), bits_lowest P.patterns 64 is_short_law few some, rw (ne_eqb (short_bits P) 0 some))
