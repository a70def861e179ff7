-- A loop that fills an array of m places with f up to n: its state, its start, a turn, its end.
use Prim.Native.Nat.{ℕ, ◌+◌, ◌≤◌, ◌<◌}
use mathlib.Core.Path.{◌≡◌, sym, ◌∙◌}
use mathlib.Core.List.{List}
use native.Mathlib.Omega.{arith}
use lib.ListN.{set, replicate}
use Rattle.whole.specs.Table.{table}
use Rattle.whole.proofs.Table.{table_none, table_more, table_cong}

-- v has the first k, and d at the other places
pub record Filling {A : Type 0} (m n : ℕ) (f : ℕ → A) (d : A) (v : List A) (k : ℕ) : Type 0 where
  pub upto : k ≤ n
  pub is : v ≡ table m k f d

module _ {A : Type 0} {m n : ℕ} {f : ℕ → A} {d : A} where
  pub fill_start : Filling m n f d (replicate m d) 0
  fill_start = record { upto = omega arith; is = sym (table_none m f d) }

  pub fill_turn : {v : List A} {k : ℕ} {x : A} → n ≤ m → k < n → Filling m n f d v k → x ≡ f k → Filling m n f d (set v k x) (k + 1)
  fill_turn {v} {k} few l s e = record { upto = omega arith; is = rw (s.is, e) (table_more m k f d (omega arith)) }

  pub fill_end : {v : List A} {k : ℕ} → n ≤ k → Filling m n f d v k → v ≡ table m n f d
  fill_end {v} {k} l s = let e : k ≡ n = omega (arith, s.upto) in rw e at s.is

  -- what it was filled with, by another name
  pub fill_as : {g : ℕ → A} {v : List A} {k : ℕ} → n ≤ k → Filling m n f d v k → ((j : ℕ) → j < n → f j ≡ g j) → v ≡ table m n g d
  fill_as {g} l s same = fill_end l s ∙ table_cong m n f g d same
