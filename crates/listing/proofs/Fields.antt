-- The fields of a list of amounts.
use mathlib.Core.Path.{◌≡◌, refl, ap, ap₂, ◌∙◌}
use mathlib.Core.List.{List, ◌++◌}
use Prim.Native.Nat.{ℕ, zero, suc, ◌≤◌}
use native.Mathlib.Omega.{arith}
use lib.IntN.{ℤ, pos}
use lib.ListN.{length, take}
use Rattle.std.proofs.lemmas.List.{get_or-take, length-take-le}
use Rattle.listing.specs.Text.{field, fields}

-- those of a front of it
fields_front : (n : ℕ) (xs : List ℤ) (k : ℕ) → k ≤ n → fields k (take n xs) ≡ fields k xs
unfolding fields
fields_front n xs zero h = refl
fields_front n xs (suc k) h = ap₂ (λ a b. a ++ b) (fields_front n xs k (omega arith)) (ap field (get_or-take n xs k (pos 0) h))

pub length_front : {n : ℕ} (xs : List ℤ) → n ≤ length xs → length (take n xs) ≡ n
length_front xs h = length-take-le _ xs h

pub fields_take : (n : ℕ) (xs : List ℤ) → n ≤ length xs → fields (length (take n xs)) (take n xs) ≡ fields n xs
fields_take n xs h = ap (λ (k : ℕ). fields k (take n xs)) (length_front xs h) ∙ fields_front n xs n (omega arith)
