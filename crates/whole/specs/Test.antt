-- Tests of numbers, of which document 01's checks are made.
use Rattle.std.specs.Prelude.{ℕ, zero, suc, Bool, true, false, leb, ℤ, pos, neg_ℤ}
use Rattle.std.specs.Int.Signed.{le_z}

-- a where the test holds, else b
abbrev pub pick {ℓ} : {A : Type ℓ} → Bool → A → A → A
pick true a b = a
pick false a b = b

-- both tests hold
abbrev pub both : Bool → Bool → Bool
both true b = b
both false b = false

-- the test holds of every number below n
unfoldable pub all : ℕ → (ℕ → Bool) → Bool
all zero p = true
all (suc n) p = both (all n p) (p n)

-- a count is at least a and at most b
abbrev pub is_from : ℕ → ℕ → ℕ → Bool
is_from a b n = both (leb a n) (leb n b)

-- a whole number is at least a and at most b
unfoldable pub is_between : ℤ → ℤ → ℤ → Bool
is_between a b z = both (le_z a z) (le_z z b)

-- a whole number is at most b without its sign
abbrev pub is_within : ℕ → ℤ → Bool
is_within b = is_between (neg_ℤ (pos b)) (pos b)

-- two whole numbers are the same
unfoldable pub is_same : ℤ → ℤ → Bool
is_same x y = is_between y y x
