-- The number of each refusal, as the listing, the C library and the papers name it.
use Rattle.std.specs.Prelude.{◌≡◌, ◌≢◌, ℕ, Result, Ok, Err}
use Rattle.refusal.specs.declared.Refusal.{Refusal}
use Rattle.refusal.specs.declared.Refusal.TheVariants.{FileLength, Records, Head, Order, Size, Amount, Rollover, Rate, Allocation, PatternNumber, OutOfLimit, Room, Until, Lists, Parts}

abbrev pub number_of : Refusal → ℕ
number_of FileLength = 1
number_of Records = 2
number_of Head = 3
number_of Order = 4
number_of Size = 5
number_of Amount = 6
number_of Rollover = 7
number_of Rate = 8
number_of Allocation = 9
number_of PatternNumber = 10
number_of OutOfLimit = 11
number_of Room = 12
number_of Until = 13
number_of Lists = 14
number_of Parts = 15

-- the number of an answer's refusal, 0 where it has none
abbrev pub refusal_in : {A : Type 0} → Result A Refusal → ℕ
refusal_in (Ok x) = 0
refusal_in (Err refusal) = number_of refusal

-- the same of errors of any kind, by a number for each
abbrev pub number_in : {A E : Type 0} → (number : E → ℕ) → Result A E → ℕ
number_in number (Ok x) = 0
number_in number (Err e) = number e

-- numbers for errors of any kind: one that stands for a refusal has the refusal's, and none is 0
abbrev pub Numbering : {E : Type 0} → (stands : Refusal → E → Type 0) → (number : E → ℕ) → Type 0
Numbering {E} stands number = ((refusal : Refusal) (e : E) → stands refusal e → number e ≡ number_of refusal) × ((e : E) → number e ≢ 0)
