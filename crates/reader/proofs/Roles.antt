-- Two roles are the same just where their numbers are.
use mathlib.Core.Path.{◌≡◌, refl, sym, ap, ◌∙◌}
use mathlib.Core.Bool.{Bool, true, false, not}
use mathlib.Core.List.{List, [], ◌∷◌}
use denote.Enum.Bare.{same_true, same_false}
use borrow.Author.Tests.{eq-eqb, ne_eqb}
use lib.Dec.{eqb}
use lib.ListN.{get_or}
use Rattle.std.specs.Prelude.{Option, Some, None}
use Rattle.std.specs.Option.{option_eq}
use Rattle.planfile.specs.contracts.Role.{the_type}
use Rattle.planfile.specs.contracts.RolePartialEq.TheImpl.{eq-value}
use Rattle.planfile.specs.declared.Role.{Role}
use Rattle.planfile.specs.declared.Role.TheVariants.{Head, Instrument, Outflows, Opening, Cost, Rollover, Pattern, Allocation}
use Rattle.planfile.specs.Kinds.{role_number, role_shown}

-- the roles by their numbers
abbrev numbered : List Role
numbered = Head ∷ Head ∷ Instrument ∷ Outflows ∷ Rollover ∷ Pattern ∷ Allocation ∷ Opening ∷ Head ∷ Cost ∷ []

number_back : (a : Role) → get_or numbered (role_number a) Head ≡ a
number_back Head = refl
number_back Instrument = refl
number_back Outflows = refl
number_back Opening = refl
number_back Cost = refl
number_back Rollover = refl
number_back Pattern = refl
number_back Allocation = refl

some_role : (b : Role) → false ≡ eqb 0 (role_number b)
some_role Head = refl
some_role Instrument = refl
some_role Outflows = refl
some_role Opening = refl
some_role Cost = refl
some_role Rollover = refl
some_role Pattern = refl
some_role Allocation = refl

same : (a b : Role) → eq-value.it a b ≡ eqb (role_number a) (role_number b)
same a b = go (eq-value.it a b) refl
  where
    go : (t : Bool) → eq-value.it a b ≡ t → t ≡ eqb (role_number a) (role_number b)
    go true e = sym (eq-eqb _ _ (ap role_number (same_true the_type tt a b e)))
    go false e = sym (ne_eqb _ _ (λ n. same_false the_type a b e (sym (number_back a) ∙ ap (λ k. get_or numbered k Head) n ∙ number_back b)))

pub same_role : (a : Option Role) (b : Role) → option_eq eq-value.it a (Some b) ≡ eqb (role_shown a) (role_number b)
same_role None b = some_role b
same_role (Some a) b = same a b

-- what `!=` says of two
pub is_other : (b : Bool) → not b ≡ true → b ≡ false
is_other true e = sym e
is_other false e = refl

pub is_same : (b : Bool) → not b ≡ false → b ≡ true
is_same true e = refl
is_same false e = sym e
