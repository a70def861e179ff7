-- What functions over a shape, or over a file that has passed checks, require. Nothing that `read` and `write` promise rests on these
-- definitions.
use Rattle.std.specs.Prelude.{◌≡◌, true, List, ℕ, ◌≤◌}
use Rattle.plan.specs.declared.Shape.{Shape}
use Rattle.planfile.specs.Groups.{groups_of}
use Rattle.planfile.specs.Checks.{roles_ok, sizes_ok}

-- a shape that check 3 takes
pub record InRange (h : Shape) : Type 0 where
  pub years_some : 1 ≤ h.years
  pub years_few : h.years ≤ 30
  pub instruments_few : h.instruments ≤ 16
  pub terms_few : h.terms ≤ 30
  pub patterns_few : h.patterns ≤ 64

-- a file whose records are those that the shape requires: it has passed checks 3 to 5
pub record Laid (s : List ℕ) (h : Shape) : Type 0 where
  pub range : InRange h
  pub roles : roles_ok s (groups_of h) ≡ true
  pub sizes : sizes_ok s h ≡ true
