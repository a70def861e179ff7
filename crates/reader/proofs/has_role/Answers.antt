-- `has_role` looks at record t, which the walk gives after t others.
use mathlib.Core.Path.{sym, ap, ◌∙◌}
use Prim.Native.Nat.{ℕ}
use lib.Dec.{eqb}
use Rattle.planfile.specs.Kinds.{role_number}
use Rattle.planfile.proofs.Checks.{has_none}
use Rattle.reader.proofs.Roles.{same_role}
use Rattle.reader.proofs.Walks.{front, nth_stands, nth_stops, role_stands}
use Rattle.reader.proofs.has_role.Goals as goal

pub returns-in-Some : goal.returns-in-Some
returns-in-Some c =
    let y = c.in-Some.ensures.ran in
    let f = nth_stands y.0 (front c.of.ensures) y.1 y.2 in
    c.eq.ensures ∙ same_role _ _ ∙ ap (λ (k : ℕ). eqb k (role_number c.args.role)) c.role_of.ensures ∙ sym (role_stands f _)

pub returns-in-None : goal.returns-in-None
returns-in-None c = let y = c.in-None.ensures.ran in sym (has_none _ _ _ (nth_stops y.0 (front c.of.ensures) y.1 y.2))
