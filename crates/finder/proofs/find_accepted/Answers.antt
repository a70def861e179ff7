-- `finder::find_accepted` makes check 15, and then searches.
use mathlib.Core.Path.{sym, ap, ◌∙◌}
use Prim.Native.Nat.{ℕ}
use native.Mathlib.Omega.{arith}
use Rattle.plan.specs.Numbers.{numbers}
use Rattle.finder.specs.Find.{solvent_with, first_that}
use Rattle.finder.specs.Grid.{allocations}
use Rattle.finder.proofs.Parts.{among_many}
use Rattle.finder.proofs.Answer.{find_uneven, find_crowded, find_searched}
use Rattle.finder.proofs.find_accepted.Goals as goal

pub returns-in-Ok : goal.returns-in-Ok
returns-in-Ok c =
    let same = c.in-Ok.ensures.1 in
    c.search.ensures
    ∙ ap (λ (D : ℕ). first_that (solvent_with (numbers c.args.plan.plan.now)) (allocations c.args.plan.plan.now.instruments D)) same
    ∙ find_searched _ _ c.args.plan.accepted (rw same at (sym c.if-is_taken.ensures)) c.if-plan-le4.true

pub returns-in_default : goal.returns-in_default
returns-in_default c = find_crowded _ _ c.args.plan.accepted (omega (arith, c.if-plan-le4.false))

pub returns-in_default-2 : goal.returns-in_default-2
returns-in_default-2 c = find_uneven _ _ c.args.plan.accepted (rw c.in-Ok.ensures.1 at (sym c.if-is_taken.ensures))

pub returns-in_default-3 : goal.returns-in_default-3
returns-in_default-3 c = let large = c.in_default.ensures in find_uneven _ _ c.args.plan.accepted (among_many _ (omega arith))
