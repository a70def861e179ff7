-- `patterns::left_of` is the weighted sum of the costs, in whole amounts, where they are held (Weighing).
use mathlib.Core.Path.{◌≡◌, refl, sym, ap, ◌∙◌}
use mathlib.Core.List.{List}
use native.Mathlib.Omega.{arith}
use lib.IntN.{ℤ}
use mir.Syntax.{w64}
use mir.Val.{SFits}
use Rattle.std.specs.Prelude.{Option}
use Rattle.whole.specs.Range.{million, limit}
use Rattle.whole.specs.Floor.{floor}
use Rattle.whole.proofs.Floor.{floor_within}
use Rattle.whole.proofs.Range.{back, ok64}
use Rattle.patterns.specs.Arrays.{left_with, Weighable}
use Rattle.patterns.proofs.Weighing.{weighted_within, taken, weighed_taken, left_some, left_none}
use Rattle.patterns.proofs.left_of.Goals as goal
use Rattle.patterns.proofs.left_of.Goals.{In-Some, After-down}

module _ (c : In-Some) where
  weighable : Weighable c.args.n c.in-Some.costs c.args.p.now.shares
  weighable = (rw c.in-Some.is at c.requires) refl

pub weighed-requires : goal.weighed-requires
weighed-requires c = taken (weighable c.before)

pub down-requires : goal.down-requires
down-requires c =
    let s = (goal.at.down-requires c).In-Some in
    simp (back, ok64 c.weighed.result c.weighed.type_inv) (weighted_within (taken (weighable s)) c.weighed.ensures)

-- what is left
module _ (c : After-down) where
  abbrev held : In-Some
  held = (goal.at.After-down c).In-Some

  down_is : c.down.result ≡ floor c.weighed.result million
  down_is = simp (back, ok64 c.weighed.result c.weighed.type_inv) at c.down.ensures

  down_fits : SFits w64 c.down.result
  down_fits = ok64 c.down.result c.down.type_inv

pub returns-in-Some-clause-value : goal.returns-in-Some-clause-value
returns-in-Some-clause-value c =
    simp (back, down_fits c) (down_is c ∙ ap (λ (z : ℤ). floor z million) (c.weighed.ensures ∙ weighed_taken (weighable (held c)))
    ∙ left_some c.in-Some.costs c.args.n c.args.p.now.shares ∙ ap (λ (cost : Option (List ℤ)). left_with cost c.args.n c.args.p.now.shares) (sym c.in-Some.is))

pub returns-in-Some-clause-within : goal.returns-in-Some-clause-within
returns-in-Some-clause-within c =
    simp (back, down_fits c) (rw (down_is c) (floor_within limit (omega arith) (weighted_within (taken (weighable (held c))) c.weighed.ensures)))

pub returns-in-None-clause-value : goal.returns-in-None-clause-value
returns-in-None-clause-value c = left_none c.args.n c.args.p.now.shares ∙ ap (λ (cost : Option (List ℤ)). left_with cost c.args.n c.args.p.now.shares) (sym c.in-None.is)
