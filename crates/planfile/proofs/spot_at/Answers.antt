-- `planfile::spot_at` goes from group to group: record t of all groups is record `index` of those from a group on.
use mathlib.Core.Path.{◌≡◌, sym, ap, ◌∙◌}
use mathlib.Core.List.{List}
use native.Mathlib.Omega.{arith}
use borrow.Author.Rules.{rules}
use lib.ListN.{length}
use Rattle.planfile.specs.Groups.{Group, groups_of, groups_shown, spot_at}
use Rattle.planfile.proofs.Groups.{shown_first, shown_rest, shown_none}
use Rattle.planfile.proofs.spot_at.Goals as goal
use Rattle.planfile.proofs.spot_at.Goals.{After-groups_of-group-items}

module _ (c : After-groups_of-group-items) where
  here : spot_at (groups_shown c.groups_of-group-items.result) c.args.t ≡ spot_at (groups_of c.args.shape) c.args.t
  here = ap (λ (gs : List Group). spot_at gs c.args.t) c.groups_of-group-items.ensures

  few : length c.groups_of-group-items.result ≡ 8
  few = search rules

pub returns-then-index-group : goal.returns-then-index-group
returns-then-index-group c =
    let d = (goal.at.returns-then-index-group c).After-groups_of-group-items in
    sym (sym (here d) ∙ c.loop-group.invariant ∙ shown_first c.groups_of-group-items.result _ c.loop-group.group-index (omega (arith, few d)) c.loop-group.index c.if-index-group.true)

pub loop-group-preserved : goal.loop-group-preserved
loop-group-preserved c =
    let d = (goal.at.loop-group-preserved c).After-groups_of-group-items in
    c.loop-group.invariant ∙ shown_rest c.groups_of-group-items.result _ c.loop-group.group-index (omega (arith, few d)) c.loop-group.index c.if-index-group.false

pub returns : goal.returns
returns c =
    let d = (goal.at.returns c).After-groups_of-group-items in
    sym (sym (here d) ∙ c.loop-group.invariant ∙ shown_none c.groups_of-group-items.result c.loop-group.group-index c.loop-group.index (omega (arith, few d)))
