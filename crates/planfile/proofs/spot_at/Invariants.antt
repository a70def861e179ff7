-- `planfile::spot_at` goes from group to group: record t of all groups is record `index` of those from a group on.
use mathlib.Core.Path.{◌≡◌}
use lib.ListN.{drop}
use Rattle.planfile.specs.Groups.{spot_at, groups_shown}
use Rattle.planfile.proofs.spot_at.Given as goal

abbrev pub invariant-loop-group : goal.invariant-loop-group
invariant-loop-group l = spot_at (groups_shown l.group-items) l.t ≡ spot_at (groups_shown (drop l.group-index l.group-items)) l.index
