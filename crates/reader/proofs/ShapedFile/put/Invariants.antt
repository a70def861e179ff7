-- `put` reads record after record: the plan is that after t records (Filling, `plan_after`), and the walk is at the next.
use mathlib.Core.Path.{◌≡◌}
use Prim.Native.Nat.{◌≤◌}
use Rattle.planfile.specs.Groups.{groups_of, total}
use Rattle.reader.proofs.Walks.{IsAt}
use Rattle.reader.proofs.Filling.{plan_after}
use Rattle.reader.proofs.ShapedFile.put.Given as goal

abbrev pub invariant-loop-t : goal.invariant-loop-t
invariant-loop-t l =
    let h = l.fn.self.shaped.shape in
    let t = l.t-iterator.count in
    (goal.iterator-loop-t).can_next l.t-iterator × (goal.iterator-loop-t).is_finite l.t-iterator
    × (t ≤ total (groups_of h)) × IsAt l.fn.self.file.now t l.t-iterator.iter × (l.plan ≡ plan_after l.fn.self.file.now h t)
