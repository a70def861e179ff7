-- `roles_ok` is check 4: the records seen have passed, and the walk and the place reached are at the next.
use mathlib.Core.Path.{◌≡◌}
use mathlib.Core.Bool.{true}
use Rattle.whole.specs.Test.{all}
use Rattle.records.specs.Cursor.{place}
use Rattle.planfile.specs.Groups.{groups_of}
use Rattle.planfile.specs.Checks.{role_ok}
use Rattle.reader.proofs.Walks.{IsAt}
use Rattle.reader.proofs.ShapedFile.roles_ok.Given as goal

abbrev pub invariant-loop-t : goal.invariant-loop-t
invariant-loop-t l =
    (goal.iterator-loop-t).can_next l.t-iterator × (goal.iterator-loop-t).is_finite l.t-iterator
    × (l.t-iterator.count ≡ l.seen) × IsAt l.fn.self.file.now l.seen l.t-iterator.iter × (l.end ≡ place l.fn.self.file.now l.seen)
    × (all l.seen (role_ok l.fn.self.file.now (groups_of l.fn.self.shaped.shape)) ≡ true)
