-- `sizes_ok` is check 5: the records before the walk have passed.
use mathlib.Core.Path.{◌≡◌}
use mathlib.Core.Bool.{true}
use lib.ListN.{length}
use Rattle.whole.specs.Test.{all}
use Rattle.planfile.specs.Checks.{size_ok}
use Rattle.reader.proofs.Walks.{IsAt}
use Rattle.reader.proofs.ShapedFile.sizes_ok.Given as goal

abbrev pub invariant-loop-record : goal.invariant-loop-record
invariant-loop-record l =
    (goal.iterator-loop-record).can_next l.record-iterator × (goal.iterator-loop-record).is_finite l.record-iterator
    × IsAt l.fn.self.file.now (length l.yielded) l.record-iterator × (all (length l.yielded) (size_ok l.fn.self.file.now l.fn.self.shaped.shape) ≡ true)
