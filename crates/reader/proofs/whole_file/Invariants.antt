-- The loop's invariant: the file is whole just where it is whole from the place reached on.
use mathlib.Core.Path.{◌≡◌}
use Prim.Native.Nat.{◌≤◌}
use lib.ListN.{length}
use Rattle.records.specs.Cursor.{whole_file}
use Rattle.records.proofs.Cursor.{rest_whole}
use Rattle.reader.proofs.whole_file.Given as goal

abbrev pub invariant-loop-record : goal.invariant-loop-record
invariant-loop-record l =
    let walk = l.record-iterator in
    (goal.iterator-loop-record).can_next walk × (goal.iterator-loop-record).is_finite walk
    × (walk.file.now ≡ l.file) × (walk.at ≡ l.end) × (l.end ≤ length l.file) × (whole_file l.file ≡ rest_whole l.file l.end)
