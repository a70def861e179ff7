-- `arrays::part_of` takes the first N of what stands from place `at` on.
use mathlib.Core.Path.{ap, ◌∙◌}
use Rattle.std.proofs.Common.{arith, length, take}
use Rattle.std.proofs.lemmas.Slice.{between_to_end}
use Rattle.arrays.specs.Arrays.{values_at}
use Rattle.arrays.proofs.part_of.Goals as goal

pub returns : goal.returns
unfolding values_at
returns g c =
    let xs = c.args.values.now in
    (rw c.unwrap.ensures at c.first_chunk.ensures.cases).same ∙ ap (take g.row.N) (between_to_end xs c.args.at (length xs) (omega arith))
