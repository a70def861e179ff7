-- `arrays::PlanArrays::plan` takes each part from its place.
use mathlib.Core.Path.{refl}
use Rattle.arrays.specs.Arrays.{plan_of_arrays}
use Rattle.arrays.proofs.PlanArrays.plan.Goals as goal

pub returns : goal.returns
unfolding plan_of_arrays
returns c =
    rw (
      c.put_patterns.ensures,
      c.instruments.ensures,
      c.part_of.ensures,
      c.part_of-2.ensures,
      c.part_of-3.ensures,
      c.then_some.ensures,
      c.part_of-4.ensures,
      c.then_some-2.ensures,
      c.part_of-5.ensures,
    ) refl
