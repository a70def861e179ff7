-- `slope` holds the two signed numbers and the byte of the body.
use mir.Syntax.{w32}
use mir.ValLaws.{to_z-of_z}
use Rattle.little_endian.specs.Runs.{number_at}
use Rattle.reader.proofs.slope.Goals as goal

pub returns : goal.returns
unfolding number_at
returns c =
    let first = c.at in
    let second = c.at-2 in
    rw (
      to_z-of_z w32 first.result (record { sfits = first.type_inv }),
      to_z-of_z w32 second.result (record { sfits = second.type_inv }),
      first.ensures,
      second.ensures,
    )
