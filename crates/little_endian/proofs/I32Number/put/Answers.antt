-- An `i32` is stored by its bits.
use mathlib.Core.Path.{sym, ap, ◌∙◌}
use mir.Syntax.{w32}
use mir.Val.{of_z}
use mir.Facts.{to_z-of_z}
use Rattle.little_endian.specs.LittleEndian.{stored}
use Rattle.little_endian.proofs.TwosComplement.{unsigned_of_Z}
use Rattle.little_endian.proofs.I32Number.put.Goals as goal

pub returns : goal.returns
returns c =
    let a = c.args in
    c.put.ensures
    ∙ ap (stored 4 a.b.now a.at) (c.cast_unsigned.ensures ∙ ap (of_z w32) (to_z-of_z c.ranges.self) ∙ sym (unsigned_of_Z w32 a.self))
