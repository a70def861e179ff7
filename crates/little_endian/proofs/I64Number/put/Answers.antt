-- An `i64` is stored by its bits.
use mathlib.Core.Path.{sym, ap, ◌∙◌}
use mir.Syntax.{w64}
use mir.Val.{of_z}
use mir.Facts.{to_z-of_z}
use Rattle.little_endian.specs.LittleEndian.{stored}
use Rattle.little_endian.proofs.TwosComplement.{unsigned_of_Z}
use Rattle.little_endian.proofs.I64Number.put.Goals as goal

pub returns : goal.returns
returns c =
    let a = c.args in
    c.put.ensures
    ∙ ap (stored 8 a.b.now a.at) (c.cast_unsigned.ensures ∙ ap (of_z w64) (to_z-of_z c.ranges.self) ∙ sym (unsigned_of_Z w64 a.self))
