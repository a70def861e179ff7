-- An `i64` is the number of its bits.
use mathlib.Core.Path.{sym, ap, ◌∙◌}
use borrow.Author.Rules.{sfits_of}
use mir.Syntax.{w64}
use mir.Facts.{to_z-of_z}
use Rattle.little_endian.specs.TwosComplement.{signed_of}
use Rattle.little_endian.proofs.TwosComplement.{signed_to_Z}
use Rattle.little_endian.proofs.I64Number.at.Goals as goal

pub returns : goal.returns
returns c =
    to_z-of_z {w = w64} (sfits_of c.cast_signed.type_inv)
    ∙ c.cast_signed.ensures
    ∙ sym (signed_to_Z w64 c.at.result c.at.type_inv)
    ∙ ap (signed_of 8) c.at.ensures
