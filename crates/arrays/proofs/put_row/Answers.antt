-- `arrays::put_row` writes one part of the array over.
use mathlib.Core.Path.{sym}
use Rattle.std.proofs.Common.{arith, ◌+◌, ◌-◌, ◌*◌}
use Rattle.std.proofs.lemmas.Slice.{put_mid-paste}
use Rattle.arrays.proofs.put_row.Goals as goal

pub returns : goal.returns
returns g c = record {
  is = put_mid-paste (30 * c.args.j) (30 * c.args.j + 30 - 30 * c.args.j) _ _ c.args.row.now 30 c.copy_from_slice.ensures.after (omega arith) (sym c.told-row);
  thirty = c.told-row;
}
