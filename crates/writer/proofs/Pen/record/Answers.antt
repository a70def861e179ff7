-- `writer::Pen::record` puts down the front, and then the numbers.
use mathlib.Core.Path.{◌≡◌, sym, ap, ◌∙◌}
use Prim.Native.Nat.{ℕ, ◌*◌}
use lib.ListN.{length}
use Rattle.little_endian.proofs.Runs.{length_run}
use Rattle.planfile.specs.Kinds.{kind_number}
use Rattle.writer.specs.Rows.{numbers_bytes}
use Rattle.writer.proofs.Put.{free_front, free_body, put_record}
use Rattle.writer.proofs.Pen.record.Goals as goal
use Rattle.writer.proofs.Pen.record.Goals.{After-SIZE}
use Rattle.writer.proofs.Pen.record.Given.{Over}

module _ (g : Over) (c : After-SIZE g) where
  size : c.SIZE.result * length c.args.xs.now ≡ length (numbers_bytes g.T.Number.SIZE g.T.Number.bits_of (length c.args.xs.now) c.args.xs.now)
  size = ap (λ (n : ℕ). n * length c.args.xs.now) c.SIZE.ensures ∙ sym (length_run g.T.Number.SIZE (length c.args.xs.now) _)

pub front-requires : goal.front-requires
front-requires g c = free_front (kind_number c.args.kind) _ _ (size g (goal.at.front-requires g c).After-SIZE) c.requires.free

pub numbers-requires : goal.numbers-requires
numbers-requires g c = free_body (kind_number c.args.kind) _ _ (size g (goal.at.numbers-requires g c).After-SIZE) c.front.ensures c.requires.free

pub returns : goal.returns
returns g c = put_record (kind_number c.args.kind) _ _ (size g (goal.at.returns g c).After-SIZE) c.front.ensures c.numbers.ensures
