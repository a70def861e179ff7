-- `writer::Pen::numbers` puts down number after number.
use lib.ListN.{length, get_or}
use mathlib.Core.List.{map}
use Rattle.writer.proofs.Put.{Numbered}
use Rattle.writer.proofs.Pen.numbers.Given as goal

abbrev pub invariant-loop-x : goal.invariant-loop-x
invariant-loop-x g l = let n = g.T.Number in Numbered n.SIZE (length l.xs) (λ k. get_or (map n.bits_of l.xs) k 0) l.initial.self l.self l.x-index
