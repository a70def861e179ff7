-- `numbers` makes an array of the first n numbers of a body.
use Rattle.std.proofs.Common.{rules}
use Rattle.whole.proofs.Made.{made_table}
use Rattle.little_endian.specs.Runs.{number_at}
use Rattle.reader.proofs.numbers.Goals as goal

pub returns : goal.returns
unfolding number_at
returns g c = made_table c.from_fn.ensures.items c.args.n _ c.args.zero c.requires.few (λ k y q l called. (search rules, search rules)) (λ k y q b l called. (search rules, search rules))
