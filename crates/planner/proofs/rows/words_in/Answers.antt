-- `planner::rows::words_in` has the word of each row.
use Rattle.std.proofs.Common.{rules, tests}
use Rattle.std.specs.Prelude.{None}
use Rattle.planner.proofs.Words.{made_of}
use Rattle.planner.proofs.rows.words_in.Goals as goal

pub returns : goal.returns
returns c = made_of c.args.rows.now c.from_fn.ensures.items c.told-rows _ _ None None (λ k y q l called. search (rules, tests))
