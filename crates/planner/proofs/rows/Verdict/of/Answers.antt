-- `planner::rows::Verdict::of` is the verdict that the words make.
use Rattle.planner.proofs.Words.{words_verdict}
use Rattle.planner.proofs.rows.Verdict.of.Goals as goal

pub returns : goal.returns
returns c m w = words_verdict w c.before.short_bits-short.ensures (c.plan_word.ensures m w)
