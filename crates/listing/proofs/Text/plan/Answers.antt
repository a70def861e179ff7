-- `listing::Text::plan` puts down a refusal's line, or the patterns' lines and the last.
use mathlib.Core.Path.{sym, ap, ◌∙◌}
use native.Mathlib.Omega.{arith}
use Rattle.planner.specs.Shown.{judgement_shown}
use Rattle.listing.proofs.File.{text_judged, text_unjudged}
use Rattle.listing.proofs.Judged.{each_there}
use Rattle.listing.proofs.Putting.{put_then, put_as, put_few}
use Rattle.listing.proofs.Text.plan.Goals as goal

pub lines-requires-clause-each : goal.lines-requires-clause-each
lines-requires-clause-each c = each_there _ c.args.plan.accepted.head.patterns_few _ (sym (ap judgement_shown c.in-Ok.is) ∙ c.judge_accepted.ensures)

pub returns-in-Ok : goal.returns-in-Ok
returns-in-Ok c = put_as (text_judged _ _ (sym (ap judgement_shown c.in-Ok.is) ∙ c.judge_accepted.ensures))
    (put_few (omega (arith, c.args.plan.accepted.head.patterns_few)) (put_then c.lines.ensures c.last.ensures))

pub returns-in-Err : goal.returns-in-Err
returns-in-Err c = put_as (text_unjudged _ _ (sym (ap judgement_shown c.in-Err.is) ∙ c.judge_accepted.ensures)) (put_few (omega arith) c.refused.ensures)
