-- `HeadedPlan::check_amounts` is the first of the checks 6 and 7 that fails.
use mathlib.Core.Path.{sym, ◌∙◌}
use Rattle.plan.specs.Refusal.{amounts_refusal}
use Rattle.plan.proofs.Checks.{rollover_ok_law}
use Rattle.plan.proofs.headed.HeadedPlan.check_amounts.Goals as goal

pub returns-then-not-amounts_ok : goal.returns-then-not-amounts_ok
unfolding amounts_refusal
returns-then-not-amounts_ok c = rw (sym c.amounts_ok.ensures ∙ c.if-not-amounts_ok.true)

pub returns-then-not-is_whole : goal.returns-then-not-is_whole
unfolding amounts_refusal
returns-then-not-is_whole c =
    rw (sym c.amounts_ok.ensures ∙ c.if-not-amounts_ok.false, sym (c.is_whole.ensures ∙ rollover_ok_law c.args.self.plan.now) ∙ c.if-not-is_whole.true)

pub returns : goal.returns
unfolding amounts_refusal
returns c = rw (sym c.amounts_ok.ensures ∙ c.if-not-amounts_ok.false, sym (c.is_whole.ensures ∙ rollover_ok_law c.args.self.plan.now) ∙ c.if-not-is_whole.false)
