-- `HeadedPlan::check_rates` is the first of the checks 13 and 8 that fails.
use mathlib.Core.Path.{sym, ◌∙◌}
use Rattle.plan.specs.Refusal.{rates_refusal}
use Rattle.plan.proofs.headed.HeadedPlan.check_rates.Goals as goal

pub returns-then-not-untils_ok-clause-is : goal.returns-then-not-untils_ok-clause-is
unfolding rates_refusal
returns-then-not-untils_ok-clause-is c = rw (sym c.untils_ok.ensures.is ∙ c.if-not-untils_ok.true)

pub returns-then-not-rates_ok-clause-is : goal.returns-then-not-rates_ok-clause-is
unfolding rates_refusal
returns-then-not-rates_ok-clause-is c = rw (sym c.untils_ok.ensures.is ∙ c.if-not-untils_ok.false, sym c.rates_ok.ensures ∙ c.if-not-rates_ok.true)

pub returns-clause-is : goal.returns-clause-is
unfolding rates_refusal
returns-clause-is c = rw (sym c.untils_ok.ensures.is ∙ c.if-not-untils_ok.false, sym c.rates_ok.ensures ∙ c.if-not-rates_ok.false)
