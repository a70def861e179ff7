-- `patterns::new_money` takes the rates that the pattern means (Held).
use mathlib.Core.Path.{◌≡◌, ap, ◌∙◌}
use Prim.Native.Nat.{◌+◌}
use Rattle.reckoning.specs.Arrays.{rates_of}
use Rattle.plan.specs.Numbers.{numbers}
use Rattle.patterns.specs.Arrays.{rates_array}
use Rattle.patterns.proofs.Held.{rates_array_law, rates_held, rates}
use Rattle.patterns.proofs.new_money.Goals as goal
use Rattle.patterns.proofs.new_money.Goals.{After-rates}

meant : (c : After-rates) → c.rates.result ≡ rates_array (numbers c.args.plan.plan.now) (1 + c.args.t)
meant c = c.rates.ensures ∙ rates_array_law c.args.plan.plan.now c.args.t c.requires

pub invariant_of-result : goal.invariant_of-result
invariant_of-result c = record { within = rw (meant c) (rates c.args.plan.plan.now c.args.plan.accepted (1 + c.args.t)) }

pub returns-clause-is : goal.returns-clause-is
returns-clause-is c = meant c.before

pub returns-clause-held : goal.returns-clause-held
returns-clause-held c = ap rates_of (meant c.before) ∙ rates_held c.args.plan.plan.now c.args.plan.accepted (1 + c.args.t)
