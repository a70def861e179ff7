-- `plan::kind_ok` tests the amounts of a kind where it is held.
use mathlib.Core.Path.{sym, ◌∙◌}
use lib.IntN.{pos}
use Rattle.whole.proofs.Bridge.{whole}
use Rattle.plan.specs.Refusal.{most}
use Rattle.plan.proofs.Checks.{first_in, none_in}
use Rattle.plan.proofs.headed.kind_ok.Goals as goal

pub returns-in-Some : goal.returns-in-Some
returns-in-Some g c = rw c.in-Some.is (c.all_between.ensures ∙ first_in (pos 0) (pos most) c.args.n c.in-Some.amounts (omega whole))

pub returns-in-None : goal.returns-in-None
returns-in-None g c = rw c.in-None.is (sym (none_in most c.args.n))
