-- `arrays::PlanArrays::instruments` makes one instrument after the other.
use mathlib.Core.Path.{◌≡◌}
use Rattle.std.proofs.Common.{rules, ◌*◌}
use Rattle.plan.specs.Held.{no_instrument}
use Rattle.arrays.specs.Arrays.{instruments_of, values_at}
use Rattle.whole.proofs.Made.{made_whole}
use Rattle.arrays.proofs.PlanArrays.instruments.Goals as goal
use Rattle.arrays.proofs.PlanArrays.instruments.Goals.{After-from_fn}

each : (c : Unit {0} → After-from_fn) → (c tt).from_fn.result ≡ instruments_of (c tt).args.self.now.amounts.now
unfolding instruments_of
each c =
    let amounts = (c tt).args.self.now.amounts.now in
    made_whole (c tt).from_fn.ensures.items (λ j. record { payments = values_at amounts (30 * j) 30 }) no_instrument (λ j row q h called. (search rules, search rules))

pub returns : goal.returns
returns c = each (λ _. c)
