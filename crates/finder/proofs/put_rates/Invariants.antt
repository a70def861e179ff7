-- `finder::put_rates` fills in the rates of each pattern.
use mathlib.Core.Path.{◌≡◌}
use Prim.Native.Nat.{ℕ, ◌+◌, ◌<◌}
use lib.ListN.{get_or}
use Rattle.reckoning.specs.Arrays.{rates_of}
use Rattle.reckoning.specs.declared.NewMoney.{NewMoney}
use Rattle.plan.specs.Numbers.{numbers}
use Rattle.finder.proofs.put_rates.Given as goal

abbrev pub invariant-loop-t : goal.invariant-loop-t
invariant-loop-t l = (k : ℕ) (i : NewMoney) → k < l.t → rates_of (get_or l.rates k i).rates ≡ (numbers l.plan.plan.now).i (1 + k)
