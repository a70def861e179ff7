-- `cash::TwoRates::account` takes the account from one year to the next, until it is outside the limit (Years, `Running`).
use Prim.Native.Nat.{◌+◌}
use lib.ListN.{length}
use Rattle.cash.proofs.Years.{Running}
use Rattle.cash.proofs.TwoRates.account.Given as goal

abbrev pub invariant-loop-amount : goal.invariant-loop-amount
invariant-loop-amount l = Running l.flow.amounts l.self.lending.rates l.self.borrowing.rates l.self.horizon.years l.v (length l.yielded + 1)
