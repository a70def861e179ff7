-- What the code makes on the way to the answer: the account alone.
use Rattle.std.specs.Prelude.{ℕ, ℤ, Result, Ok, Err}
use Rattle.refusal.specs.declared.Refusal.{Refusal}
use Rattle.refusal.specs.declared.Refusal.TheVariants.{OutOfLimit}
use Rattle.whole.specs.Test.{pick}
use Rattle.cash.specs.Account.{account}
use Rattle.cash.specs.Call.{accounts_fit}

-- V(N) of a flow f, unless check 11 refuses some V
unfoldable pub account_reckoned : (lending borrowing : ℕ → ℤ) (f : ℕ → ℤ) (N : ℕ) → Result ℤ Refusal
account_reckoned lending borrowing f N = pick (accounts_fit lending borrowing f N) (Ok (account lending borrowing f N)) (Err OutOfLimit)
