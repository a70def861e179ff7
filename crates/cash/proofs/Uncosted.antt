-- The flows and the other checks are the same without a cost that check 6 takes.
use mathlib.Core.Path.{◌≡◌, refl}
use mathlib.Core.Bool.{true}
use mathlib.Core.List.{List}
use Prim.Native.Nat.{ℕ}
use lib.IntN.{ℤ}
use Rattle.plan.specs.Numbers.{Numbers}
use Rattle.plan.specs.Refusal.{
  head_ok,
  payments_ok,
  payments_fit,
  outflows_ok,
  opening_ok,
  cost_ok,
  amounts_ok,
  rollover_ok,
  untils_ok,
  rates_ok,
  rates_fit,
  allocation_ok,
  head_refusal,
  amounts_refusal,
  rates_refusal,
  allocation_refusal,
  refusal_with,
}
use Rattle.plan.proofs.Checks.{cost_passes}
use Rattle.patterns.specs.Pattern.{flow_of}
use Rattle.cash.specs.Call.{shape_refusal, numbers_refusal, cash_at, cash_answer}
use Rattle.cash.specs.Uncosted.{uncosted, CashUncosted}

module _ (P : Numbers) (ok : cost_ok P ≡ true) where
  same_amounts : amounts_refusal P ≡ amounts_refusal (uncosted P)
  unfolding amounts_refusal amounts_ok payments_ok payments_fit outflows_ok opening_ok rollover_ok
  same_amounts = rw (ok, cost_passes (uncosted P) (λ j. refl))

  same_refusal : (lists : ℕ) → refusal_with P lists ≡ refusal_with (uncosted P) lists
  unfolding refusal_with head_refusal head_ok rates_refusal untils_ok rates_ok rates_fit allocation_refusal allocation_ok
  same_refusal lists = rw same_amounts

pub cash_uncosted : (P : Numbers) (lending borrowing : List ℤ) → CashUncosted P lending borrowing
unfolding cash_answer cash_at shape_refusal numbers_refusal head_refusal head_ok flow_of
cash_uncosted P lending borrowing = record { same = λ ok. rw (same_refusal P ok) }
