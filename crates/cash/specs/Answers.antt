-- The papers' answer of the call: its refusal, the account at the end of the last year, its bound and its word; zeros on a refusal.
use Rattle.std.specs.Prelude.{ℕ, ℤ}

pub record CashAnswer : Type 0 where
  pub refusal : ℕ
  pub account : ℤ
  pub bound : ℤ
  pub word : ℕ
