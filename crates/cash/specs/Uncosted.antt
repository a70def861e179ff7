-- The cost that is left at the horizon has no part in the account but to be checked (document 02, item 6).
use Rattle.std.specs.Prelude.{◌≡◌, true, false, List, ℤ, pos}
use Rattle.plan.specs.Numbers.{Numbers}
use Rattle.plan.specs.Refusal.{cost_ok}
use Rattle.cash.specs.Call.{cash_answer}

-- the same numbers with no cost
abbrev pub uncosted : Numbers → Numbers
uncosted P = record {
  years = P.years;
  instruments = P.instruments;
  terms = P.terms;
  patterns = P.patterns;
  a = P.a;
  o = P.o;
  r = P.r;
  i = P.i;
  p = P.p;
  b = P.b;
  T = P.T;
  cost = λ j. pos 0;
  costed = false;
}

-- a plan is answered as it is without its cost, unless check 6 finds the cost outside its range
pub record CashUncosted (P : Numbers) (lending borrowing : List ℤ) : Type 0 where
  pub same : cost_ok P ≡ true → cash_answer P lending borrowing ≡ cash_answer (uncosted P) lending borrowing
