-- What the calls answer, as the papers' records: a refusal's number, 0 where there is none, and numbers, zeros where there is one.
use Rattle.std.specs.Prelude.{List, ℕ, ℤ}

-- K_1 to K_n
pub record Coefficients : Type 0 where
  pub refusal : ℕ
  pub values : List ℤ

-- the form: K_1 to K_n, Q, and the value at the allocation
pub record FormAnswer : Type 0 where
  pub refusal : ℕ
  pub coefficients : List ℤ
  pub constant : ℤ
  pub value : ℤ
