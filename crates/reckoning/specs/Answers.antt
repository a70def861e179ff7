-- What the calls answer, as the papers' records: a refusal's number, 0 where there is none, and the value.
use Rattle.std.specs.Prelude.{Result, Ok, Err, List, ℕ, ℤ, pos, replicate}
use Rattle.refusal.specs.declared.Refusal.{Refusal}
use Rattle.refusal.specs.Number.{number_of}
use Rattle.reckoning.specs.declared.Row.{Row}

-- a fund; 0 where it is refused
pub record Reckoned : Type 0 where
  pub refusal : ℕ
  pub fund : ℤ

abbrev pub fund_shown : Result ℤ Refusal → Reckoned
fund_shown (Ok fund) = record { refusal = 0; fund = fund }
fund_shown (Err refusal) = record { refusal = number_of refusal; fund = pos 0 }

-- the table of gammas; zeros where it is refused
pub record GammaTable : Type 0 where
  pub refusal : ℕ
  pub rows : List Row

abbrev pub no_row : Row
no_row = record { values = replicate 30 (pos 0) }

abbrev pub gammas_shown : Result (List Row) Refusal → GammaTable
gammas_shown (Ok rows) = record { refusal = 0; rows = rows }
gammas_shown (Err refusal) = record { refusal = number_of refusal; rows = replicate 30 no_row }
