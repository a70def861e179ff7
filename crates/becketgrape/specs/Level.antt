-- Level rates (document 02, item 7), of the fund's call on files.
use Rattle.std.specs.Prelude.{◌≡◌, List, ℕ}
use Rattle.reckoning.specs.Answers.{Reckoned}
use Rattle.planner.specs.Level.{LevelExact, LevelApart}
use Rattle.planfile.specs.Read.{numbers_in, read_answer}
use Rattle.becketgrape.specs.Calls.{fund_of_file, bound_of_file}

-- what the fund's call says of the file s in pattern t, with its answer a: at level rates the exact fund is the closed form, if the file is read,
-- and the fund of any other file that differs only in its rollover is less than B from its own, if the call accepts both
pub record LevelOfFile (s : List ℕ) (t : ℕ) (a : Reckoned) : Type 0 where
  pub exact : (read_answer s).refusal ≡ 0 → LevelExact (numbers_in s) t
  pub apart : (f : List ℕ) → LevelApart (numbers_in s) (numbers_in f) t a (fund_of_file f t) (bound_of_file s t)
