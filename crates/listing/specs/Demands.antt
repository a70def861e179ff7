-- What is true of every file that is listed. The contract of `list` carries it.
use Rattle.std.specs.Prelude.{◌≡◌, false, List, ℕ}
use Rattle.plan.specs.Held.{PlainHeld}
use Rattle.planner.specs.Plain.{PlainFlow, PlainHorizon, Plain}
use Rattle.planner.specs.Alike.{meant, Alike}
use Rattle.planner.specs.Level.{LevelExact, RowsApart}
use Rattle.planfile.specs.Checks.{shape_in}
use Rattle.planfile.specs.Records.{held_in}
use Rattle.planfile.specs.Read.{numbers_in, read_answer}
use Rattle.planfile.specs.Demand2.{OneFile}
use Rattle.planfile.specs.Plain.{PlainFile, PlainKinds}
use Rattle.listing.specs.Demand3.{OfFile}
use Rattle.listing.specs.Text.{text_of}

-- demand 2: an accepted file is the one file of the plan that is listed; demand 3: what the answers say of Tilley's exact fund
pub record Demands (s : List ℕ) : Type 0 where
  pub kept : (read_answer s).refusal ≡ 0 → OneFile s (read_answer s).plan
  pub exact : OfFile s
  -- where no kind 7 stands where it may, it has document 01's flows, where no kind 9 does, its funds, K, B and H, and where neither does, its
  -- groups
  pub plain : (shape_in s).opened ≡ false → (shape_in s).costed ≡ false → PlainFile s
  pub plain_flow : (shape_in s).opened ≡ false → PlainFlow (numbers_in s)
  pub plain_horizon : (shape_in s).costed ≡ false → PlainHorizon (numbers_in s)
  -- where no pattern is a slope either, it is one of document 01, in its kinds and in what they mean
  pub plain_kinds : PlainHeld (held_in s) → PlainKinds s
  pub plain_numbers : PlainHeld (held_in s) → Plain (held_in s)
  -- a file with slopes is answered, and printed, as one that lists the same rates
  pub alike : Alike (held_in s)
  pub printed_alike : (t : List ℕ) → (read_answer s).refusal ≡ 0 → (read_answer t).refusal ≡ 0 → meant (numbers_in s) ≡ meant (numbers_in t) → text_of s ≡ text_of t
  -- in a pattern of level rates the exact fund does not know the rollover, and two files that differ only in it are listed with funds that are less
  -- than the listed B apart
  pub level_exact : (read_answer s).refusal ≡ 0 → (t : ℕ) → LevelExact (numbers_in s) t
  pub level_apart : (f : List ℕ) → (read_answer s).refusal ≡ 0 → (read_answer f).refusal ≡ 0 → (t : ℕ) → RowsApart (numbers_in s) (numbers_in f) t
