-- `finder::search` prepares what is looked at, and goes through all allocations (Deciding, Answer).
use mathlib.Core.Path.{◌≡◌}
use mathlib.Core.Bool.{Bool}
use mathlib.Core.List.{List}
use Prim.Native.Nat.{ℕ, ◌-◌, ◌/◌, ◌≤◌}
use native.Mathlib.Nat.{le_of_eq}
use native.Mathlib.Omega.{arith}
use lib.IntN.{pos}
use lib.ListN.{get_or, replicate, get_or-replicate}
use Rattle.std.specs.Prelude.{Some, None}
use Rattle.whole.specs.Range.{million}
use Rattle.whole.specs.Sum.{sum_ℕ}
use Rattle.whole.proofs.Range.{within_pos}
use Rattle.plan.specs.Numbers.{numbers}
use Rattle.plan.specs.declared.Plan.{Plan}
use Rattle.finder.specs.Find.{solvent_with, first_that}
use Rattle.finder.specs.Lines.{wide_of}
use Rattle.finder.specs.Placing.{placements}
use Rattle.finder.specs.Search.{passes, split_shown}
use Rattle.finder.proofs.Parts.{parts_have}
use Rattle.finder.proofs.Order.{wide_whole}
use Rattle.finder.proofs.Deciding.{passes_is}
use Rattle.finder.proofs.Answer.{search_start, search_none, search_found}
use Rattle.finder.proofs.search.Goals as goal
use Rattle.finder.proofs.search.Goals.{After-put_lines}

pub invariant_of-rates : goal.invariant_of-rates
invariant_of-rates c = record { within = record { rate = λ k l. rw (get_or-replicate 30 k (pos 0) (pos 0) l) (within_pos (omega arith)) } }

pub invariant_of-search : goal.invariant_of-search
invariant_of-search c =
    let few : c.of-common.result.instruments ≤ 4 = rw c.of-common.ensures.is.instruments c.requires.instruments_bound in
    record { instruments_few = few; looks = λ shares whole. c.of-common.ensures.allocated (wide_of shares) (le_of_eq (wide_whole c.of-common.result.instruments shares few whole)) }

pub nonzero_div-search : goal.nonzero_div-search
nonzero_div-search c = (parts_have _ c.requires.parts_value).some

pub from-requires : goal.from-requires
from-requires c = rw (c.of-common.ensures.is.instruments, c.none.ensures) (search_start _ _ c.args.plan.accepted c.requires.parts_value)

-- what the search asks of an allocation
module _ (c : After-put_lines) where
  abbrev plan : Plan
  plan = c.args.plan.plan.now

  abbrev test : List ℕ → Bool
  test = passes c.of-common.result c.put_rates.new.rates c.put_lines.new.lines

  agrees : (shares : List ℕ) → sum_ℕ plan.instruments (λ j. get_or shares j 0) ≡ million → test shares ≡ solvent_with (numbers plan) (wide_of shares)
  agrees = passes_is plan c.args.plan.accepted c.requires.instruments_bound c.of-common.result c.put_rates.new.rates c.put_lines.new.lines c.of-common.ensures.shared c.put_rates.ensures c.put_lines.ensures

pub returns-in_err-found : goal.returns-in_err-found
returns-in_err-found c =
    let s = (goal.at.returns-in_err-found c).After-put_lines in
    let tells : split_shown None ≡ first_that (test s) (placements (million / c.args.parts) (replicate 4 0) 0 ((plan s).instruments - 1) c.args.parts) = rw c.none.ensures at c.in_err-found.ensures in
    rw c.from_residual.ensures (search_none _ _ c.args.plan.accepted c.requires.parts_value c.requires.instruments_bound (test s) (agrees s) tells)

pub returns : goal.returns
returns c =
    let s = (goal.at.returns c).After-put_lines in
    let tells : split_shown (Some c.in_ok-found.found) ≡ first_that (test s) (placements (million / c.args.parts) (replicate 4 0) 0 ((plan s).instruments - 1) c.args.parts) = rw c.none.ensures at c.in_ok-found.ensures in
    search_found _ _ c.args.plan.accepted c.requires.parts_value c.requires.instruments_bound (test s) (agrees s) c.in_ok-found.found tells c.widened.ensures
