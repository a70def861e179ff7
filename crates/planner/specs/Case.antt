-- Document 01, "Edges": the starred cases of the funds and the words, and all starred cases in one list. Beside them, what money already
-- invested does, what the cost at the horizon does, what slopes mean, and what the rollover does at level rates.
use Rattle.std.specs.Prelude.{Bool, true, false, List, [], ◌∷◌, ◌++◌, ℕ, ◌+◌, ◌*◌, ◌^◌, ℤ, pos, negsuc, replicate}
use Rattle.whole.specs.Case.{Case, share_cases}
use Rattle.reckoning.specs.Case.{bound_cases, gamma_cases}
use Rattle.plan.specs.Numbers.{Numbers, numbers}
use Rattle.plan.specs.Refusal.{refusal_of}
use Rattle.plan.specs.declared.Plan.{Plan}
use Rattle.plan.specs.Case.{listed, stepped, plan_L, renewed, one_year, longer, far_out, four_years, six_years}
use Rattle.patterns.specs.Pattern.{shared_of, exact_flow_of, coefficient_at, constant_at}
use Rattle.planner.specs.Calls.{exact_fund, fund_answer, bound_of}
use Rattle.planner.specs.Level.{level_fund}
use Rattle.planner.specs.Verdict.{solvent, short, close, fund_of, pattern_word}

-- the funds of L: -5200000 and 12200000
unfoldable pub fund_cases : List Case
fund_cases =
    record { given = fund_of (numbers plan_L) 1; stated = negsuc 5_199_999 }
    ∷ record { given = fund_of (numbers plan_L) 2; stated = pos 12_200_000 }
    ∷ []

-- N = 1, one payment 1080000000: outflow 1080000000 is solvent, 1080000001 close, 1080000002 short
unfoldable pub word_cases : List Case
word_cases =
    record { given = pos (pattern_word (numbers (one_year (pos 1_080_000_000))) 1); stated = pos solvent }
    ∷ record { given = pos (pattern_word (numbers (one_year (pos 1_080_000_001))) 1); stated = pos close }
    ∷ record { given = pos (pattern_word (numbers (one_year (pos 1_080_000_002))) 1); stated = pos short }
    ∷ []

abbrev pub starred_cases : List Case
starred_cases = share_cases ++ (bound_cases ++ (gamma_cases ++ (fund_cases ++ word_cases)))

-- outflow 1080000002, which is short: with 2 already invested it is solvent, with 1 close, and with 2 that are not held short (a plan has no
-- place for them then, the arrays of the library for C do: crate becketgrape, `unheld_openings`). With 2, the exact flow is 0 and Q is
-- -1080000000.
unfoldable pub opening_cases : List Case
opening_cases =
    record { given = pos (pattern_word (numbers (renewed (pos 1_080_000_002) true (pos 2))) 1); stated = pos solvent }
    ∷ record { given = pos (pattern_word (numbers (renewed (pos 1_080_000_002) true (pos 1))) 1); stated = pos close }
    ∷ record { given = pos (pattern_word (numbers (renewed (pos 1_080_000_002) false (pos 2))) 1); stated = pos short }
    ∷ record { given = exact_flow_of (shared_of (numbers (renewed (pos 1_080_000_002) true (pos 2)))) 1; stated = pos 0 }
    ∷ record { given = constant_at (shared_of (numbers (renewed (pos 1_080_000_002) true (pos 2)))) (λ l. pos 0); stated = negsuc 1_079_999_999 }
    ∷ []

-- document 02, item 6. Outflow 1080000001, of which 1080000000 is paid. A cost of 1 on either note makes up the last amount, since the sum is
-- cut and not each by itself; a cost of 1 on one of them leaves half an amount missing, in H too. A cost is in K_j and not in Q.
abbrev left : (first second : ℤ) → Numbers
left first second = numbers (longer (pos 1_080_000_001) true first second)

-- an outflow that is so many amounts too much, with costs of 0 that are held, and with costs that are not (in arrays: `unheld_costs`)
abbrev missing : (amounts : ℕ) (costed : Bool) (cost : ℤ) → Numbers
missing amounts costed cost = numbers (longer (pos (1_080_000_000 + amounts)) costed cost cost)

unfoldable pub cost_cases : List Case
cost_cases =
    record { given = fund_of (left (pos 1) (pos 1)) 1; stated = pos 0 }
    ∷ record { given = exact_fund (left (pos 1) (pos 1)) 1; stated = pos 0 }
    ∷ record { given = pos (pattern_word (left (pos 1) (pos 1)) 1); stated = pos solvent }
    ∷ record { given = fund_of (left (pos 1) (pos 0)) 1; stated = negsuc 0 }
    ∷ record { given = exact_fund (left (pos 1) (pos 0)) 1; stated = negsuc 499_999_999_999 }
    ∷ record { given = pos (pattern_word (left (pos 1) (pos 0)) 1); stated = pos close }
    ∷ record { given = coefficient_at (shared_of (left (pos 1) (pos 7))) (λ l. pos 0) 2; stated = pos 1_080_000_007 }
    ∷ record { given = constant_at (shared_of (left (pos 1) (pos 7))) (λ l. pos 0); stated = negsuc 1_080_000_000 }
    -- B is 3 for N = 1, also where every cost is 0, and 2 where none is held
    ∷ record { given = pos (bound_of (missing 2 true (pos 0)) 1); stated = pos 3 }
    ∷ record { given = pos (pattern_word (missing 2 true (pos 0)) 1); stated = pos close }
    ∷ record { given = pos (pattern_word (missing 3 true (pos 0)) 1); stated = pos short }
    ∷ record { given = pos (bound_of (missing 2 false (pos 9)) 1); stated = pos 2 }
    ∷ record { given = pos (pattern_word (missing 2 false (pos 9)) 1); stated = pos short }
    -- a cost of 20000000000 is taken, one more and one below 0 are refused 6, and what is not held is not looked at
    ∷ record { given = pos (refusal_of (left (pos 0) (pos 20_000_000_000))); stated = pos 0 }
    ∷ record { given = pos (refusal_of (left (pos 0) (pos 20_000_000_001))); stated = pos 6 }
    ∷ record { given = pos (refusal_of (left (negsuc 0) (pos 0))); stated = pos 6 }
    ∷ record { given = pos (refusal_of (missing 0 false (negsuc 0))); stated = pos 0 }
    ∷ []

-- check 11 looks at the fund with the cost inside, and no cell here is past 200000000000. Of -1000000000005 a cost of 5 makes a fund that is
-- taken, and one of 4, or one that is not held, does not; of 999999999995 a cost of 5 does, and one of 6 does not.
abbrev below : (costed : Bool) (cost : ℤ) → Numbers
below costed cost = numbers (far_out (pos 17_000_000_000) (pos 10_669_305_133) costed cost)

abbrev above : (cost : ℤ) → Numbers
above cost = numbers (far_out (negsuc 16_999_999_999) (negsuc 10_669_305_133) true cost)

unfoldable pub cost_limits : List Case
cost_limits =
    record { given = (fund_answer (below true (pos 5)) 1).fund; stated = negsuc 999_999_999_999 }
    ∷ record { given = pos (fund_answer (below true (pos 4)) 1).refusal; stated = pos 11 }
    ∷ record { given = pos (fund_answer (below false (pos 5)) 1).refusal; stated = pos 11 }
    ∷ record { given = (fund_answer (above (pos 5)) 1).fund; stated = pos 1_000_000_000_000 }
    ∷ record { given = pos (fund_answer (above (pos 6)) 1).refusal; stated = pos 11 }
    ∷ []

-- document 02, item 2. From 40000 down by 10000 up to year 3: the rates of years 2 to 4 are 30000, 20000, 20000, and there are none in years
-- 1 and 5. With T = 1 they stay at the start, and with T above N they fall to the end. The fund is that of the rates in a list.
abbrev falling : (until k : ℕ) → ℤ
falling until k = (numbers (four_years (stepped (pos 40_000) (negsuc 9_999) until))).i 1 k

unfoldable pub slope_cases : List Case
slope_cases =
    record { given = falling 3 1; stated = pos 0 }
    ∷ record { given = falling 3 2; stated = pos 30_000 }
    ∷ record { given = falling 3 3; stated = pos 20_000 }
    ∷ record { given = falling 3 4; stated = pos 20_000 }
    ∷ record { given = falling 3 5; stated = pos 0 }
    ∷ record { given = falling 1 4; stated = pos 40_000 }
    ∷ record { given = falling 30 4; stated = pos 10_000 }
    ∷ record { given = fund_of (numbers (four_years (stepped (pos 40_000) (negsuc 9_999) 3))) 1; stated = pos 1_071_612_000 }
    ∷ record { given = fund_of (numbers (four_years (listed (pos 30_000 ∷ pos 20_000 ∷ pos 20_000 ∷ replicate 27 (pos 0))))) 1; stated = pos 1_071_612_000 }
    ∷ []

-- T of 0 and of 31 is refused 13, and before a rate is looked at; a rate of 200001 or of -1 is refused 8, in the first year that has one
-- or in the last. That of year 1 is none of the plan's: a start of -1 is taken where the next rate is 0. No sum wraps.
abbrev refusal_in : (start step : ℤ) (until : ℕ) → ℤ
refusal_in start step until = pos (refusal_of (numbers (four_years (stepped start step until))))

unfoldable pub slope_refusals : List Case
slope_refusals =
    record { given = refusal_in (pos 40_000) (pos 0) 0; stated = pos 13 }
    ∷ record { given = refusal_in (pos 900_000) (pos 0) 31; stated = pos 13 }
    ∷ record { given = refusal_in (pos 40_000) (pos 0) 30; stated = pos 0 }
    ∷ record { given = refusal_in (pos 190_001) (pos 10_000) 2; stated = pos 8 }
    ∷ record { given = refusal_in (pos 170_001) (pos 10_000) 4; stated = pos 8 }
    ∷ record { given = refusal_in (pos 170_000) (pos 10_000) 4; stated = pos 0 }
    ∷ record { given = refusal_in (pos 2) (negsuc 0) 4; stated = pos 8 }
    ∷ record { given = refusal_in (pos 3) (negsuc 0) 4; stated = pos 0 }
    ∷ record { given = refusal_in (negsuc 0) (pos 1) 2; stated = pos 0 }
    ∷ record { given = refusal_in (pos 2_147_483_647) (pos 2_147_483_647) 30; stated = pos 8 }
    ∷ record { given = refusal_in (negsuc 2_147_483_647) (negsuc 2_147_483_647) 30; stated = pos 8 }
    ∷ []

-- document 02, item 7. One plan at three rollovers: all after one year, in thirds over three years, all after five. At the level rate of pattern
-- 1 the exact fund is 5534730.2975 at each of them, which is the closed form, and the funds are 5534729, 5534717 and 5534728, less than B = 64
-- apart. At the rates of pattern 2, which rise, the rollover decides whether the plan is short. A cost of 3 on each note makes fund and exact
-- fund 3 more, and B 65.
abbrev pub after_one : Plan
after_one = six_years 1 (1_000_000 ∷ []) false (pos 0)

abbrev pub in_thirds : Plan
in_thirds = six_years 3 (333_333 ∷ 333_333 ∷ 333_334 ∷ []) false (pos 0)

abbrev after_five : Plan
after_five = six_years 5 (replicate 4 0 ++ (1_000_000 ∷ [])) false (pos 0)

abbrev costed_thirds : Plan
costed_thirds = six_years 3 (333_333 ∷ 333_333 ∷ 333_334 ∷ []) true (pos 3)

unfoldable pub level_cases : List Case
level_cases =
    record { given = fund_of (numbers after_one) 1; stated = pos 5_534_729 }
    ∷ record { given = fund_of (numbers in_thirds) 1; stated = pos 5_534_717 }
    ∷ record { given = fund_of (numbers after_five) 1; stated = pos 5_534_728 }
    ∷ record { given = pos (bound_of (numbers in_thirds) 1); stated = pos 64 }
    ∷ record { given = exact_fund (numbers after_one) 1; stated = pos (55_347_302_975 * 10 ^ 68) }
    ∷ record { given = exact_fund (numbers in_thirds) 1; stated = pos (55_347_302_975 * 10 ^ 68) }
    ∷ record { given = exact_fund (numbers after_five) 1; stated = pos (55_347_302_975 * 10 ^ 68) }
    ∷ record { given = level_fund (numbers in_thirds) (pos 50_000); stated = pos (55_347_302_975 * 10 ^ 68) }
    ∷ record { given = fund_of (numbers after_one) 2; stated = negsuc 3_291_177 }
    ∷ record { given = fund_of (numbers in_thirds) 2; stated = negsuc 1_249_265 }
    ∷ record { given = fund_of (numbers after_five) 2; stated = pos 3_906_474 }
    ∷ record { given = fund_of (numbers costed_thirds) 1; stated = pos 5_534_720 }
    ∷ record { given = pos (bound_of (numbers costed_thirds) 1); stated = pos 65 }
    ∷ record { given = exact_fund (numbers costed_thirds) 1; stated = pos (55_347_332_975 * 10 ^ 68) }
    ∷ record { given = level_fund (numbers costed_thirds) (pos 50_000); stated = pos (55_347_332_975 * 10 ^ 68) }
    ∷ []
