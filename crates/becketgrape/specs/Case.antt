-- Arrays that carry numbers where nothing is held (document 02, item 1), and the worked cases of what is not held.
use Rattle.std.specs.Prelude.{Bool, true, List, [], ◌∷◌, ◌++◌, ℕ, ◌+◌, ℤ, pos, negsuc, replicate, drop, set}
use Rattle.whole.specs.Test.{pick}
use Rattle.whole.specs.Case.{Case}
use Rattle.plan.specs.declared.Plan.{Plan}
use Rattle.plan.specs.Numbers.{Numbers, numbers}
use Rattle.plan.specs.Refusal.{refusal_of}
use Rattle.plan.specs.Case.{renewed, longer, far_out, sloping}
use Rattle.planner.specs.Calls.{fund_answer, bound_of}
use Rattle.planner.specs.Verdict.{solvent, short, pattern_word}
use Rattle.finder.specs.Find.{find_answer}
use Rattle.arrays.specs.Arrays.{until_from, costed_from, start_from, step_from, all_counts, all_amounts, all_shares, all_rates}
use Rattle.arrays.specs.Lent.{Lent, plan_in}

-- the arrays of a plan, with other counts
abbrev counted : Plan → (counts : List ℕ) → Lent
counted p counts = record { counts = counts; amounts = all_amounts p; shares = all_shares p; rates = all_rates p }

-- those of a plan with money already invested, of one with a cost, and of one with both, where these counts say whether they are held
abbrev pub opened_by : (opened : ℕ) → Plan → Lent
opened_by opened p = counted p (set (all_counts p) 4 opened)

abbrev pub costed_by : (costed : ℕ) → Plan → Lent
costed_by costed p = counted p (set (all_counts p) costed_from costed)

abbrev pub both_by : (opened costed : ℕ) → Plan → Lent
both_by opened costed p = counted p (set (set (all_counts p) 4 opened) costed_from costed)

-- those of a plan with a slope and a list, which carries for each of the two the other kind's numbers: thirty rates for the slope, and a start,
-- a step and T for the list
abbrev pub sloping_by : (other : ℕ) → Plan → Lent
sloping_by other p = record {
  counts = set (all_counts p) (until_from + 1) other;
  amounts = all_amounts p;
  shares = all_shares p;
  rates = set (set (replicate 30 (pos other) ++ drop 30 (all_rates p)) (start_from + 1) (pos other)) (step_from + 1) (pos other);
}

-- outflow 1080000002: with 2 already invested it is solvent, whatever count but 0 says so, and with 2 that are not held short
abbrev invested : (opened : ℕ) (money : ℤ) → Numbers
invested opened money = numbers (plan_in (opened_by opened (renewed (pos 1_080_000_002) true money)))

unfoldable pub unheld_openings : List Case
unheld_openings =
    record { given = pos (pattern_word (invested 1 (pos 2)) 1); stated = pos solvent }
    ∷ record { given = pos (pattern_word (invested 7 (pos 2)) 1); stated = pos solvent }
    ∷ record { given = pos (pattern_word (invested 0 (pos 2)) 1); stated = pos short }
    ∷ record { given = pos (refusal_of (invested 1 (negsuc 0))); stated = pos 6 }
    ∷ record { given = pos (refusal_of (invested 0 (negsuc 0))); stated = pos 0 }
    ∷ []

-- outflow 1080000002 of which 1080000000 is paid: with costs of 9 that are not held B is 2, and the plan is short; -1 that is held is refused 6,
-- and what is not held is not looked at
abbrev missing : (amounts costed : ℕ) (cost : ℤ) → Numbers
missing amounts costed cost = numbers (plan_in (costed_by costed (longer (pos (1_080_000_000 + amounts)) true cost cost)))

-- a fund of -1000000000005 that a cost of 5 makes one that is taken, where it is held
abbrev below : (costed : ℕ) (cost : ℤ) → Numbers
below costed cost = numbers (plan_in (costed_by costed (far_out (pos 17_000_000_000) (pos 10_669_305_133) true cost)))

unfoldable pub unheld_costs : List Case
unheld_costs =
    record { given = pos (bound_of (missing 2 1 (pos 9)) 1); stated = pos 3 }
    ∷ record { given = pos (pattern_word (missing 2 1 (pos 9)) 1); stated = pos solvent }
    ∷ record { given = pos (bound_of (missing 2 0 (pos 9)) 1); stated = pos 2 }
    ∷ record { given = pos (pattern_word (missing 2 0 (pos 9)) 1); stated = pos short }
    ∷ record { given = pos (refusal_of (missing 0 1 (negsuc 0))); stated = pos 6 }
    ∷ record { given = pos (refusal_of (missing 0 0 (negsuc 0))); stated = pos 0 }
    ∷ record { given = (fund_answer (below 1 (pos 5)) 1).fund; stated = negsuc 999_999_999_999 }
    ∷ record { given = pos (fund_answer (below 0 (pos 5)) 1).refusal; stated = pos 11 }
    ∷ []

-- one note of two makes up the last amount by a cost of 1, where it is held
abbrev found_in : (costed : ℕ) → ℤ
found_in costed = pos (pick (find_answer (numbers (plan_in (costed_by costed (longer (pos 1_080_000_001) true (pos 0) (pos 1))))) 2).found 1 0)

unfoldable pub unheld_searches : List Case
unheld_searches =
    record { given = found_in 1; stated = pos 1 }
    ∷ record { given = found_in 0; stated = pos 0 }
    ∷ []

abbrev pub unheld_cases : List Case
unheld_cases = unheld_openings ++ (unheld_costs ++ unheld_searches)
