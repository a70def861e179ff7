-- Worked cases of the search: what the definitions give beside what they are to give.
use Rattle.std.specs.Prelude.{true, false, List, [], ◌∷◌, ◌++◌, ℕ, ℤ, pos, get_or, length, replicate, Some, None}
use Rattle.whole.specs.Case.{Case}
use Rattle.whole.specs.Test.{pick}
use Rattle.plan.specs.Held.{no_instrument, no_pattern}
use Rattle.plan.specs.Numbers.{Numbers, numbers}
use Rattle.plan.specs.Case.{listed, plan_L, one_year, longer}
use Rattle.plan.specs.declared.Plan.{Plan}
use Rattle.finder.specs.Answers.{FindAnswer}
use Rattle.finder.specs.Grid.{splits, allocations}
use Rattle.finder.specs.Find.{allocated, find_answer}

-- a number of an answer: 0 and 1 for `found`, then the shares of instruments 1 and 2
abbrev found_in : FindAnswer → ℤ
found_in s = pos (pick s.found 1 0)

abbrev share_in : FindAnswer → (j : ℕ) → ℤ
share_in s j = pos (get_or s.shares j 0)

-- two instruments in two parts: all on the first, one on each, all on the second; four in forty parts are 12341
unfoldable pub grid_cases : List Case
grid_cases =
    record { given = pos (length (allocations 2 2)); stated = pos 3 }
    ∷ record { given = pos (get_or (get_or (allocations 2 2) 0 []) 0 0); stated = pos 1_000_000 }
    ∷ record { given = pos (get_or (get_or (allocations 2 2) 1 []) 0 0); stated = pos 500_000 }
    ∷ record { given = pos (get_or (get_or (allocations 2 2) 2 []) 1 0); stated = pos 1_000_000 }
    ∷ record { given = pos (length (allocations 4 1)); stated = pos 4 }
    ∷ record { given = pos (length (splits 3 40)); stated = pos 12_341 }
    ∷ []

-- L with a share s on its first note has a fund of 4800000 - 20000000 s in its first pattern, and more in its second: it is solvent up to a
-- share of 0.24. In five parts the first such has one part of it, in four it has none. In one year nothing but the whole note can be
-- tried: an outflow that is paid to the last amount is solvent, and one more is close, which is not. Of two notes that pay as much, with a
-- cost of 1 on the second, half of it does not make up that amount, and all of it does, where it is held.
abbrev on_L : (parts : ℕ) → FindAnswer
on_L = find_answer (numbers plan_L)

unfoldable pub find_cases : List Case
find_cases =
    record { given = found_in (on_L 5); stated = pos 1 }
    ∷ record { given = share_in (on_L 5) 0; stated = pos 200_000 }
    ∷ record { given = share_in (on_L 5) 1; stated = pos 800_000 }
    ∷ record { given = share_in (on_L 4) 0; stated = pos 0 }
    ∷ record { given = share_in (on_L 4) 1; stated = pos 1_000_000 }
    ∷ record { given = share_in (find_answer (numbers (one_year (pos 1_080_000_000))) 40) 0; stated = pos 1_000_000 }
    ∷ record { given = found_in (find_answer (numbers (one_year (pos 1_080_000_001))) 40); stated = pos 0 }
    ∷ record { given = share_in (find_answer (numbers (one_year (pos 1_080_000_001))) 40) 0; stated = pos 0 }
    ∷ record { given = share_in (find_answer (numbers (longer (pos 1_080_000_001) true (pos 0) (pos 1))) 2) 1; stated = pos 1_000_000 }
    ∷ record { given = found_in (find_answer (numbers (longer (pos 1_080_000_001) false (pos 0) (pos 1))) 2); stated = pos 0 }
    ∷ []

-- two notes that pay the same in each of some years, or nothing, at 20 percent, with so much already invested; 20000000000 a year are
-- 969932053790 after 13 years, and past 10^12 after 14
unfoldable pub paid_yearly : (years : ℕ) (first second money : ℤ) → Plan
paid_yearly years first second money = record {
  years = years;
  instruments = 2;
  terms = 1;
  patterns = 1;
  instrument = record { payments = replicate 30 first } ∷ record { payments = replicate 30 second } ∷ replicate 14 no_instrument;
  outflows = replicate 30 (pos 0);
  rollover = 1_000_000 ∷ replicate 29 0;
  pattern = listed (replicate 30 (pos 200_000)) ∷ replicate 63 no_pattern;
  allocation = 1_000_000 ∷ replicate 15 0;
  opening = Some (replicate 30 money);
  cost = None;
}

-- check 11 refuses the plan's own allocation, and the other one is found; where it refuses a note by itself none is, and the call is not
-- refused
unfoldable pub limit_cases : List Case
limit_cases =
    let most = pos 20_000_000_000 in
    let other = find_answer (numbers (paid_yearly 13 most (pos 0) most)) 1 in
    let none = find_answer (numbers (paid_yearly 14 most (pos 0) (pos 0))) 1 in
    record { given = found_in other; stated = pos 1 }
    ∷ record { given = share_in other 1; stated = pos 1_000_000 }
    ∷ record { given = pos none.refusal; stated = pos 0 }
    ∷ record { given = found_in none; stated = pos 0 }
    ∷ []

-- the same numbers with another count of instruments, of which those past the second pay nothing
abbrev among : (instruments : ℕ) → Numbers → Numbers
among instruments P = record {
  years = P.years;
  instruments = instruments;
  terms = P.terms;
  patterns = P.patterns;
  a = P.a;
  o = P.o;
  r = P.r;
  i = P.i;
  p = P.p;
  b = P.b;
  T = P.T;
  cost = P.cost;
  costed = P.costed;
}

-- the refusal of a plan of one instrument in so many parts
abbrev refusal_in : (parts : ℕ) → ℤ
refusal_in parts = pos (find_answer (numbers (one_year (pos 1_080_000_000))) parts).refusal

-- each of the ten numbers of parts is taken, and four instruments are; 15 for a number that does not divide 1000000, for none, for two that
-- divide it and are not of the list, and for five instruments; 9 comes before it
unfoldable pub refusal_cases : List Case
refusal_cases =
    record { given = refusal_in 1; stated = pos 0 }
    ∷ record { given = refusal_in 2; stated = pos 0 }
    ∷ record { given = refusal_in 4; stated = pos 0 }
    ∷ record { given = refusal_in 5; stated = pos 0 }
    ∷ record { given = refusal_in 8; stated = pos 0 }
    ∷ record { given = refusal_in 10; stated = pos 0 }
    ∷ record { given = refusal_in 16; stated = pos 0 }
    ∷ record { given = refusal_in 20; stated = pos 0 }
    ∷ record { given = refusal_in 25; stated = pos 0 }
    ∷ record { given = refusal_in 40; stated = pos 0 }
    ∷ record { given = pos (find_answer (among 4 (numbers plan_L)) 1).refusal; stated = pos 0 }
    ∷ record { given = refusal_in 3; stated = pos 15 }
    ∷ record { given = refusal_in 0; stated = pos 15 }
    ∷ record { given = refusal_in 32; stated = pos 15 }
    ∷ record { given = refusal_in 50; stated = pos 15 }
    ∷ record { given = pos (find_answer (among 5 (numbers plan_L)) 1).refusal; stated = pos 15 }
    ∷ record { given = pos (find_answer (allocated (numbers plan_L) (500_000 ∷ [])) 3).refusal; stated = pos 9 }
    ∷ []

abbrev pub worked_cases : List Case
worked_cases = grid_cases ++ (find_cases ++ (limit_cases ++ refusal_cases))
