-- What the call answers, over a plan's numbers P and a number of parts D, for good and bad input alike (document 02, item 5).
use Rattle.std.specs.Prelude.{Bool, true, false, List, [], ◌∷◌, ℕ, eqb, leb, get_or, replicate}
use Rattle.whole.specs.Test.{pick, both}
use Rattle.whole.specs.Entry.{entry}
use Rattle.plan.specs.Numbers.{Numbers}
use Rattle.plan.specs.Refusal.{check, first_of, answer, refusal_of}
use Rattle.planner.specs.Verdict.{solvent, verdict_answer}
use Rattle.finder.specs.Answers.{FindAnswer}
use Rattle.finder.specs.Grid.{allocations}

-- what a refusal holds: its number, no allocation, and zeros
abbrev pub not_found : ℕ → FindAnswer
not_found number = record { refusal = number; found = false; shares = replicate 16 0 }

-- the plan's numbers with another allocation in the place of its own, and with that of some shares
abbrev pub with_allocation : Numbers → (p : ℕ → ℕ) → Numbers
with_allocation P p = record {
  years = P.years;
  instruments = P.instruments;
  terms = P.terms;
  patterns = P.patterns;
  a = P.a;
  o = P.o;
  r = P.r;
  i = P.i;
  p = p;
  b = P.b;
  T = P.T;
  cost = P.cost;
  costed = P.costed;
}

abbrev pub allocated : Numbers → List ℕ → Numbers
allocated P shares = with_allocation P (entry 0 P.instruments (λ j. get_or shares j 0))

-- the verdict on the plan with these shares is solvent; one that is refused has no word, so it is not
unfoldable pub solvent_with : Numbers → List ℕ → Bool
solvent_with P shares = eqb (verdict_answer (allocated P shares)).word solvent

-- the first of some allocations that passes a test; none, and zeros, where there is no such one
unfoldable pub first_that : (test : List ℕ → Bool) → List (List ℕ) → FindAnswer
first_that test [] = not_found 0
first_that test (p ∷ ps) = pick (test p) (record { refusal = 0; found = true; shares = p }) (first_that test ps)

-- ---- check 15
-- a number is one of a list
unfoldable pub is_among : List ℕ → ℕ → Bool
is_among [] d = false
is_among (x ∷ xs) d = pick (eqb d x) true (is_among xs d)

-- the numbers of parts that it takes
unfoldable pub parts_taken : List ℕ
parts_taken = 1 ∷ 2 ∷ 4 ∷ 5 ∷ 8 ∷ 10 ∷ 16 ∷ 20 ∷ 25 ∷ 40 ∷ []

-- ---- the call
module _ (P : Numbers) (D : ℕ) where
  -- the plan's own checks, then 15: another D, or more than four instruments; there is no 11
  unfoldable pub find_refusal : ℕ
  find_refusal =
      first_of (refusal_of P)
      (check (both (is_among parts_taken D) (leb P.instruments 4)) 15
      0)

  -- the first allocation on the grid whose verdict is solvent
  unfoldable pub find_answer : FindAnswer
  find_answer = answer not_found find_refusal (first_that (solvent_with P) (allocations P.instruments D))
