-- What is claimed of an answer (document 02, item 5): what is found is on the grid and solvent, and where none is found there is none.
-- Neither speaks of the order in which the search goes.
use Rattle.std.specs.Prelude.{◌≡◌, true, false, List, ℕ, ◌≤◌, pos, get_or, replicate, ◌≤ℤ◌}
use Rattle.plan.specs.Numbers.{Numbers}
use Rattle.plan.specs.Refusal.{refusal_of}
use Rattle.planner.specs.Calls.{exact_fund}
use Rattle.planner.specs.Verdict.{solvent, verdict_answer}
use Rattle.finder.specs.Answers.{FindAnswer}
use Rattle.finder.specs.Grid.{OnGrid}
use Rattle.finder.specs.Find.{allocated, find_answer}

module _ (P : Numbers) (D : ℕ) where
  -- what is found is on the grid, and the verdict on the plan with it is accepted and solvent, so that its exact fund is zero or more in
  -- every pattern
  pub record Found (shares : List ℕ) : Type 0 where
    pub on_grid : OnGrid P.instruments D shares
    pub past : (j : ℕ) → P.instruments ≤ j → get_or shares j 0 ≡ 0
    pub accepted : (verdict_answer (allocated P shares)).refusal ≡ 0
    pub is_solvent : (verdict_answer (allocated P shares)).word ≡ solvent
    pub exact : (t : ℕ) → 1 ≤ t → t ≤ P.patterns → pos 0 ≤ℤ exact_fund (allocated P shares) t

  pub record FindTrue (s : FindAnswer) : Type 0 where
    pub found : s.refusal ≡ 0 → s.found ≡ true → Found s.shares
    -- where none is found, every list of shares on the grid has another verdict
    pub none : s.refusal ≡ 0 → s.found ≡ false → (shares : List ℕ) → OnGrid P.instruments D shares → (verdict_answer (allocated P shares)).word ≡ solvent → ⊥
    -- a refused answer has found none, and where none is found the shares are zeros
    pub refused : (s.refusal ≡ 0 → ⊥) → s.found ≡ false
    pub zeros : s.found ≡ false → s.shares ≡ replicate 16 0
    -- and with any other allocation of its own that check 9 takes, the plan has the same answer
    pub own : s.refusal ≡ 0 → (shares : List ℕ) → refusal_of (allocated P shares) ≡ 0 → find_answer (allocated P shares) D ≡ s
