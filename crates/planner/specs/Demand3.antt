-- Demand 3: what an accepted answer says of Tilley's exact fund (document 01, "Bound, form, verdict"). H is that of the plan's
-- own numbers, with what is left at the horizon inside (document 02, item 6), and B is what the bound's call answers for the same plan and
-- pattern.
use Rattle.std.specs.Prelude.{◌≡◌, ℕ, ◌+◌, ◌-◌, ◌*◌, ◌≤◌, get_or, pos, ◌≤ℤ◌, ◌<ℤ◌}
use Rattle.reckoning.specs.Answers.{Reckoned}
use Rattle.reckoning.specs.Theorem.{FromBelow}
use Rattle.plan.specs.Numbers.{Numbers}
use Rattle.patterns.specs.Answers.{FormAnswer}
use Rattle.planner.specs.Answers.{VerdictAnswer}
use Rattle.planner.specs.Calls.{exact_fund, bound_of, bound_answer}
use Rattle.planner.specs.Verdict.{solvent, short}

module _ (P : Numbers) (t : ℕ) where
  -- the fund is never above the exact fund, and lies below it by less than B
  pub record FundNear (s : Reckoned) : Type 0 where
    pub near : s.refusal ≡ 0 → FromBelow P.years (exact_fund P t) s.fund (bound_of P t)
    pub bound : s.refusal ≡ 0 → bound_answer P t ≡ record { refusal = 0; bound = pos (bound_of P t) }

  -- the form's value is never above the exact fund, and lies below it by less than 2 B + 1
  pub record FormNear (s : FormAnswer) : Type 0 where
    pub near : s.refusal ≡ 0 → FromBelow P.years (exact_fund P t) s.value (2 * bound_of P t + 1)
    pub bound : s.refusal ≡ 0 → bound_answer P t ≡ record { refusal = 0; bound = pos (bound_of P t) }

module _ (P : Numbers) where
  -- a pattern of the plan whose exact fund is below zero
  pub record ShortPattern : Type 0 where
    pub pattern : ℕ
    pub some : 1 ≤ pattern
    pub few : pattern ≤ P.patterns
    pub below : exact_fund P pattern <ℤ pos 0

  -- where the word is solvent the exact fund is zero or more, where it is short it is below zero: in a pattern by its own word,
  -- and by the plan's word in every pattern, or in some
  pub record VerdictTrue (s : VerdictAnswer) : Type 0 where
    pub pattern_solvent : s.refusal ≡ 0 → (t : ℕ) → 1 ≤ t → t ≤ P.patterns → get_or s.words (t - 1) 0 ≡ solvent → pos 0 ≤ℤ exact_fund P t
    pub pattern_short : s.refusal ≡ 0 → (t : ℕ) → 1 ≤ t → t ≤ P.patterns → get_or s.words (t - 1) 0 ≡ short → exact_fund P t <ℤ pos 0
    pub plan_solvent : s.refusal ≡ 0 → s.word ≡ solvent → (t : ℕ) → 1 ≤ t → t ≤ P.patterns → pos 0 ≤ℤ exact_fund P t
    pub plan_short : s.refusal ≡ 0 → s.word ≡ short → ShortPattern
