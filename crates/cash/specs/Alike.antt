-- Patterns have no part in the account but to be checked. So a plan with slopes is answered as one that lists the same rates (document 02,
-- item 2), and as any other that means the same.
use Rattle.std.specs.Prelude.{◌≡◌, List, ℤ}
use Rattle.plan.specs.Held.{Held}
use Rattle.plan.specs.Numbers.{meaning}
use Rattle.plan.specs.Refusal.{refusal_of}
use Rattle.planner.specs.Alike.{spelled_out, meant}
use Rattle.cash.specs.Call.{cash_answer}

pub record CashAlike (H : Held) (lending borrowing : List ℤ) : Type 0 where
  -- with every slope spelled out as a list, unless check 13 refuses what is held
  pub listed : (refusal_of (meaning H) ≡ 13 → ⊥) → cash_answer (meaning H) lending borrowing ≡ cash_answer (meaning (spelled_out H)) lending borrowing
  -- and for any other that means the same, if check 13 refuses neither
  pub others : (G : Held) → meant (meaning H) ≡ meant (meaning G) → (refusal_of (meaning H) ≡ 13 → ⊥) → (refusal_of (meaning G) ≡ 13 → ⊥)
      → cash_answer (meaning H) lending borrowing ≡ cash_answer (meaning G) lending borrowing
