-- T decides nothing but check 13, in the cash account too.
use mathlib.Core.Path.{◌≡◌, sym, ap, ◌∙◌, subst}
use mathlib.Core.List.{List}
use lib.IntN.{ℤ}
use Rattle.plan.specs.Held.{Held}
use Rattle.plan.specs.Numbers.{Numbers, meaning}
use Rattle.plan.specs.Refusal.{head_ok, head_refusal, refusal_of}
use Rattle.planner.specs.Alike.{meant}
use Rattle.planner.proofs.Alike.{refusal_with_meant, spelled_meant}
use Rattle.cash.specs.Call.{shape_refusal, numbers_refusal, cash_at, cash_answer}
use Rattle.cash.specs.Alike.{CashAlike}

module _ (lending borrowing : List ℤ) where
  same_meant : (P : Numbers) → (refusal_of P ≡ 13 → ⊥) → cash_answer P lending borrowing ≡ cash_answer (meant P) lending borrowing
  unfolding cash_answer cash_at shape_refusal numbers_refusal head_refusal head_ok
  same_meant P h = rw (refusal_with_meant P h)

  pub cash_alike : (H : Held) → CashAlike H lending borrowing
  cash_alike H = record {
    listed = λ h. subst (λ (Q : Numbers). cash_answer (meaning H) lending borrowing ≡ cash_answer Q lending borrowing) (sym (spelled_meant H)) (same_meant (meaning H) h);
    others = λ G e f g. same_meant (meaning H) f ∙ ap (λ (Q : Numbers). cash_answer Q lending borrowing) e ∙ sym (same_meant (meaning G) g);
  }
