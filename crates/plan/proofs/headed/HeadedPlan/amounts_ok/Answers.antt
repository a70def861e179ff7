-- `HeadedPlan::amounts_ok` is check 6, one kind of amount after the other.
use mathlib.Core.Path.{◌≡◌, refl, sym, ◌∙◌}
use mathlib.Core.Bool.{Bool, true, false}
use Rattle.whole.specs.Test.{both}
use Rattle.plan.specs.Numbers.{Numbers, numbers}
use Rattle.plan.specs.Refusal.{payments_ok, outflows_ok, opening_ok, cost_ok, amounts_ok}
use Rattle.plan.proofs.Checks.{opening_ok_law, cost_ok_law}
use Rattle.plan.proofs.headed.HeadedPlan.amounts_ok.Goals as goal
use Rattle.plan.proofs.headed.HeadedPlan.amounts_ok.Goals.{Joined-outflows_ok, then-payments_ok, else-payments_ok, then-outflows_ok, else-outflows_ok}

-- a value that is b where a holds, and false where it does not
passed : {a b v : Bool} → a ≡ true → v ≡ b → v ≡ both a b
passed e f = rw e f

failed : {a v : Bool} (b : Bool) → a ≡ false → v ≡ false → v ≡ both a b
failed b e f = rw e f

in_turn : (a b c d : Bool) → both (both (both a b) c) d ≡ both a (both b (both c d))
in_turn true true c d = refl
in_turn true false c d = refl
in_turn false b c d = refl

-- what the kinds before the last come to
module _ (c : Joined-outflows_ok) where
  abbrev P : Numbers
  P = numbers c.args.self.plan.now

  flows : c.if-payments_ok.value ≡ both (payments_ok P) (outflows_ok P)
  flows = elim c.if-payments_ok.branch [
    | then-payments_ok w ↦ passed (sym c.payments_ok.ensures ∙ w.if-payments_ok.true) (w.value-is ∙ w.outflows_ok.ensures)
    | else-payments_ok w ↦ failed _ (sym c.payments_ok.ensures ∙ w.if-payments_ok.false) (w.value-is ∙ w.if-payments_ok.false)
  ]

  opened : c.if-outflows_ok.value ≡ both (both (payments_ok P) (outflows_ok P)) (opening_ok P)
  opened = elim c.if-outflows_ok.branch [
    | then-outflows_ok w ↦ passed (sym flows ∙ w.if-outflows_ok.true) (w.value-is ∙ w.kind_ok.ensures ∙ opening_ok_law c.args.self.plan.now)
    | else-outflows_ok w ↦ failed _ (sym flows ∙ w.if-outflows_ok.false) (w.value-is ∙ w.if-outflows_ok.false)
  ]

  all : (last : Bool) → last ≡ both (both (both (payments_ok P) (outflows_ok P)) (opening_ok P)) (cost_ok P) → last ≡ amounts_ok P
  unfolding amounts_ok
  all last e = e ∙ in_turn (payments_ok P) (outflows_ok P) (opening_ok P) (cost_ok P)

pub returns-then-kind_ok : goal.returns-then-kind_ok
returns-then-kind_ok c = let d = c.before.before in all d _ (passed (sym (opened d) ∙ c.if-kind_ok.true) (c.kind_ok-then-kind_ok.ensures ∙ cost_ok_law d.args.self.plan.now))

pub returns-else-kind_ok : goal.returns-else-kind_ok
returns-else-kind_ok c = let d = c.before in all d _ (failed _ (sym (opened d) ∙ c.if-kind_ok.false) c.if-kind_ok.false)
