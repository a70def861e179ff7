-- `cash::lists::TwoLists::check` is checks 8 and 14.
use mathlib.Core.Path.{◌≡◌, sym, ap, ◌∙◌}
use Prim.Native.Nat.{ℕ, ◌+◌}
use mathlib.Core.List.{List}
use lib.ListN.{length}
use lib.IntN.{ℤ}
use Rattle.reckoning.specs.Arrays.{rates_of}
use Rattle.cash.specs.Call.{list_ok}
use Rattle.cash.proofs.ListLaws.{lending_refused, borrowing_refused, order_refused, lists_taken}
use Rattle.cash.proofs.lists.TwoLists.check.Goals as goal
use Rattle.cash.proofs.lists.TwoLists.check.Goals.{then-not-is_in_range-via-then-not-is_in_range, then-not-is_in_range-via-else-not-is_in_range+then-not-is_in_range-2}

-- the list of borrowing rates is as long as that of lending rates
borrowing_ok : (lending borrowing : List ℤ) → length lending ≡ length borrowing → list_ok (length lending + 1) (rates_of borrowing) ≡ list_ok (length borrowing + 1) (rates_of borrowing)
borrowing_ok lending borrowing e = ap (λ (n : ℕ). list_ok (n + 1) (rates_of borrowing)) e

pub returns-then-not-is_in_range : goal.returns-then-not-is_in_range
returns-then-not-is_in_range c =
    elim c.then-not-is_in_range.branch [
      | then-not-is_in_range-via-then-not-is_in_range w ↦ lending_refused _ _ _ (sym w.if-not-is_in_range.ensures)
      | then-not-is_in_range-via-else-not-is_in_range+then-not-is_in_range-2 w ↦ borrowing_refused _ _ _ (borrowing_ok _ _ c.args.self.now.alike ∙ sym w.if-not-is_in_range-2.ensures)
    ]

pub returns-then-not-is_in_order : goal.returns-then-not-is_in_order
returns-then-not-is_in_order c =
    order_refused _ _ _ (sym c.if-not-is_in_range.ensures) (borrowing_ok _ _ c.args.self.now.alike ∙ sym c.if-not-is_in_range-2.ensures) (sym c.if-not-is_in_order.ensures)

pub returns : goal.returns
returns c = lists_taken _ _ _ (sym c.if-not-is_in_range.ensures) (borrowing_ok _ _ c.args.self.now.alike ∙ sym c.if-not-is_in_range-2.ensures) (sym c.if-not-is_in_order.ensures)
