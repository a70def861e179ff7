-- `arrays::put_rates` puts down row after row (Copying, `Joining`), and then the starts and the steps.
use mathlib.Core.Path.{◌≡◌, ◌∙◌}
use native.Mathlib.Omega.{arith}
use borrow.Author.Rules.{rules}
use lib.IntN.{pos}
use lib.ListN.{get_or}
use Rattle.plan.specs.Held.{row_start, row_step, missing_pattern}
use Rattle.arrays.specs.Arrays.{of_each, starts_of, steps_of, all_rates}
use Rattle.whole.proofs.Made.{made_whole}
use Rattle.arrays.proofs.Copying.{join_start, join_turn, join_end, front_part, front_all, length_each}
use Rattle.arrays.proofs.put_rates.Goals as goal
use Rattle.arrays.proofs.put_rates.Goals.{After-copy_from_slice-2}

pub loop-t-init : goal.loop-t-init
loop-t-init c = join_start c.told-out

pub loop-t-preserved : goal.loop-t-preserved
loop-t-preserved c =
    let thirty = c.put_row.ensures.thirty in
    join_turn (omega arith) c.loop-t-test.true c.loop-t.invariant (rw c.rates_in.ensures at thirty) (rw c.rates_in.ensures at c.put_row.ensures.is)

starts : (c : Unit {0} → After-copy_from_slice-2) → (c tt).from_fn.result ≡ starts_of (c tt).args.plan.now.pattern
unfolding of_each
starts c =
    let rows = (c tt).args.plan.now.pattern in
    made_whole (c tt).from_fn.ensures.items (λ t. row_start (get_or rows t missing_pattern)) (pos 0) (λ t start q h called. (search rules, search rules))

steps : (c : Unit {0} → After-copy_from_slice-2) → (c tt).from_fn-2.result ≡ steps_of (c tt).args.plan.now.pattern
unfolding of_each
steps c =
    let rows = (c tt).args.plan.now.pattern in
    made_whole (c tt).from_fn-2.ensures.items (λ t. row_step (get_or rows t missing_pattern)) (pos 0) (λ t step q h called. (search rules, search rules))

pub returns : goal.returns
unfolding all_rates
returns c =
    let rows = c.args.plan.now.pattern in
    let all = join_end c.loop-t-test.false c.loop-t.invariant in
    let more = front_part (starts_of rows) all (omega arith) (length_each _ _ rows) (c.copy_from_slice.ensures.after ∙ starts (λ _. c)) in
    front_all (front_part (steps_of rows) more (omega arith) (length_each _ _ rows) (c.copy_from_slice-2.ensures.after ∙ steps (λ _. c)))
