-- `arrays::put_counts` puts down the head's counts, then which patterns are slopes, then T of each, and whether the cost that is left at the
-- horizon is held.
use mathlib.Core.Path.{◌≡◌, refl, ap, ◌∙◌}
use mathlib.Core.Bool.{Bool, true, false}
use mathlib.Core.List.{[], ◌∷◌}
use Prim.Native.Nat.{ℕ}
use native.Mathlib.Omega.{arith}
use borrow.Author.Rules.{rules}
use lib.ListN.{get_or}
use mir.Val.{bool_byte}
use Rattle.std.specs.Prelude.{is_some}
use Rattle.plan.specs.Held.{flag, is_slope, row_until, missing_pattern}
use Rattle.arrays.specs.Arrays.{head_counts, of_each, sloped_of, untils_of, all_counts}
use Rattle.arrays.proofs.Copying.{front_none, front_part, front_set, front_all, length_each}
use Rattle.whole.proofs.Made.{made_whole}
use Rattle.arrays.proofs.put_counts.Goals as goal
use Rattle.arrays.proofs.put_counts.Goals.{After-from}

flag_is : (b : Bool) → bool_byte b ≡ flag b
flag_is true = refl
flag_is false = refl

sloped : (c : Unit {0} → After-from) → (c tt).from_fn.result ≡ sloped_of (c tt).args.plan.now.pattern
unfolding of_each
sloped c =
    let rows = (c tt).args.plan.now.pattern in
    made_whole (c tt).from_fn.ensures.items (λ t. flag (is_slope (get_or rows t missing_pattern))) 0 (λ t sloped q h called. (search rules, search rules))

untils : (c : Unit {0} → After-from) → (c tt).from_fn-2.result ≡ untils_of (c tt).args.plan.now.pattern
unfolding of_each
untils c =
    let rows = (c tt).args.plan.now.pattern in
    made_whole (c tt).from_fn-2.ensures.items (λ t. row_until (get_or rows t missing_pattern)) 0 (λ t until q h called. (search rules, search rules))

pub returns : goal.returns
unfolding all_counts
returns c =
    let plan = c.args.plan.now in
    let rows = plan.pattern in
    let opened = c.from-opened.ensures ∙ ap bool_byte c.is_some.ensures ∙ flag_is (is_some plan.opening) in
    let costed = c.from.ensures ∙ ap bool_byte c.is_some-2.ensures ∙ flag_is (is_some plan.cost) in
    let named = ap (λ (opened : ℕ). plan.years ∷ plan.instruments ∷ plan.terms ∷ plan.patterns ∷ opened ∷ []) opened in
    let head = front_part {m = 5} (head_counts plan) (front_none c.told-out) (omega arith) refl (c.copy_from_slice.ensures.after ∙ named) in
    let more = front_part (sloped_of rows) head (omega arith) (length_each _ _ rows) (c.copy_from_slice-2.ensures.after ∙ sloped (λ _. c.before)) in
    let most = front_part (untils_of rows) more (omega arith) (length_each _ _ rows) (c.copy_from_slice-3.ensures.after ∙ untils (λ _. c.before)) in
    rw (← costed) (front_all (front_set c.from.result most (omega arith)))
