-- `finder::splits::Split::with` makes the shares anew.
use mathlib.Core.Path.{◌≡◌, subst, sym, ◌∙◌}
use mathlib.Core.List.{List}
use Prim.Native.Nat.{ℕ, ◌≤◌}
use native.Mathlib.Omega.{arith}
use lib.ListN.{length, get_or, set, length-set}
use borrow.Author.Tests.{tests}
use Rattle.std.proofs.Common.{rules}
use Rattle.std.proofs.lemmas.List.{ext_get_or}
use Rattle.whole.specs.Range.{million}
use Rattle.whole.specs.Sum.{sum_ℕ}
use Rattle.whole.proofs.Made.{made_each}
use Rattle.finder.proofs.Placing.{set_at}
use Rattle.finder.proofs.splits.Split.with.Goals as goal
use Rattle.finder.proofs.splits.Split.with.Goals.{After-from_fn}

made : (c : After-from_fn) → c.from_fn.result ≡ set c.args.self.shares c.args.at c.args.share
made c =
    let long : length c.args.self.shares ≡ 4 = search rules in
    let each = made_each c.from_fn.ensures.items (λ k y. (k ≡ c.args.at → y ≡ c.args.share) × ((k ≡ c.args.at → ⊥) → y ≡ get_or c.args.self.shares k 0))
    (λ k y q l called. (search (rules, tests), ((λ e. search (rules, tests)), (λ e. search (rules, tests))))) in
    ext_get_or 0 _ _ (c.from_fn.ensures.items.long ∙ sym long ∙ sym (length-set c.args.self.shares c.args.at c.args.share))
    (λ k l. let y = each k 0 (omega (arith, c.from_fn.ensures.items.long)) in set_at c.args.self.shares c.args.at c.args.share k _ (omega (arith, long, c.requires.at_bound)) y.0 y.1)

pub invariant_of-result : goal.invariant_of-result
invariant_of-result c = record { few = subst (λ (l : List ℕ). sum_ℕ 4 (λ j. get_or l j 0) ≤ million) (sym (made c)) c.requires.few }

pub returns : goal.returns
returns c = made (goal.at.returns c).After-from_fn
