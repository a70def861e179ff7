-- `writer::file_size` adds length after length.
use mathlib.Core.Path.{◌≡◌, sym, ap, ◌∙◌}
use mathlib.Core.List.{List}
use Prim.Native.Nat.{ℕ, ◌+◌, ◌*◌, ◌≤◌, ◌<◌}
use native.Mathlib.Omega.{arith}
use borrow.Author.Rules.{rules}
use lib.ListN.{length}
use Rattle.whole.specs.Sum.{sum_ℕ}
use Rattle.whole.proofs.Sum.{sum_ℕ_none, sum_ℕ_turn}
use Rattle.plan.specs.declared.Shape.{Shape}
use Rattle.plan.specs.declared.Pattern.{Pattern}
use Rattle.plan.specs.declared.Plan.{Plan}
use Rattle.plan.specs.Held.{held}
use Rattle.planfile.specs.Kinds.{size_of}
use Rattle.planfile.specs.Groups.{Spot, groups_of, total, spot_at, count_of, spot_shown}
use Rattle.planfile.specs.Records.{file_of}
use Rattle.planfile.specs.Reading.{InRange}
use Rattle.planfile.proofs.Checks.{head_range}
use Rattle.planfile.proofs.Groups.{role_some, spot_back, total_few}
use Rattle.writer.specs.Rows.{kind_at}
use Rattle.writer.proofs.Length.{length_at, sum_few, length_sum}
use Rattle.writer.proofs.file_size.Goals as goal
use Rattle.writer.proofs.file_size.Goals.{After-count-t-end, After-spot_at, After-size_of}

pub loop-t-init : goal.loop-t-init
loop-t-init c = sym (sum_ℕ_none _)

module _ (c : After-count-t-end) where
  abbrev plan : Plan
  plan = c.args.accepted.plan.now

  abbrev shape : Shape
  shape = c.shape.result

  range : InRange shape
  range = rw c.shape.ensures (head_range (held plan) c.args.accepted.accepted.head)

  -- after the last record
  all_added : {t n : ℕ} → n ≡ sum_ℕ t (length_at shape plan.pattern) → t ≡ total (groups_of shape) → n ≡ length (file_of (held plan))
  all_added {t} s e =
      s ∙ ap (λ (n : ℕ). sum_ℕ n (length_at shape plan.pattern)) e
      ∙ ap (λ (h : Shape). sum_ℕ (total (groups_of h)) (length_at h plan.pattern)) c.shape.ensures
      ∙ length_sum plan

-- ---- the spot of record t
module _ (c : After-spot_at) where
  abbrev d : After-count-t-end
  d = (goal.at.After-spot_at c).After-count-t-end

  below : c.loop-t.t < total (groups_of (shape d))
  below = omega (arith, c.loop-t-test.true, c.count-t-end.ensures)

  there : {s : Spot} → s ≡ spot_at (groups_of (shape d)) c.loop-t.t → s.index < count_of (groups_of (shape d)) s.role
  there e = rw e (spot_back (shape d) c.loop-t.t below).index

pub returns-in_default : goal.returns-in_default
returns-in_default c =
    let none = ap spot_shown (sym c.in_default.is) ∙ c.spot_at.ensures in
    absurd (omega (arith, role_some c.shape.result 0 0 (there (goal.at.returns-in_default c).After-spot_at none)))

pub kind_at-kind-requires : goal.kind_at-kind-requires
unfolding groups_of count_of
kind_at-kind-requires c key =
    let x = (goal.at.kind_at-kind-requires c).After-spot_at in
    let few : length c.args.accepted.plan.now.pattern ≡ 64 = search rules in
    let l = there x (ap spot_shown (sym c.in-Some.is) ∙ c.spot_at.ensures) in
    omega (arith, rw key at l, (range (d x)).patterns_few, few)

-- ---- the length of record t
module _ (c : After-size_of) where
  abbrev e : After-spot_at
  e = (goal.at.After-size_of c).After-spot_at

  abbrev rows : List Pattern
  rows = c.args.accepted.plan.now.pattern

  record_length : 4 + c.size_of.result ≡ length_at c.shape.result rows c.loop-t.t
  record_length =
      let number = c.from-in-loop-t.ensures ∙ c.from.ensures ∙ c.kind_at-kind.ensures in
      ap (λ (n : ℕ). 4 + n)
      (c.size_of.ensures ∙ ap (size_of c.shape.result) number
      ∙ ap (λ (s : Spot). size_of c.shape.result (kind_at rows s)) (ap spot_shown (sym c.in-Some.is) ∙ c.spot_at.ensures))

  added : c.loop-t.size + (4 + c.size_of.result) ≡ sum_ℕ (c.loop-t.t + 1) (length_at c.shape.result rows)
  added = sum_ℕ_turn (length_at c.shape.result rows) c.loop-t.t c.loop-t.invariant record_length

  few : c.loop-t.size + (4 + c.size_of.result) ≤ 255 * 65540
  few =
      let r = range (d e) in
      omega (arith, added, sum_few c.shape.result r rows (c.loop-t.t + 1), below e, total_few c.shape.result r)

pub overflow_add-size : goal.overflow_add-size
overflow_add-size c = record { fits = omega (arith, few c) }

pub overflow_add-size-in-loop-t : goal.overflow_add-size-in-loop-t
overflow_add-size-in-loop-t c = record { fits = omega (arith, few c) }

pub loop-t-preserved : goal.loop-t-preserved
loop-t-preserved c = added c

pub returns : goal.returns
returns c =
    let d = (goal.at.returns c).After-count-t-end in
    all_added d c.loop-t.invariant (omega (arith, c.loop-t.auto.t-end, c.loop-t-test.false, c.count-t-end.ensures))
