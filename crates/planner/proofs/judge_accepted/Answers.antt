-- `planner::judge_accepted` fills in the row of one pattern after the other, until check 11 refuses one (RowLaws, `Rowed`), and has the
-- verdict that their words make.
use mathlib.Core.Path.{◌≡◌, refl, ap₂, ◌∙◌}
use mathlib.Core.List.{List}
use Prim.Native.Nat.{ℕ, ◌≤◌}
use native.Mathlib.Omega.{arith}
use lib.ListN.{length, take}
use Rattle.std.proofs.lemmas.List.{length-take}
use Rattle.whole.proofs.Range.{back, ok64}
use Rattle.whole.proofs.Answer.{passed_on}
use Rattle.plan.specs.Numbers.{numbers}
use Rattle.planner.specs.Rows.{row_reckoned}
use Rattle.planner.proofs.Answers.{shared_is, allocation_taken}
use Rattle.planner.proofs.RowLaws.{rows_start, rows_turn, rows_refuse, rows_fit, rows_are, words_are, words_there}
use Rattle.planner.proofs.VerdictLaws.{pattern_refuses, judged_refused, judge_made}
use Rattle.planner.proofs.Words.{words_made}
use Rattle.planner.proofs.judge_accepted.Goals as goal

pub flow-flow-requires : goal.flow-flow-requires
flow-flow-requires c = allocation_taken c.of-common.result c.of-common.ensures.allocated c.of-allocation.ensures.parts

pub left-left-requires : goal.left-left-requires
left-left-requires c = (allocation_taken c.of-common.result c.of-common.ensures.allocated c.of-allocation.ensures.parts).parts

pub loop-t-init : goal.loop-t-init
loop-t-init c = rows_start _ _

-- there are as many rows as patterns
long : {A : Type 0} (items rows : List A) {m : ℕ} → length items ≡ length (take m rows) → m ≤ length rows → length items ≡ m
long items rows {m} e few = e ∙ length-take m rows ∙ omega (arith, few)

pub returns-in_err-pattern_row : goal.returns-in_err-pattern_row
returns-in_err-pattern_row c =
    let left = ok64 c.left-left.result c.left-left.type_inv in
    let shares = c.of-allocation.result.shares in
    let is = ap₂ row_reckoned (shared_is refl c.of-common.result c.of-common.ensures.shared shares c.of-allocation.ensures.held) c.new_money.ensures.held in
    let e = (simp (back, left) at c.in_err-pattern_row.ensures) shares c.flow-flow.ensures.held c.left-left.ensures.value in
    let size = long _ _ c.loop-t.auto.row-items c.args.plan.accepted.head.patterns_few in
    let k = rows_refuse (numbers c.args.plan.plan.now) c.loop-t.row-items (omega (arith, c.loop-t.auto.row-items, c.loop-t-test.true)) (omega (arith, size, c.loop-t.auto.row-items, c.loop-t-test.true)) c.loop-t.invariant _ (e ∙ is) in
    rw (passed_on c.from_residual.result c.from_residual.ensures.1) (judged_refused _ _ (k.1 ∙ pattern_refuses _ c.args.plan.accepted k.0))

pub loop-t-preserved : goal.loop-t-preserved
loop-t-preserved c =
    let left = ok64 c.left-left.result c.left-left.type_inv in
    let shares = c.of-allocation.result.shares in
    let is = ap₂ row_reckoned (shared_is refl c.of-common.result c.of-common.ensures.shared shares c.of-allocation.ensures.held) c.new_money.ensures.held in
    let e = (simp (back, left) at c.in_ok-pattern_row.ensures) shares c.flow-flow.ensures.held c.left-left.ensures.value in
    let size = long _ _ c.loop-t.auto.row-items c.args.plan.accepted.head.patterns_few in
    rows_turn (numbers c.args.plan.plan.now) c.loop-t.row-items (omega (arith, c.loop-t.auto.row-items, c.loop-t-test.true)) (omega (arith, size, c.loop-t.auto.row-items, c.loop-t-test.true)) c.loop-t.invariant _ (e ∙ is)

pub returns : goal.returns
returns c =
    let few = c.args.plan.accepted.head.patterns_few in
    let size = long _ _ c.loop-t.auto.row-items few in
    let end : c.args.plan.plan.now.patterns ≤ c.loop-t.t = omega (arith, size, c.loop-t-test.false) in
    let inv = c.loop-t.invariant in
    let there = words_there _ few c.loop-t.row-items size end inv _ c.words_in.ensures in
    let v = words_made _ c.words_in.result c.of-short.result (c.of-short.ensures _ there) c.words_in.ensures in
    judge_made _ c.args.plan.accepted (rows_fit _ few c.loop-t.row-items size end inv) (words_are _ few c.loop-t.row-items size end inv) (rows_are _ few c.loop-t.row-items size end inv) v
