-- `Common::coefficients` fills in the fund of one row with its cost after the other, until check 11 refuses one (FormLoops, `Funded`).
use mathlib.Core.Path.{◌≡◌, refl, ◌∙◌}
use Prim.Native.Nat.{◌≤◌}
use native.Mathlib.Omega.{arith}
use lib.ListN.{length}
use mir.Syntax.{w64}
use mir.Val.{SFits}
use Rattle.std.proofs.Common.{rules}
use Rattle.std.proofs.lemmas.List.{length-take}
use Rattle.std.proofs.lemmas.Result.{err_from_is_err_and}
use Rattle.whole.specs.Range.{limit}
use Rattle.whole.proofs.Range.{within_fits, back, ok64}
use Rattle.reckoning.specs.Arrays.{rates_of}
use Rattle.plan.proofs.Number.{number_some}
use Rattle.patterns.specs.Arrays.{shared_in}
use Rattle.patterns.proofs.Flows.{row_flow}
use Rattle.patterns.proofs.Weighing.{cost_at}
use Rattle.patterns.proofs.FormLoops.{row_few, row_is, row_reckoned, funds_start, funds_turn, funds_refuse, funds_end}
use Rattle.patterns.proofs.common.Common.coefficients.Goals as goal

pub loop-j-init : goal.loop-j-init
loop-j-init c = funds_start

pub invariant_of-payments : goal.invariant_of-payments
invariant_of-payments c =
    let rows = c.args.self.now.payments in
    let n = c.args.self.now.instruments in
    record { within = rw (row_is rows n c.loop-j.j c.loop-j-test.true) (c.args.self.now.prepared.payments c.loop-j.j (row_few rows n c.loop-j.j c.loop-j-test.true)) }

pub returns-in_err-k : goal.returns-in_err-k
returns-in_err-k c = λ shares.
    let p = err_from_is_err_and c.from_residual.result c.from_residual.ensures.1 in
    let few = row_few c.args.self.now.payments c.args.self.now.instruments c.loop-j.j c.loop-j-test.true in
    let cost = back (ok64 c.amount_at.result c.amount_at.type_inv) ∙ c.amount_at.ensures in
    rw (p.1, p.2)
    (funds_refuse (shared_in c.args.self.now shares) (rates_of c.args.i.now.rates) (row_flow c.args.self.now shares) (cost_at c.args.self.now shares) few
    (row_reckoned c.args.self.now.payments c.args.self.now.instruments c.loop-j.j c.loop-j-test.true _ _ _ cost c.in_err-k.ensures.value) (number_some _))

pub loop-j-preserved : goal.loop-j-preserved
loop-j-preserved c =
    let few = row_few c.args.self.now.payments c.args.self.now.instruments c.loop-j.j c.loop-j-test.true in
    let cost = back (ok64 c.amount_at.result c.amount_at.type_inv) ∙ c.amount_at.ensures in
    let fits : SFits w64 c.in_ok-k.field-0 = within_fits {b = limit} (omega arith) c.in_ok-k.ensures.within in
    simp (back, fits)
    (funds_turn c.args.self.now.prepared.few few c.loop-j.invariant
    (row_reckoned c.args.self.now.payments c.args.self.now.instruments c.loop-j.j c.loop-j-test.true _ _ _ cost c.in_ok-k.ensures.value) refl)

pub returns : goal.returns
returns c = λ shares.
    let rows : length c.args.self.now.payments ≡ 16 = search rules in
    let all : c.args.self.now.instruments ≤ c.loop-j.j = omega (arith, c.loop-j-test.false, length-take c.args.self.now.instruments c.args.self.now.payments, rows, c.args.self.now.prepared.few) in
    funds_end (shared_in c.args.self.now shares) (rates_of c.args.i.now.rates) (row_flow c.args.self.now shares) (cost_at c.args.self.now shares) all c.loop-j.invariant
