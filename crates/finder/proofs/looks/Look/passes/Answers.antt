-- `finder::looks::Look::passes` reckons the fund.
use mathlib.Core.Path.{refl, fun_ext}
use native.Mathlib.Omega.{arith}
use lib.IntN.{ℤ}
use mir.Syntax.{w64}
use mir.Val.{SFits}
use Rattle.whole.specs.Range.{limit, Within}
use Rattle.whole.proofs.Range.{within_fits, back}
use Rattle.reckoning.specs.Arrays.{rates_of}
use Rattle.plan.proofs.Number.{number_some}
use Rattle.patterns.specs.Arrays.{shared_in}
use Rattle.finder.proofs.LineLaws.{fund_refused, fund_taken}
use Rattle.finder.proofs.looks.Look.passes.Goals as goal

-- what is left, as it is passed on
left_fits : {z : ℤ} → Within limit z → SFits w64 z
left_fits w = within_fits (omega arith) w

pub fund-requires : goal.fund-requires
fund-requires c = let w = c.args.self.now.reckonable.left_within in simp (back, left_fits w) w

pub returns-in-Ok : goal.returns-in-Ok
returns-in-Ok c =
    let look = c.args.self.now in
    let fits : SFits w64 c.in-Ok.fund = within_fits {b = limit} (omega arith) c.in-Ok.ensures.within in
    simp (back, fits)
    (fund_taken (shared_in look.common.now look.allocation.now.shares) (rates_of c.args.i.now.rates) (c.in-Ok.ensures.allocation look.allocation.now.shares (fun_ext look.reckonable.flow_is) (simp (back, left_fits look.reckonable.left_within) look.reckonable.left_is)) refl)

pub returns-in-Err : goal.returns-in-Err
returns-in-Err c =
    let look = c.args.self.now in
    fund_refused (shared_in look.common.now look.allocation.now.shares) (rates_of c.args.i.now.rates) (c.in-Err.ensures.allocation look.allocation.now.shares (fun_ext look.reckonable.flow_is) (simp (back, left_fits look.reckonable.left_within) look.reckonable.left_is)) (number_some _)
