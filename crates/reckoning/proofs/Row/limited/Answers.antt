-- `Row::limited` tests every entry of a row.
use mathlib.Core.Path.{◌≡◌, refl}
use Prim.Native.Nat.{◌<◌}
use native.Mathlib.Omega.{arith}
use lib.ListN.{length, take, get_or}
use lib.IntN.{pos}
use mir.Syntax.{w64}
use mir.Val.{SFits}
use Rattle.std.proofs.Common.{rules}
use Rattle.std.proofs.lemmas.List.{length-take, get_or-take}
use Rattle.whole.proofs.Range.{back}
use Rattle.whole.proofs.Answer.{answered_ok, passed_refusal}
use Rattle.whole.proofs.Test.{all_fails}
use Rattle.reckoning.proofs.GammaLoops.{entry_fits, fit_start, fit_turn, fit_end}
use Rattle.reckoning.proofs.Row.limited.Goals as goal

pub loop-z-init : goal.loop-z-init
loop-z-init c = fit_start _

pub returns-in_err-limited : goal.returns-in_err-limited
returns-in_err-limited c =
    let n = c.args.horizon.years in
    let v = c.args.self.values in
    let l = c.loop-z.z-index in
    let few : l < n = omega (arith, c.loop-z-test.true, length-take n v) in
    let fits : SFits w64 (get_or (take n v) l (pos 0)) = search rules in
    let e = passed_refusal _ _ _ _ _ (simp (get_or-take n v l (pos 0) few) at (simp (back, fits) at c.in_err-limited.ensures)) c.from_residual.ensures.1 in
    rw (e.1, all_fails n (entry_fits v) l few e.0) refl

pub loop-z-preserved : goal.loop-z-preserved
loop-z-preserved c =
    let n = c.args.horizon.years in
    let v = c.args.self.values in
    let l = c.loop-z.z-index in
    let few : l < n = omega (arith, c.loop-z-test.true, length-take n v) in
    let fits : SFits w64 (get_or (take n v) l (pos 0)) = search rules in
    fit_turn c.loop-z.invariant (answered_ok _ _ _ _ (simp (get_or-take n v l (pos 0) few) at (simp (back, fits) at c.in_ok-limited.ensures))).0

pub returns : goal.returns
returns c =
    let n = c.args.horizon.years in
    let v = c.args.self.values in
    let long : length v ≡ 30 = search rules in
    let end : length (take n v) ≡ n = omega (arith, length-take n v, c.args.horizon.held.few) in
    rw (fit_end {n = n} c.loop-z.invariant (omega (arith, end, c.loop-z.auto.z-index-end)) (omega (arith, end, c.loop-z-test.false))) refl
