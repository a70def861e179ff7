-- `NewMoney::largest` is the largest rate without its sign: each turn keeps the larger of two.
use mathlib.Core.Path.{◌≡◌}
use Prim.Native.Nat.{◌-◌, ◌<◌}
use native.Mathlib.Omega.{arith}
use lib.ListN.{length, take, get_or}
use lib.IntN.{pos, nat_abs}
use mir.Syntax.{w64}
use mir.Val.{SFits}
use Rattle.std.proofs.Common.{rules}
use Rattle.std.proofs.lemmas.List.{length-take, get_or-take}
use Rattle.whole.proofs.Range.{within_fits, back, ok64}
use Rattle.reckoning.proofs.BoundLoops.{search_start, search_turn, search_end}
use Rattle.reckoning.proofs.NewMoney.largest.Goals as goal

pub loop-rate-init : goal.loop-rate-init
loop-rate-init c = search_start _

pub loop-rate-preserved : goal.loop-rate-preserved
loop-rate-preserved c =
    let rates = c.args.self.now.rates in
    let long : length rates ≡ 30 = search rules in
    let few : c.loop-rate.rate-index < c.args.horizon.years - 1 = omega (arith, c.loop-rate-test.true, length-take (c.args.horizon.years - 1) rates, c.args.horizon.held.few) in
    let fits : SFits w64 (get_or rates c.loop-rate.rate-index (pos 0)) = within_fits (omega arith) (c.args.self.now.within.rate _ (omega (arith, c.args.horizon.held.few))) in
    let size : c.abs.result ≡ pos (nat_abs (get_or rates c.loop-rate.rate-index (pos 0))) = simp (get_or-take (c.args.horizon.years - 1) rates c.loop-rate.rate-index (pos 0) few, back, fits) at c.abs.ensures.value in
    simp (back, ok64 c.max-most.result c.max-most.type_inv) (search_turn _ _ _ _ c.loop-rate.invariant (rw size at (simp (back, ok64 c.abs.result c.abs.type_inv) at c.max-most.ensures.value)))

pub returns : goal.returns
returns c =
    let rates = c.args.self.now.rates in
    let long : length rates ≡ 30 = search rules in
    let end : length (take (c.args.horizon.years - 1) rates) ≡ c.args.horizon.years - 1 = omega (arith, length-take (c.args.horizon.years - 1) rates, c.args.horizon.held.few) in
    search_end _ _ _ _ (omega (arith, end, c.loop-rate.auto.rate-index-end)) (omega (arith, end, c.loop-rate-test.false)) c.loop-rate.invariant
