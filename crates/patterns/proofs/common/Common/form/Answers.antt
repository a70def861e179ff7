-- `Common::form`: the coefficients, the constant, and the value that they make at the allocation (FormLaws).
use mathlib.Core.Path.{◌≡◌, refl, ◌∙◌}
use native.Mathlib.Omega.{arith}
use lib.IntN.{◌+ℤ◌}
use mir.Syntax.{w64}
use mir.Val.{SFits}
use Rattle.std.proofs.lemmas.Result.{err_from_is_err_and}
use Rattle.whole.specs.Range.{million, limit}
use Rattle.whole.specs.Floor.{floor}
use Rattle.whole.proofs.Range.{within_fits, back, ok64}
use Rattle.reckoning.specs.Arrays.{rates_of}
use Rattle.plan.proofs.Number.{number_some}
use Rattle.patterns.specs.Pattern.{value_at}
use Rattle.patterns.specs.Arrays.{shared_in, Weighable}
use Rattle.patterns.proofs.Weighing.{weighted_within, taken, weighed_taken}
use Rattle.patterns.proofs.FormLaws.{form_unmade, form_unbalanced, form_made, constant_is, weighable, value_is, value_fits}
use Rattle.patterns.proofs.common.Common.form.Goals as goal
use Rattle.patterns.proofs.common.Common.form.Goals.{In_ok-constant, After-down}

pub returns-in_err-coefficients : goal.returns-in_err-coefficients
returns-in_err-coefficients c =
    let p = err_from_is_err_and c.from_residual.result c.from_residual.ensures.1 in
    rw (p.1, p.2) (form_unmade _ _ (c.in_err-coefficients.ensures c.args.p.now.shares) (number_some _))

pub returns-in_err-constant : goal.returns-in_err-constant
returns-in_err-constant c =
    let p = err_from_is_err_and c.from_residual-in_err-constant.result c.from_residual-in_err-constant.ensures.1 in
    rw (p.1, p.2) (form_unbalanced _ _ (c.in_ok-coefficients.ensures c.args.p.now.shares) c.in_err-constant.ensures.value (number_some _))

-- the coefficients and the constant
module _ (c : In_ok-constant) where
  weighed : Weighable c.args.self.now.instruments c.in_ok-coefficients.coefficients c.args.p.now.shares
  weighed = weighable c.args.self.now c.args.p.now.shares _ (c.in_ok-coefficients.ensures c.args.p.now.shares) refl c.requires

  constant_fits : SFits w64 c.in_ok-constant.constant
  constant_fits = within_fits {b = limit} (omega arith) c.in_ok-constant.ensures.within

pub weighed-requires : goal.weighed-requires
weighed-requires c = taken (weighed c.before)

pub down-requires : goal.down-requires
down-requires c = let o = c.before.before in simp (back, ok64 c.weighed.result c.weighed.type_inv) (weighted_within (taken (weighed o)) c.weighed.ensures)

-- the value
module _ (c : After-down) where
  abbrev o : In_ok-constant
  o = c.before.before.before

  down_fits : SFits w64 c.down.result
  down_fits = ok64 c.down.result c.down.type_inv

  down_is : c.down.result ≡ floor c.weighed.result million
  down_is = simp (back, ok64 c.weighed.result c.weighed.type_inv) at c.down.ensures

  sum_fits : SFits w64 (c.down.result +ℤ c.in_ok-constant.constant)
  sum_fits = value_fits down_is (weighted_within (taken (weighed o)) c.weighed.ensures) c.in_ok-constant.ensures.within

  sum_is : c.down.result +ℤ c.in_ok-constant.constant ≡ value_at (shared_in c.args.self.now c.args.p.now.shares) (rates_of c.args.i.now.rates)
  sum_is = value_is c.args.self.now c.args.p.now.shares _ (c.in_ok-coefficients.ensures c.args.p.now.shares) refl down_is (c.weighed.ensures ∙ weighed_taken (weighed o))
      (constant_is _ _ c.in_ok-constant.ensures.value refl)

pub overflow_add-value : goal.overflow_add-value
overflow_add-value c = simp (back, down_fits c, constant_fits (o c)) (sum_fits c)

pub returns : goal.returns
returns c =
    simp (back, down_fits c, constant_fits (o c), sum_fits c)
    (form_made _ _ (c.in_ok-coefficients.ensures c.args.p.now.shares) c.in_ok-constant.ensures.value refl refl (sum_is c))
