-- `finder::lines::Line::reckoned` makes the line of K_1 to K_n, Q and the bound.
use mathlib.Core.Path.{◌≡◌, refl}
use mathlib.Core.Bool.{true}
use mathlib.Core.List.{[]}
use Prim.Native.Nat.{ℕ, ◌+◌, ◌*◌, ◌<◌}
use native.Mathlib.Omega.{arith}
use lib.IntN.{ℤ, pos, ◌+ℤ◌, ◌*ℤ◌}
use lib.ListN.{get_or}
use mir.Syntax.{w64}
use mir.Val.{SFits}
use Rattle.std.proofs.lemmas.Result.{err_from_is_err_and}
use Rattle.whole.specs.Range.{million, limit, Within}
use Rattle.whole.proofs.Bridge.{whole}
use Rattle.whole.proofs.Range.{within_add, within_mul, within_pos, within_fits, back, ok64}
use Rattle.reckoning.specs.Arrays.{rates_of}
use Rattle.plan.proofs.Number.{number_some}
use Rattle.patterns.specs.Arrays.{shared_in}
use Rattle.patterns.specs.Pattern.{Shared, coefficients_fit, constant_fits, coefficients_at, constant_at}
use Rattle.finder.proofs.AtLine.{first_four, each_within, line_constant}
use Rattle.finder.proofs.LineLaws.{coefficients_refused, coefficients_taken, coefficients_are, constant_refused, constant_taken, constant_is, line_made}
use Rattle.finder.proofs.lines.Line.reckoned.Goals as goal
use Rattle.finder.proofs.lines.Line.reckoned.Goals.{After-bound}

pub returns-in_err-k : goal.returns-in_err-k
returns-in_err-k c =
    let p = err_from_is_err_and c.from_residual.result c.from_residual.ensures.1 in
    rw p.1 (coefficients_refused (shared_in c.args.common.now []) (rates_of c.args.i.now.rates) (c.in_err-k.ensures []) (number_some _))

pub returns-in_err-q : goal.returns-in_err-q
returns-in_err-q c =
    let p = err_from_is_err_and c.from_residual-in_err-q.result c.from_residual-in_err-q.ensures.1 in
    rw p.1 (constant_refused (shared_in c.args.common.now []) (rates_of c.args.i.now.rates) c.in_err-q.ensures.value (number_some _))

module _ (c : After-bound) where
  abbrev S : Shared
  S = shared_in c.args.common.now []

  abbrev i : ℕ → ℤ
  i = rates_of c.args.i.now.rates

  k_fits : coefficients_fit S i ≡ true
  k_fits = coefficients_taken S i (c.in_ok-k.ensures []) refl

  k_is : c.in_ok-k.k ≡ coefficients_at S i
  k_is = coefficients_are S i (c.in_ok-k.ensures []) refl

  q_fits : constant_fits S i ≡ true
  q_fits = constant_taken S i c.in_ok-q.ensures.value refl

  q_is : c.in_ok-q.q ≡ constant_at S i
  q_is = constant_is S i c.in_ok-q.ensures.value refl

  k_within : (j : ℕ) → j < 4 → Within limit (get_or c.in_ok-k.k j (pos 0))
  k_within j l = rw k_is (each_within S i c.args.common.now.prepared.few k_fits j (omega arith))

  k_at : (j : ℕ) → j < 4 → SFits w64 (get_or c.in_ok-k.k j (pos 0))
  k_at j l = within_fits (omega arith) (k_within j l)

  q_at : SFits w64 c.in_ok-q.q
  q_at = within_fits {b = limit} (omega arith) c.in_ok-q.ensures.within

  b_at : SFits w64 c.bound.result
  b_at = ok64 c.bound.result c.bound.type_inv

  b_within : Within 4_294_967_296 c.bound.result
  b_within = let b = c.bound.ensures.between in omega (whole, b)

  twice_within : Within (2 * 4_294_967_296) (pos 2 *ℤ c.bound.result)
  twice_within = within_mul {b = 2} (within_pos (omega arith)) b_within

  sum_within : Within (limit + 2 * 4_294_967_296) (c.in_ok-q.q +ℤ pos 2 *ℤ c.bound.result)
  sum_within = within_add c.in_ok-q.ensures.within twice_within

  constant_within : Within (2 * (limit * million)) (pos million *ℤ (c.in_ok-q.q +ℤ pos 2 *ℤ c.bound.result))
  constant_within = rw q_is (line_constant S i q_fits c.bound.ensures.between)

pub invariant_of-result : goal.invariant_of-result
invariant_of-result c =
    let d = (goal.at.invariant_of-result c).After-bound in
    simp (back, k_at d 0 (omega arith), k_at d 1 (omega arith), k_at d 2 (omega arith), k_at d 3 (omega arith), q_at d, b_at d, within_fits (omega arith) (twice_within d), within_fits (omega arith) (sum_within d), within_fits (omega arith) (constant_within d))
    (record { within = record { coefficient = λ j l. rw (first_four c.in_ok-k.k j l) (k_within d j l); constant_within = constant_within d } })

pub returns : goal.returns
returns c =
    let d = (goal.at.returns c).After-bound in
    simp (back, k_at d 0 (omega arith), k_at d 1 (omega arith), k_at d 2 (omega arith), k_at d 3 (omega arith), q_at d, b_at d, within_fits (omega arith) (twice_within d), within_fits (omega arith) (sum_within d), within_fits (omega arith) (constant_within d))
    (line_made (S d) (i d) (k_fits d) (q_fits d) (k_is d) (q_is d) (c.bound.ensures.value []))
