-- `finder::lines::Line::height` adds each coefficient times its share (Rattle.patterns.proofs.Weighing).
use mathlib.Core.Path.{◌≡◌, sym, ap, ◌∙◌}
use Prim.Native.Nat.{ℕ, ◌+◌, ◌*◌, ◌<◌, min}
use native.Mathlib.Omega.{arith}
use lib.IntN.{ℤ, pos, ◌+ℤ◌, ◌*ℤ◌}
use lib.ListN.{length, get_or}
use mir.Syntax.{w64}
use mir.Val.{SFits, to_z}
use Rattle.std.proofs.Common.{rules, length-append}
use Rattle.std.proofs.lemmas.Slice.Zip.{zip_turn, zip_end}
use Rattle.whole.specs.Range.{million, limit}
use Rattle.whole.specs.Sum.{sum}
use Rattle.whole.proofs.Sum.{sum_cong}
use Rattle.whole.proofs.Range.{within_add, within_fits, back, ok64}
use Rattle.patterns.specs.Arrays.{Weighable}
use Rattle.patterns.proofs.Weighing.{weigh_start, product_fits, weigh_turn, sum_fits, weigh_end, weighted_within}
use Rattle.finder.specs.Lines.{line_from}
use Rattle.finder.proofs.AtLine.{coefficient_in}
use Rattle.finder.proofs.lines.Line.height.Goals as goal
use Rattle.finder.proofs.lines.Line.height.Goals.{At-loop-k, After-from, In-None}

pub loop-k-init : goal.loop-k-init
loop-k-init c = weigh_start _ _ _

module _ (c : At-loop-k) where
  long : (length c.args.self.now.coefficients ≡ 4) × (length c.args.split.shares ≡ 4)
  long = (search rules, search rules)

  weighable : Weighable 4 c.args.self.now.coefficients c.args.split.shares
  weighable = record { few = omega arith; amount = c.args.self.now.within.coefficient; parts = c.args.split.few }

-- the coefficient and its share, their product, and the sum with it
module _ (c : After-from) where
  abbrev j : ℕ
  j = length c.loop-k.yielded

  turn : (j < length c.args.self.now.coefficients) × (j < length c.args.split.shares)
      × ((d : ℤ) → c.in-Some.k.now ≡ get_or c.args.self.now.coefficients j d) × ((d : ℕ) → c.in-Some.p.now ≡ get_or c.args.split.shares j d)
  turn = zip_turn _ _ c.loop-k.yielded c.into_iter-k-iterator.result c.loop-k.k-iterator c.next.new.self c.next.result (search rules) (search rules)
      c.loop-k.yielded_by (c.in-Some.k, c.in-Some.p) c.in-Some.is c.next.ensures.steps

  abbrev at : At-loop-k
  at = (goal.at.After-from c).At-loop-k

  few : j < 4
  few = omega (arith, turn.0, (long at).0)

  amount : c.in-Some.k.now ≡ get_or c.args.self.now.coefficients j (pos 0)
  amount = turn.2 (pos 0)

  part : c.from.result ≡ pos (get_or c.args.split.shares j 0)
  part = c.from.ensures ∙ ap pos (turn.3 0)

  k_fits : SFits w64 c.in-Some.k.now
  k_fits = rw amount (within_fits (omega arith) (c.args.self.now.within.coefficient j few))

  p_fits : SFits w64 c.from.result
  p_fits = ok64 c.from.result c.from.type_inv

  z_fits : SFits w64 (c.in-Some.k.now *ℤ c.from.result)
  z_fits = product_fits (weighable at) few amount part

  s_fits : SFits w64 (to_z w64 c.loop-k.sum-bits +ℤ c.in-Some.k.now *ℤ c.from.result)
  s_fits = sum_fits (weighable at) few amount part c.loop-k.invariant

pub overflow_mul-sum : goal.overflow_mul-sum
overflow_mul-sum c = simp (back, k_fits c, p_fits c) (z_fits c)

pub overflow_add-sum : goal.overflow_add-sum
overflow_add-sum c = simp (back, k_fits c, p_fits c, z_fits c) (s_fits c)

pub loop-k-preserved : goal.loop-k-preserved
loop-k-preserved c = simp (back, k_fits c, p_fits c, z_fits c, s_fits c, length-append) (weigh_turn (weighable (at c)) (few c) (amount c) (part c) c.loop-k.invariant)

-- the sum of all four, and with the constant
module _ (c : In-None) where
  abbrev s : ℤ
  s = to_z w64 c.loop-k.sum-bits

  abbrev here : At-loop-k
  here = (goal.at.In-None c).At-loop-k

  all : length c.loop-k.yielded ≡ min (length c.args.self.now.coefficients) (length c.args.split.shares)
  all = zip_end _ _ c.loop-k.yielded c.into_iter-k-iterator.result c.loop-k.k-iterator c.next.new.self c.next.result (search rules) (search rules)
      c.loop-k.yielded_by c.in-None.is c.next.ensures.steps

  sum_is : s ≡ sum 4 (λ j. get_or c.args.self.now.coefficients j (pos 0) *ℤ pos (get_or c.args.split.shares j 0))
  sum_is = weigh_end (omega (arith, all, (long here).0, (long here).1)) c.loop-k.invariant

  height_fits : SFits w64 (s +ℤ c.args.self.now.constant)
  height_fits = within_fits {b = limit * million + 2 * (limit * million)} (omega arith) (within_add (weighted_within (weighable here) sum_is) c.args.self.now.within.constant_within)

  constant_fits : SFits w64 c.args.self.now.constant
  constant_fits = within_fits (omega arith) c.args.self.now.within.constant_within

pub overflow_add-result : goal.overflow_add-result
overflow_add-result c = let n = (goal.at.overflow_add-result c).In-None in simp (back, constant_fits n) (height_fits n)

pub returns : goal.returns
returns c =
    let n = (goal.at.returns c).In-None in
    let k = c.args.self.now.coefficients in
    let p = c.args.split.shares in
    let same : sum 4 (λ j. get_or k j (pos 0) *ℤ pos (get_or p j 0)) ≡ sum 4 (λ j. get_or (line_from k c.args.self.now.constant) j (pos 0) *ℤ pos (get_or p j 0)) =
    sum_cong 4 _ _ (λ j l. ap (λ (z : ℤ). z *ℤ pos (get_or p j 0)) (sym (coefficient_in k c.args.self.now.constant j l))) in
    simp (back, constant_fits n, height_fits n) (ap (λ (z : ℤ). z +ℤ c.args.self.now.constant) (sum_is n ∙ same))
