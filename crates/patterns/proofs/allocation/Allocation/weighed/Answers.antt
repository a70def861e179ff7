-- `Allocation::weighed` adds each amount times its part (Weighing).
use mathlib.Core.Path.{◌≡◌, ap, ◌∙◌}
use Prim.Native.Nat.{ℕ, ◌<◌}
use native.Mathlib.Omega.{arith}
use lib.IntN.{ℤ, pos, ◌+ℤ◌, ◌*ℤ◌}
use lib.ListN.{length, get_or}
use mir.Syntax.{w64}
use mir.Val.{SFits, to_z}
use Rattle.std.proofs.Common.{rules, length-append}
use Rattle.std.proofs.lemmas.Slice.Zip.{zip_turn}
use Rattle.whole.proofs.Range.{within_fits, back, ok64}
use Rattle.patterns.proofs.Weighing.{weigh_start, product_fits, weigh_turn, sum_fits}
use Rattle.patterns.proofs.allocation.Allocation.weighed.Goals as goal
use Rattle.patterns.proofs.allocation.Allocation.weighed.Goals.{After-sum-1}

pub loop-x-init : goal.loop-x-init
loop-x-init c = weigh_start _ _ _

-- the amount and its part, their product, and the sum with it
module _ (c : After-sum-1) where
  abbrev j : ℕ
  j = length c.loop-x.yielded

  turn : (j < length c.args.amounts.now) × (j < length c.args.self.now.shares)
      × ((d : ℤ) → c.in-Some.x.now ≡ get_or c.args.amounts.now j d) × ((d : ℕ) → c.in-Some.p.now ≡ get_or c.args.self.now.shares j d)
  turn = zip_turn _ _ c.loop-x.yielded c.into_iter-x-iterator.result c.loop-x.x-iterator c.next.new.self c.next.result (search rules) (search rules)
      c.loop-x.yielded_by (c.in-Some.x, c.in-Some.p) c.in-Some.is c.next.ensures.steps

  few : j < length c.args.amounts.now
  few = turn.0

  amount : c.in-Some.x.now ≡ get_or c.args.amounts.now j (pos 0)
  amount = turn.2 (pos 0)

  part : c.from.result ≡ pos (get_or c.args.self.now.shares j 0)
  part = c.from.ensures ∙ ap pos (turn.3 0)

  x_fits : SFits w64 c.in-Some.x.now
  x_fits = rw amount (within_fits (omega arith) (c.requires.amount j few))

  p_fits : SFits w64 c.from.result
  p_fits = ok64 c.from.result c.from.type_inv

  z_fits : SFits w64 (c.in-Some.x.now *ℤ c.from.result)
  z_fits = product_fits c.requires few amount part

  s_fits : SFits w64 (to_z w64 c.loop-x.sum-bits +ℤ c.in-Some.x.now *ℤ c.from.result)
  s_fits = sum_fits c.requires few amount part c.loop-x.invariant

pub overflow_mul-sum : goal.overflow_mul-sum
overflow_mul-sum c = simp (back, x_fits c, p_fits c) (z_fits c)

pub overflow_add-sum : goal.overflow_add-sum
overflow_add-sum c = simp (back, x_fits c, p_fits c, z_fits c) (s_fits c)

pub loop-x-preserved : goal.loop-x-preserved
loop-x-preserved c = simp (back, x_fits c, p_fits c, z_fits c, s_fits c, length-append) (weigh_turn c.requires (few c) (amount c) (part c) c.loop-x.invariant)
