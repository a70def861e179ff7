-- `Common::paid` adds each row's payment of the year times its part (Weighing).
use mathlib.Core.Path.{◌≡◌, sym, ap, ◌∙◌}
use mathlib.Core.List.{List, []}
use Prim.Native.Nat.{ℕ, min, ◌<◌}
use native.Mathlib.Omega.{arith}
use lib.IntN.{ℤ, pos, ◌+ℤ◌, ◌*ℤ◌}
use lib.ListN.{length, get_or, take}
use mir.Syntax.{w64}
use mir.Val.{SFits, to_z}
use Rattle.std.proofs.Common.{rules, length-append}
use Rattle.std.proofs.lemmas.List.{length-take, get_or-take}
use Rattle.std.proofs.lemmas.Slice.Zip.{zip_turn, zip_end}
use Rattle.whole.proofs.Range.{within_fits, back, ok64}
use Rattle.patterns.specs.Arrays.{Weighable}
use Rattle.patterns.proofs.Weighing.{column, column_at, column_weighs, column_weighable, weigh_start, weigh_end, product_fits, weigh_turn, sum_fits}
use Rattle.patterns.proofs.common.Common.paid.Goals as goal
use Rattle.patterns.proofs.common.Common.paid.Goals.{After-from, In-None}

pub loop-row-init : goal.loop-row-init
loop-row-init c = weigh_start _ _ _

-- the row and its part, their product, and the sum with it
module _ (c : After-from) where
  abbrev j : ℕ
  j = length c.loop-row.yielded

  abbrev rows : List (List ℤ)
  rows = take c.args.self.now.instruments c.args.self.now.payments

  abbrev z : ℤ
  z = get_or c.in-Some.row.now c.args.k (pos 0)

  turn : (j < length rows) × (j < length c.args.p.now.shares)
      × ((d : List ℤ) → c.in-Some.row.now ≡ get_or rows j d) × ((d : ℕ) → c.in-Some.part.now ≡ get_or c.args.p.now.shares j d)
  turn = zip_turn _ _ c.loop-row.yielded c.into_iter-row-iterator.result c.loop-row.row-iterator c.next.new.self c.next.result (search rules) (search rules)
      c.loop-row.yielded_by (c.in-Some.row, c.in-Some.part) c.in-Some.is c.next.ensures.steps

  few : j < c.args.self.now.instruments
  few = omega (arith, turn.0, length-take c.args.self.now.instruments c.args.self.now.payments)

  amount : z ≡ get_or (column c.args.self.now.payments c.args.k) j (pos 0)
  amount = ap (λ (row : List ℤ). get_or row c.args.k (pos 0)) (turn.2 [] ∙ get_or-take c.args.self.now.instruments c.args.self.now.payments j [] few) ∙ sym (column_at c.args.self.now.payments c.args.k j)

  part : c.from.result ≡ pos (get_or c.args.p.now.shares j 0)
  part = c.from.ensures ∙ ap pos (turn.3 0)

  weighable : Weighable c.args.self.now.instruments (column c.args.self.now.payments c.args.k) c.args.p.now.shares
  weighable = column_weighable c.args.self.now c.args.p.now.shares c.requires.parts c.args.k c.requires.k_few _ (λ j h. column_at c.args.self.now.payments c.args.k j)

  z_is : SFits w64 z
  z_is = rw amount (within_fits (omega arith) (weighable.amount j few))

  p_fits : SFits w64 c.from.result
  p_fits = ok64 c.from.result c.from.type_inv

  z_fits : SFits w64 (z *ℤ c.from.result)
  z_fits = product_fits weighable few amount part

  s_fits : SFits w64 (to_z w64 c.loop-row.sum-bits +ℤ z *ℤ c.from.result)
  s_fits = sum_fits weighable few amount part c.loop-row.invariant

pub overflow_mul-sum : goal.overflow_mul-sum
overflow_mul-sum c = simp (back, z_is c, p_fits c) (z_fits c)

pub overflow_add-sum : goal.overflow_add-sum
overflow_add-sum c = simp (back, z_is c, p_fits c, z_fits c) (s_fits c)

pub loop-row-preserved : goal.loop-row-preserved
loop-row-preserved c = simp (back, z_is c, p_fits c, z_fits c, s_fits c, length-append) (weigh_turn (weighable c) (few c) (amount c) (part c) c.loop-row.invariant)

-- all rows and parts
module _ (c : In-None) where
  all : length c.loop-row.yielded ≡ min (length (take c.args.self.now.instruments c.args.self.now.payments)) (length c.args.p.now.shares)
  all = zip_end _ _ c.loop-row.yielded c.into_iter-row-iterator.result c.loop-row.row-iterator c.next.new.self c.next.result (search rules) (search rules)
      c.loop-row.yielded_by c.in-None.is c.next.ensures.steps

pub returns : goal.returns
returns c =
    let rows : length c.args.self.now.payments ≡ 16 = search rules in
    let parts : length c.args.p.now.shares ≡ 16 = search rules in
    weigh_end (omega (arith, all c, length-take c.args.self.now.instruments c.args.self.now.payments, rows, parts, c.args.self.now.prepared.few)) c.loop-row.invariant
    ∙ sym (column_weighs c.args.self.now.payments c.args.k c.args.self.now.instruments c.args.p.now.shares)
