-- `whole_file` finds where the last record ends.
use mathlib.Core.Path.{◌≡◌, sym, ap, ◌∙◌}
use native.Mathlib.Omega.{arith}
use borrow.Author.Tests.{eq-eqb, ne_eqb}
use lib.Dec.{eqb}
use lib.ListN.{length}
use Rattle.records.specs.Cursor.{whole_file}
use Rattle.records.proofs.Cursor.{rest_all}
use Rattle.reader.specs.declared.Walk.{Walk}
use Rattle.reader.proofs.Walks.{rest_goes, rest_ends}
use Rattle.reader.proofs.whole_file.Goals as goal
use Rattle.reader.proofs.whole_file.Goals.{In-None}

pub loop-record-init : goal.loop-record-init
loop-record-init c =
    let e = c.into_iter-record-iterator.ensures.into_iter_gives ∙ c.of-record-items.ensures in
    (tt, tt, ap (λ (w : Walk). w.file.now) e, ap (λ (w : Walk). w.at) e, omega arith, rest_all _)

pub loop-record-preserved : goal.loop-record-preserved
loop-record-preserved c =
    let l = c.loop-record.invariant in
    let g = c.in-Some.ensures.steps in
    let r = rest_goes _ l.2 l.3 g in
    (tt, tt, rw g.file l.2, g.at ∙ sym g.end, r.0, l.5 ∙ r.1)

-- no record is left
module _ (c : In-None) where
  left : whole_file c.args.file.now ≡ eqb c.loop-record.end (length c.args.file.now)
  left = let l = c.loop-record.invariant in l.5 ∙ rest_ends c.loop-record.record-iterator l.2 l.3 c.in-None.ensures.steps.0 l.4

pub returns-then-end-file : goal.returns-then-end-file
returns-then-end-file c = rw (left (goal.at.returns-then-end-file c).In-None, eq-eqb _ _ c.if-end-file.true)

pub returns-else-end-file : goal.returns-else-end-file
returns-else-end-file c = rw (left (goal.at.returns-else-end-file c).In-None, ne_eqb _ _ c.if-end-file.false)
