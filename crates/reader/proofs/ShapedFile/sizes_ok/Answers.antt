-- `sizes_ok` is check 5.
use mathlib.Core.Path.{sym, ◌∙◌}
use borrow.Author.Tests.{eq-eqb, ne_eqb}
use Rattle.std.proofs.lemmas.List.{length_push}
use Rattle.whole.proofs.Test.{all_none, all_more}
use Rattle.reader.proofs.Walks.{front, stands, goes_on, stops, size_stands}
use Rattle.reader.proofs.Order.{size_fails, sizes_pass}
use Rattle.reader.proofs.ShapedFile.sizes_ok.Goals as goal

pub loop-record-init : goal.loop-record-init
loop-record-init c = (tt, tt, front (c.into_iter-record-iterator.ensures.into_iter_gives ∙ c.of-record-items.ensures), all_none _)

pub returns-then-record-size_of : goal.returns-then-record-size_of
returns-then-record-size_of c =
    let f = stands c.loop-record.invariant.2 c.in-Some.ensures.steps in
    rw (size_fails _ _ c.requires f (size_stands f _ ∙ ne_eqb _ _ (λ e. c.if-record-size_of.true (e ∙ sym c.size_of.ensures))))

pub loop-record-preserved : goal.loop-record-preserved
loop-record-preserved c =
    let l = c.loop-record.invariant in
    let g = c.in-Some.ensures.steps in
    let f = stands l.2 g in
    rw length_push (tt, tt, goes_on l.2 g, all_more _ _ l.3 (size_stands f _ ∙ eq-eqb _ _ (c.if-record-size_of.false ∙ c.size_of.ensures)))

pub returns : goal.returns
returns c = let l = c.loop-record.invariant in rw (sizes_pass _ _ c.requires _ (stops l.2 c.in-None.ensures.steps.0) l.3)
