-- `fill` makes the plan of the file's records, where checks 1 to 5 take them.
use mathlib.Core.Path.{sym, ap, ap₂, ◌∙◌}
use mathlib.Core.List.{List}
use Prim.Native.Nat.{ℕ}
use denote.Ref.{Bor}
use Rattle.plan.specs.declared.Shape.{Shape}
use Rattle.plan.specs.Held.{plan_from}
use Rattle.planfile.specs.Records.{record_in, held_of, held_in}
use Rattle.planfile.proofs.Checks.{layout_laid}
use Rattle.reader.proofs.fill.Goals as goal

pub put-requires-clause-laid : goal.put-requires-clause-laid
put-requires-clause-laid c =
    let e = c.in_ok-shaped.ensures in
    rw (e.shape, e.file) (layout_laid _ (sym e.is))

pub returns-clause-filled : goal.returns-clause-filled
unfolding held_in
returns-clause-filled c =
    let e = c.in_ok-shaped.ensures in
    let now = ap (λ (file : Bor (List ℕ)). file.now) e.file in
    c.put.ensures ∙ ap₂ (λ (s : List ℕ) (h : Shape). plan_from (held_of h (record_in s h))) now e.shape
