-- `becketgrape::planner_write` writes the plan that the arrays hold.
use mathlib.Core.Path.{sym, ◌∙◌}
use Prim.Native.Nat.{ℕ}
use lib.ListN.{take}
use Rattle.planfile.specs.Demand2.{OneFile}
use Rattle.becketgrape.proofs.OnFile.{write_put, kept_put}
use Rattle.becketgrape.proofs.Alike.{write_alike}
use Rattle.becketgrape.proofs.planner_write.Goals as goal

pub returns : goal.returns
returns c =
    let e = c.write-answer.ensures in
    let r = c.write-answer.result in
    let kept = kept_put (λ (n : ℕ). OneFile (take n c.write-answer.new.buffer) c.plan.result) 0 r e.kept in
    rw (← c.plan.ensures)
    (record { length_after = write_put r c.number_in.ensures c.unwrap_or.ensures e.is; buffer_after = e.left; kept = λ h. rw c.unwrap_or.ensures (kept (sym c.number_in.ensures ∙ h)); alike = write_alike _ _ })
