-- `writer::write` goes by its checks, and each way out of it is a law.
use mathlib.Core.Path.{◌≡◌, refl, sym, ap, ap₂, ◌∙◌}
use Prim.Native.Nat.{ℕ}
use borrow.Author.Rules.{rules}
use lib.ListN.{length}
use lib.Seq.{sets}
use Rattle.plan.specs.declared.Plan.{Plan}
use Rattle.plan.specs.Held.{held}
use Rattle.planfile.specs.Records.{file_of}
use Rattle.std.proofs.lemmas.Result.{err_from_is_err_and}
use Rattle.writer.specs.declared.Pen.{Pen}
use Rattle.writer.specs.Put.{Put}
use Rattle.writer.proofs.Left.{plan_is, plan_left, short_is, short_left, written_is, written_left, written_kept}
use Rattle.writer.proofs.write.Goals as goal

pub returns-in_err-accepted-clause-is : goal.returns-in_err-accepted-clause-is
returns-in_err-accepted-clause-is c =
    let p = err_from_is_err_and c.from_residual.result c.from_residual.ensures.1 in
    rw (p.1, p.2) (plan_is _ _ _ c.in_err-accepted.ensures.is)

pub returns-in_err-accepted-clause-left : goal.returns-in_err-accepted-clause-left
returns-in_err-accepted-clause-left c = plan_left _ _ _ c.in_err-accepted.ensures.is

-- the length, of the plan that was accepted
length_is : {plan plan' : Plan} {n : ℕ} → plan ≡ plan' → n ≡ length (file_of (held plan)) → n ≡ length (file_of (held plan'))
length_is e h = h ∙ ap (λ (plan : Plan). length (file_of (held plan))) e

pub returns-then-buffer-length-clause-is : goal.returns-then-buffer-length-clause-is
returns-then-buffer-length-clause-is c =
    let ok = c.in_ok-accepted.ensures in
    short_is _ _ (sym ok.is) (length_is ok.plan c.file_size-length.ensures) c.if-buffer-length.true

pub returns-then-buffer-length-clause-left : goal.returns-then-buffer-length-clause-left
returns-then-buffer-length-clause-left c =
    let ok = c.in_ok-accepted.ensures in
    short_left _ _ (sym ok.is) (length_is ok.plan c.file_size-length.ensures) c.if-buffer-length.true

pub returns-clause-is : goal.returns-clause-is
returns-clause-is c =
    let ok = c.in_ok-accepted.ensures in
    written_is _ _ (sym ok.is) (length_is ok.plan c.file_size-length.ensures) c.if-buffer-length.false refl

-- what the pen put down is in the buffer
put_is : {plan plan' : Plan} {p q : Pen} → plan ≡ plan' → p.at ≡ 0 → Put p q (file_of (held plan)) → q.buffer.now ≡ sets p.buffer.now 0 (file_of (held plan'))
put_is {p = p} e z a = a.wrote.is ∙ ap₂ (λ (at : ℕ) (plan : Plan). sets p.buffer.now at (file_of (held plan))) z e

pub returns-clause-left : goal.returns-clause-left
returns-clause-left c =
    let ok = c.in_ok-accepted.ensures in
    let same = sym c.file.ensures.same in
    written_left _ _ (sym ok.is) (length_is ok.plan c.file_size-length.ensures) c.if-buffer-length.false (search rules ∙ put_is ok.plan refl c.file.ensures)

pub returns-clause-kept : goal.returns-clause-kept
returns-clause-kept c =
    let ok = c.in_ok-accepted.ensures in
    let same = sym c.file.ensures.same in
    written_kept _ _ (sym ok.is) (length_is ok.plan c.file_size-length.ensures) c.if-buffer-length.false (search rules ∙ put_is ok.plan refl c.file.ensures)
    ok.typed
