-- Each way out says whether the record's end is in the file: the first because its four bytes are not.
use mathlib.Core.Path.{sym, ap, ap₂, ◌∙◌}
use Prim.Native.Nat.{ℕ, ◌+◌}
use native.Mathlib.Omega.{arith}
use Rattle.std.specs.Prelude.{Result, Ok, Err}
use Rattle.records.specs.declared.Record.{Record}
use Rattle.records.proofs.Cursor.{whole_yes, whole_no, next_record, next_stop}
use Rattle.records.proofs.next_at.Goals as goal

abbrev found_as : (kind start end : ℕ) → Result Record ℕ
found_as kind start end = Ok (record { kind = kind; start = start; end = end })

pub returns-then-left-lt4 : goal.returns-then-left-lt4
returns-then-left-lt4 c =
    let a = c.args in
    let left = c.saturating_sub-left.ensures in
    ap Err left ∙ sym (next_stop a.file.now a.at (whole_no _ _ (omega arith)))

pub returns-then-left-size : goal.returns-then-left-size
returns-then-left-size c =
    let a = c.args in
    let left = c.saturating_sub-left.ensures in
    let size = c.from-size.ensures in
    ap Err left ∙ sym (next_stop a.file.now a.at (whole_no _ _ (omega (arith, c.at.ensures))))

pub returns : goal.returns
returns c =
    let a = c.args in
    let size = c.from-size.ensures ∙ c.at.ensures in
    let kind = c.from-kind.ensures ∙ c.at-2.ensures in
    ap₂ (λ (k n : ℕ). found_as k (a.at + 4) (a.at + 4 + n)) kind size ∙ sym (next_record a.file.now a.at (whole_yes _ _ (omega (arith, c.at.ensures))))
