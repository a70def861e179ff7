-- `planner::rows::short_bits` sets the bit of one short word after the other.
use Rattle.std.proofs.Common.{◌≡◌, sym, ◌∙◌, refl, eqb}
use Rattle.std.specs.Prelude.{Option, Some, None}
use Rattle.std.specs.Option.{option_eq}
use Rattle.planner.specs.contracts.rows.WordPartialEq.TheImpl.{eq-value}
use Rattle.planner.specs.declared.rows.Word.{Word}
use Rattle.planner.specs.declared.rows.Word.TheVariants.{Solvent, Short, Close}
use Rattle.planner.specs.Shown.{word_shown}
use Rattle.planner.specs.Verdict.{short}
use Rattle.planner.proofs.Bits.{bits_none, bits_clear, bits_set}
use Rattle.planner.proofs.rows.short_bits.Goals as goal
use Rattle.planner.proofs.rows.short_bits.Goals.{then-eq, else-eq}

is_short : (w : Option Word) → option_eq eq-value.it w (Some Short) ≡ eqb (word_shown w) short
is_short None = refl
is_short (Some Solvent) = refl
is_short (Some Short) = refl
is_short (Some Close) = refl

pub loop-t-init : goal.loop-t-init
loop-t-init c = sym (bits_none _)

pub loop-t-preserved : goal.loop-t-preserved
loop-t-preserved c =
    let e = c.eq.ensures ∙ is_short _ in
    elim c.if-eq.branch [
      | then-eq w ↦ bits_set _ c.loop-t-test.true c.loop-t.invariant (sym e ∙ w.if-eq.true) w.bits-is
      | else-eq w ↦ bits_clear _ c.loop-t.invariant (sym e ∙ w.if-eq.false) w.bits-is
    ]
