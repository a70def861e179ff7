-- `reckoning::limited` is the test of check 11.
use mathlib.Core.Path.{refl, sym, ◌∙◌}
use lib.IntN.{pos, neg_ℤ}
use Rattle.whole.specs.Range.{limit}
use Rattle.whole.proofs.Range.{back}
use Rattle.whole.proofs.Test.{lt_true, lt_false, between_yes, between_under, between_above}
use Rattle.reckoning.proofs.limited.Goals as goal
use Rattle.reckoning.proofs.limited.Goals.{then-z-ltminus1000000000000, else-z-ltminus1000000000000}

pub returns-then-z-gt1000000000000 : goal.returns-then-z-gt1000000000000
returns-then-z-gt1000000000000 c =
    let z = c.ranges.z in
    elim c.if-z-ltminus1000000000000.branch [
      | then-z-ltminus1000000000000 w ↦ rw (between_under (neg_ℤ (pos limit)) (pos limit) c.args.z (lt_true _ _ (simp (back, z) at w.if-z-ltminus1000000000000.true))) refl
      | else-z-ltminus1000000000000 w ↦ rw (between_above (neg_ℤ (pos limit)) (pos limit) c.args.z (lt_true _ _ (simp (back, z) at (sym w.value-is ∙ c.if-z-gt1000000000000.true)))) refl
    ]

pub returns-else-z-gt1000000000000 : goal.returns-else-z-gt1000000000000
returns-else-z-gt1000000000000 c =
    let z = c.ranges.z in
    elim c.if-z-ltminus1000000000000.branch [
      | then-z-ltminus1000000000000 w ↦ let a = w.value-is in let b = c.if-z-gt1000000000000.false in cc
      | else-z-ltminus1000000000000 w ↦
          simp (back, z) (rw (between_yes (neg_ℤ (pos limit)) (pos limit) c.args.z (record {
            low = lt_false _ _ (simp (back, z) at w.if-z-ltminus1000000000000.false);
            high = lt_false _ _ (simp (back, z) at (sym w.value-is ∙ c.if-z-gt1000000000000.false));
          })) refl)
    ]
