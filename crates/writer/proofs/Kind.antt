-- The kind of each record of a plan: a pattern's goes by its row, every other is its role.
use mathlib.Core.Path.{◌≡◌, refl, sym, ap, ◌∙◌}
use mathlib.Core.Bool.{Bool, true, false}
use mathlib.Core.List.{List}
use Prim.Native.Nat.{ℕ, ◌<◌}
use borrow.Author.Tests.{eqb-true, eq-eqb, ne_eqb}
use lib.Dec.{eqb}
use lib.ListN.{get_or}
use Rattle.whole.specs.Test.{pick}
use Rattle.whole.proofs.Test.{false_true}
use Rattle.records.specs.Record.{Rec}
use Rattle.plan.specs.declared.Pattern.{Pattern}
use Rattle.plan.specs.declared.Pattern.TheVariants.{Rates, Slope}
use Rattle.plan.specs.declared.Plan.{Plan}
use Rattle.plan.specs.Held.{shape_of, pattern_at, pattern_held, missing_pattern, held}
use Rattle.planfile.specs.Groups.{Spot, groups_of, count_of}
use Rattle.planfile.specs.Rows.{pattern_rec}
use Rattle.planfile.specs.Records.{record_of}
use Rattle.writer.specs.Rows.{pattern_kind, kind_at}
use Rattle.writer.proofs.Role.{kind_own}
use Rattle.writer.proofs.Row.{pattern}

module _ (rows : List Pattern) (s : Spot) where
  pub kind_pattern : s.role ≡ 5 → kind_at rows s ≡ pattern_kind (get_or rows s.index missing_pattern)
  kind_pattern e = rw (eq-eqb s.role 5 e)

  pub kind_other : (s.role ≡ 5 → ⊥) → kind_at rows s ≡ s.role
  kind_other other = rw (ne_eqb s.role 5 other)

-- that of a row's record
row_kind : (N : ℕ) (row : Pattern) → (pattern_rec N (pattern_held N row)).kind ≡ pattern_kind row
unfolding pattern_rec
row_kind N (Rates rates) = refl
row_kind N (Slope start step until) = refl

pub kind_held : (plan : Plan) (s : Spot) → s.index < count_of (groups_of (shape_of plan)) s.role
    → (record_of (held plan) s.role s.index).kind ≡ kind_at plan.pattern s
kind_held plan s l = go (eqb s.role 5) refl
  where
    go : (b : Bool) → eqb s.role 5 ≡ b
        → (record_of (held plan) s.role s.index).kind ≡ pick b (pattern_kind (pattern_at plan s.index)) s.role
    go true e = ap (λ (r : Rec). r.kind) (pattern plan l (eqb-true s.role 5 e)) ∙ row_kind plan.years (pattern_at plan s.index)
    go false e = kind_own (held plan) s.role s.index l (λ i. false_true (sym e ∙ eq-eqb s.role 5 i))
