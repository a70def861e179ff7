-- The records of instruments and patterns are those of the plan's rows.
use mathlib.Core.Path.{◌≡◌, ap}
use Prim.Native.Nat.{ℕ, ◌<◌}
use Rattle.whole.specs.Entry.{nth}
use Rattle.plan.specs.declared.Plan.{Plan}
use Rattle.plan.specs.Held.{shape_of, instrument_at, instrument_held, pattern_at, pattern_held, held}
use Rattle.plan.proofs.Held.{instrument_is, pattern_is}
use Rattle.planfile.specs.Groups.{groups_of, count_of}
use Rattle.planfile.specs.Rows.{instrument_rec, pattern_rec}
use Rattle.planfile.specs.Records.{record_of}

module _ (plan : Plan) {role j : ℕ} (l : j < count_of (groups_of (shape_of plan)) role) where
  pub instruments : role ≡ 2 → j < plan.instruments
  unfolding groups_of count_of
  instruments key = rw key at l

  pub instrument : role ≡ 2 → record_of (held plan) role j ≡ instrument_rec plan.years (instrument_held plan.years (instrument_at plan j))
  unfolding record_of nth
  instrument key = rw key (ap (instrument_rec plan.years) (instrument_is plan j (instruments key)))

  pub patterns : role ≡ 5 → j < plan.patterns
  unfolding groups_of count_of
  patterns key = rw key at l

  pub pattern : role ≡ 5 → record_of (held plan) role j ≡ pattern_rec plan.years (pattern_held plan.years (pattern_at plan j))
  unfolding record_of nth
  pattern key = rw key (ap (pattern_rec plan.years) (pattern_is plan j (patterns key)))
