-- The longest file of a shape that check 3 takes, which is not too long for check 1.
use mathlib.Core.Path.{sym, ap}
use mathlib.Core.Logic.{⊎_elim}
use mathlib.Core.List.{List, [], ◌∷◌}
use Prim.Native.Nat.{ℕ, zero, suc, ◌+◌, ◌*◌, ◌≤◌, ◌<◌}
use native.Mathlib.Nat.{mul-suc}
use native.Mathlib.Omega.{arith}
use lib.ListN.{length, length-append}
use Rattle.whole.specs.Entry.{cut}
use Rattle.whole.specs.Table.{table}
use Rattle.whole.proofs.Entry.{cut_in, cut_past}
use Rattle.whole.proofs.Laws.{ℕ_cases}
use Rattle.records.specs.Record.{Rec, file_bytes}
use Rattle.records.proofs.Records.{length_record, file_append}
use Rattle.plan.specs.declared.Shape.{Shape}
use Rattle.planfile.specs.Groups.{Group}
use Rattle.planfile.specs.Groups.{groups_of, count_of, none, laid}
use Rattle.planfile.specs.Records.{file_from}
use Rattle.planfile.specs.Reading.{InRange}
use Rattle.planfile.proofs.Bodies.{longest, size_most}
use Rattle.planfile.proofs.Groups.{laid_cong, most, most_few}
use Rattle.planfile.proofs.Filed.{AllSuit}

rows_few : (b : ℕ) (f : ℕ → Rec) → ((j : ℕ) → length (f j).body ≤ b) → (n : ℕ) → length (file_bytes (table n n f none)) ≤ (4 + b) * n
unfolding file_bytes table
rows_few b f few zero = omega arith
rows_few b f few (suc n) =
    rw (length-append, length_record (f 0)) (omega (arith, few 0, rows_few b (λ j. f (suc j)) (λ j. few (suc j)) n, mul-suc (4 + b) n))

groups_few : (f : (role j : ℕ) → Rec) → ((role j : ℕ) → length (f role j).body ≤ longest role) → (gs : List Group) → length (file_bytes (laid gs f)) ≤ most gs
unfolding file_bytes laid
groups_few f few [] = omega arith
groups_few f few (g ∷ gs) =
    rw (file_append, length-append) (omega (arith, rows_few (longest g.role) (f g.role) (few g.role) g.count, groups_few f few gs))

module _ (h : Shape) (range : InRange h) (f : (role j : ℕ) → Rec) (fit : AllSuit h f) where
  -- those records that the groups have
  abbrev had : (role j : ℕ) → Rec
  had role = cut none (count_of (groups_of h) role) (f role)

  had_few : (role j : ℕ) → length (had role j).body ≤ longest role
  had_few role j = ⊎_elim
      (λ (l : j < count_of (groups_of h) role).
      let u = fit role j l in
      rw (cut_in none _ (f role) j l) (omega (arith, u.size, size_most h range (f role j).kind, ap longest u.stands)))
      (λ (l : count_of (groups_of h) role ≤ j). rw (cut_past none _ (f role) j l) (omega arith))
      (ℕ_cases j (count_of (groups_of h) role))

  pub length_written : length (file_from h f) ≤ 12_404
  unfolding file_from
  length_written =
      rw (laid_cong h f had (λ role j l. sym (cut_in none _ (f role) j l))) (omega (arith, groups_few had had_few (groups_of h), most_few h range))
