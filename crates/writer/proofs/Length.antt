-- The length of a file is the sum of the lengths of its records, which go by their kinds.
use mathlib.Core.Path.{◌≡◌, sym, ap, ◌∙◌}
use mathlib.Core.List.{List}
use Prim.Native.Nat.{ℕ, ◌+◌, ◌*◌, ◌≤◌}
use native.Mathlib.Omega.{arith}
use lib.ListN.{length, take}
use lib.Seq.{take_all}
use Rattle.whole.specs.Sum.{sum_ℕ}
use Rattle.whole.proofs.Sum.{sum_ℕ_cong, sum_ℕ_mono, sum_ℕ_const}
use Rattle.records.specs.Record.{Rec, file_bytes}
use Rattle.records.proofs.Records.{length_file}
use Rattle.plan.specs.declared.Shape.{Shape}
use Rattle.plan.specs.declared.Pattern.{Pattern}
use Rattle.plan.specs.declared.Plan.{Plan}
use Rattle.plan.specs.Held.{Held, shape_of, held}
use Rattle.planfile.specs.Kinds.{size_of}
use Rattle.planfile.specs.Groups.{groups_of, total, spot_at, none, laid}
use Rattle.planfile.specs.Records.{record_of, file_from, file_of}
use Rattle.planfile.specs.Reading.{InRange}
use Rattle.planfile.proofs.Bodies.{size_few}
use Rattle.planfile.proofs.Groups.{length_laid, laid_at, spot_back}
use Rattle.planfile.proofs.Roles.{suits_held}
use Rattle.writer.specs.Rows.{kind_at}
use Rattle.writer.proofs.Kind.{kind_held}

-- the records, and how many they are
abbrev pub records_of : Held → List Rec
records_of H = laid (groups_of H.shape) (record_of H)

abbrev pub count : Held → ℕ
count H = total (groups_of H.shape)

pub count_is : (H : Held) → length (records_of H) ≡ count H
count_is H = length_laid (record_of H) (groups_of H.shape)

-- after the last
pub all_taken : (H : Held) (t : ℕ) → count H ≤ t → file_bytes (take t (records_of H)) ≡ file_of H
unfolding file_of file_from
all_taken H t l = ap file_bytes (take_all t (records_of H) (omega (arith, count_is H)))

-- the length of record t of a plan of this shape with these patterns
abbrev pub length_at : Shape → List Pattern → (t : ℕ) → ℕ
length_at h rows t = 4 + size_of h (kind_at rows (spot_at (groups_of h) t))

-- each body is shorter than 65536 bytes
pub sum_few : (h : Shape) → InRange h → (rows : List Pattern) (t : ℕ) → sum_ℕ t (length_at h rows) ≤ t * 65540
sum_few h r rows t =
    let each = sum_ℕ_mono t (length_at h rows) (λ k. 65540) (λ k l. omega (arith, size_few h r (kind_at rows (spot_at (groups_of h) k)))) in
    omega (arith, each, sum_ℕ_const t 65540)

pub length_sum : (plan : Plan) → sum_ℕ (count (held plan)) (length_at (shape_of plan) plan.pattern) ≡ length (file_of (held plan))
length_sum plan =
    let H = held plan in
    sum_ℕ_cong (count H) _ _ (λ t l.
    let spot = spot_at (groups_of H.shape) t in
    let there = (spot_back H.shape t l).index in
    let here = ap (λ (x : Rec). length x.body) (laid_at (record_of H) (groups_of H.shape) t l) in
    let size = (suits_held H spot.role spot.index there).size ∙ ap (size_of H.shape) (kind_held plan spot there) in
    ap (λ (n : ℕ). 4 + n) (sym (here ∙ size)))
    ∙ sym (length_file (records_of H) none (count H) (omega (arith, count_is H)))
    ∙ ap length (all_taken H (count H) (omega arith))
