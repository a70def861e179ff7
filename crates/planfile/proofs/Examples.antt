-- Document 01's case L, and its neighbours at the edges, computed from the definitions; a file with money already invested, one with a note
-- that is longer than the plan, and one with a slope and a list.
use mathlib.Core.Path.{◌≡◌, refl}
use mathlib.Core.Bool.{Bool, true, false}
use mathlib.Core.List.{List, [], ◌∷◌, ◌++◌, map}
use Prim.Native.Nat.{ℕ}
use lib.IntN.{ℤ, pos, negsuc}
use lib.ListN.{replicate}
use Rattle.whole.specs.Entry.{nth, cut, entry}
use Rattle.whole.specs.Sum.{sum_ℕ}
use Rattle.whole.specs.Table.{table}
use Rattle.std.specs.Prelude.{Some, None}
use Rattle.whole.specs.Test.{pick, all, is_between}
use Rattle.little_endian.specs.LittleEndian.{le_of, le_at, bytes_of}
use Rattle.little_endian.specs.TwosComplement.{signed_of, unsigned_of}
use Rattle.little_endian.specs.Runs.{run, number_at}
use Rattle.records.specs.Record.{record_bytes, file_bytes}
use Rattle.records.specs.Cursor.{whole_at, whole_from, whole_file, place, kind_at, body_at}
use Rattle.plan.specs.declared.Plan.{Plan}
use Rattle.plan.specs.Held.{instruments_held, outflows_held, rollover_held, patterns_held, allocation_held, opening_held, cost_held, held, no_instrument, no_pattern, plan_from}
use Rattle.plan.specs.Refusal.{shape_ok, head_ok, payments_fit, payments_ok, outflows_ok, opening_ok, cost_ok, amounts_ok, rollover_ok, untils_ok, rates_fit, rates_ok, allocation_ok, head_refusal, amounts_refusal, rates_refusal, allocation_refusal, refusal_of}
use Rattle.plan.specs.Numbers.{slope}
use Rattle.plan.specs.Case.{listed, near_L, plan_L, renewed, sloping}
use Rattle.planfile.specs.Kinds.{role_of, size_of}
use Rattle.planfile.specs.Groups.{groups_of, total, spot_at, place_of, laid}
use Rattle.planfile.specs.Rows.{instrument_in, instrument_rec, pattern_in, pattern_rec}
use Rattle.planfile.specs.Checks.{shape_in, has_role, first_ok, role_ok, roles_ok, size_ok, sizes_ok, layout_refusal}
use Rattle.planfile.specs.Records.{record_in, file_from, held_of, record_of, held_in, file_of}
use Rattle.planfile.specs.Read.{read_refusal}

-- L's 104 bytes, a line for a record
unfoldable pub file_L : List ℕ
file_L =
    4 ∷ 0 ∷ 1 ∷ 0 ∷ 2 ∷ 2 ∷ 1 ∷ 2
    ∷ 16 ∷ 0 ∷ 2 ∷ 0 ∷ 0 ∷ 126 ∷ 95 ∷ 64 ∷ 0 ∷ 0 ∷ 0 ∷ 0 ∷ 0 ∷ 0 ∷ 0 ∷ 0 ∷ 0 ∷ 0 ∷ 0 ∷ 0
    ∷ 16 ∷ 0 ∷ 2 ∷ 0 ∷ 0 ∷ 180 ∷ 196 ∷ 4 ∷ 0 ∷ 0 ∷ 0 ∷ 0 ∷ 0 ∷ 126 ∷ 95 ∷ 64 ∷ 0 ∷ 0 ∷ 0 ∷ 0
    ∷ 16 ∷ 0 ∷ 3 ∷ 0 ∷ 0 ∷ 0 ∷ 0 ∷ 0 ∷ 0 ∷ 0 ∷ 0 ∷ 0 ∷ 0 ∷ 50 ∷ 36 ∷ 69 ∷ 0 ∷ 0 ∷ 0 ∷ 0
    ∷ 4 ∷ 0 ∷ 4 ∷ 0 ∷ 64 ∷ 66 ∷ 15 ∷ 0
    ∷ 4 ∷ 0 ∷ 5 ∷ 0 ∷ 96 ∷ 234 ∷ 0 ∷ 0
    ∷ 4 ∷ 0 ∷ 5 ∷ 0 ∷ 144 ∷ 95 ∷ 1 ∷ 0
    ∷ 8 ∷ 0 ∷ 6 ∷ 0 ∷ 32 ∷ 161 ∷ 7 ∷ 0 ∷ 32 ∷ 161 ∷ 7 ∷ 0
    ∷ []

pub written_L : file_of (held plan_L) ≡ file_L
unfolding file_of file_from file_bytes record_bytes groups_of laid table record_of instrument_rec pattern_rec nth run bytes_of unsigned_of
    instruments_held outflows_held rollover_held patterns_held allocation_held entry cut plan_L near_L file_L
written_L = refl

pub read_L : plan_from (held_in file_L) ≡ plan_L
unfolding plan_from held_in held_of shape_in record_in groups_of place_of instrument_in pattern_in entry cut table number_at signed_of
    has_role whole_at role_of nth kind_at body_at place le_at le_of plan_L near_L file_L
read_L = refl

-- L is taken, so is L with a rate of 200,000; with one of 200,001 it is refused 8, and with a share of 999,999 alone 7
pub refused_near : map read_refusal (file_L ∷ file_of (held (near_L 1_000_000 (pos 200_000))) ∷ file_of (held (near_L 1_000_000 (pos 200_001))) ∷ file_of (held (near_L 999_999 (pos 60_000))) ∷ [])
    ≡ 0 ∷ 0 ∷ 8 ∷ 7 ∷ []
unfolding read_refusal layout_refusal whole_file whole_from whole_at first_ok shape_in shape_ok has_role role_ok roles_ok size_ok sizes_ok role_of size_of nth all
    total spot_at place kind_at body_at le_at le_of held_in held_of record_in groups_of place_of instrument_in pattern_in entry cut number_at signed_of
    refusal_of head_refusal amounts_refusal rates_refusal allocation_refusal head_ok payments_ok payments_fit is_between outflows_ok opening_ok cost_ok amounts_ok rollover_ok untils_ok rates_ok rates_fit allocation_ok sum_ℕ
    file_of file_from file_bytes record_bytes laid table record_of instrument_rec pattern_rec run bytes_of unsigned_of
    instruments_held outflows_held rollover_held patterns_held allocation_held near_L file_L
refused_near = refl

-- a plan of one year with 2 already invested: the records before the opening's, that record with its amount, and those after it
unfoldable pub renewed_before : List ℕ
renewed_before =
    4 ∷ 0 ∷ 1 ∷ 0 ∷ 1 ∷ 1 ∷ 1 ∷ 1
    ∷ 8 ∷ 0 ∷ 2 ∷ 0 ∷ 0 ∷ 126 ∷ 95 ∷ 64 ∷ 0 ∷ 0 ∷ 0 ∷ 0
    ∷ 8 ∷ 0 ∷ 3 ∷ 0 ∷ 2 ∷ 126 ∷ 95 ∷ 64 ∷ 0 ∷ 0 ∷ 0 ∷ 0
    ∷ []

unfoldable pub opening_two : List ℕ
opening_two = 8 ∷ 0 ∷ 7 ∷ 0 ∷ 2 ∷ 0 ∷ 0 ∷ 0 ∷ 0 ∷ 0 ∷ 0 ∷ 0 ∷ []

unfoldable pub renewed_rollover : List ℕ
renewed_rollover = 4 ∷ 0 ∷ 4 ∷ 0 ∷ 64 ∷ 66 ∷ 15 ∷ 0 ∷ []

unfoldable pub renewed_after : List ℕ
renewed_after = 0 ∷ 0 ∷ 5 ∷ 0 ∷ 4 ∷ 0 ∷ 6 ∷ 0 ∷ 64 ∷ 66 ∷ 15 ∷ 0 ∷ []

-- it is written with the record where it holds it, and without where it does not (of arrays that carry the 2 all the same, `unheld_renewed` of
-- crate becketgrape says this)
pub written_renewed : map (λ opened. file_of (held (renewed (pos 1_080_000_002) opened (pos 2)))) (true ∷ false ∷ [])
    ≡ (renewed_before ++ opening_two ++ renewed_rollover ++ renewed_after) ∷ (renewed_before ++ renewed_rollover ++ renewed_after) ∷ []
unfolding file_of file_from file_bytes record_bytes groups_of laid table record_of instrument_rec pattern_rec nth run bytes_of unsigned_of
    instruments_held outflows_held rollover_held patterns_held allocation_held opening_held entry cut renewed renewed_before opening_two renewed_rollover renewed_after
written_renewed = refl

-- and each is read as its own plan, the other with zeros there
pub read_renewed : map (λ file. plan_from (held_in file)) ((renewed_before ++ opening_two ++ renewed_rollover ++ renewed_after) ∷ (renewed_before ++ renewed_rollover ++ renewed_after) ∷ [])
    ≡ renewed (pos 1_080_000_002) true (pos 2) ∷ renewed (pos 1_080_000_002) false (pos 0) ∷ []
unfolding plan_from held_in held_of shape_in has_role whole_at role_of nth record_in groups_of place_of instrument_in pattern_in entry cut table number_at signed_of
    kind_at body_at place le_at le_of renewed renewed_before opening_two renewed_rollover renewed_after
read_renewed = refl

-- the record after the rollover is refused 4, a byte more in it 5, an amount of -1 in it 6
pub refused_renewed : map read_refusal
    ((renewed_before ++ opening_two ++ renewed_rollover ++ renewed_after)
    ∷ (renewed_before ++ renewed_rollover ++ opening_two ++ renewed_after)
    ∷ (renewed_before ++ (9 ∷ 0 ∷ 7 ∷ 0 ∷ replicate 9 0) ++ renewed_rollover ++ renewed_after)
    ∷ (renewed_before ++ (8 ∷ 0 ∷ 7 ∷ 0 ∷ replicate 8 255) ++ renewed_rollover ++ renewed_after)
    ∷ [])
    ≡ 0 ∷ 4 ∷ 5 ∷ 6 ∷ []
unfolding read_refusal layout_refusal whole_file whole_from whole_at first_ok shape_in shape_ok has_role role_ok roles_ok size_ok sizes_ok role_of size_of nth all
    total spot_at place kind_at body_at le_at le_of held_in held_of record_in groups_of place_of instrument_in pattern_in entry cut number_at signed_of
    refusal_of head_refusal amounts_refusal rates_refusal allocation_refusal head_ok payments_ok payments_fit is_between outflows_ok opening_ok cost_ok amounts_ok rollover_ok untils_ok rates_ok rates_fit allocation_ok sum_ℕ
    renewed_before opening_two renewed_rollover renewed_after
refused_renewed = refl

-- a plan of two years with one note that pays 80000000 in each, money already invested that pays 2 in each, and the note's cost of
-- 1000000000 that is left at the horizon; each of the last two held or not
unfoldable pub lasting : (opened : Bool) (money : ℤ) (costed : Bool) (left : ℤ) → Plan
lasting opened money costed left = record {
  years = 2;
  instruments = 1;
  terms = 1;
  patterns = 1;
  instrument = record { payments = pos 80_000_000 ∷ pos 80_000_000 ∷ replicate 28 (pos 0) } ∷ replicate 15 no_instrument;
  outflows = replicate 30 (pos 0);
  rollover = 1_000_000 ∷ replicate 29 0;
  pattern = listed (pos 60_000 ∷ replicate 29 (pos 0)) ∷ replicate 63 no_pattern;
  allocation = 1_000_000 ∷ replicate 15 0;
  opening = pick opened (Some (money ∷ money ∷ replicate 28 (pos 0))) None;
  cost = pick costed (Some (left ∷ replicate 15 (pos 0))) None;
}

-- the two records that may be absent
unfoldable pub opening_twice : List ℕ
opening_twice = 16 ∷ 0 ∷ 7 ∷ 0 ∷ 2 ∷ 0 ∷ 0 ∷ 0 ∷ 0 ∷ 0 ∷ 0 ∷ 0 ∷ 2 ∷ 0 ∷ 0 ∷ 0 ∷ 0 ∷ 0 ∷ 0 ∷ 0 ∷ []

unfoldable pub cost_left : List ℕ
cost_left = 8 ∷ 0 ∷ 9 ∷ 0 ∷ 0 ∷ 202 ∷ 154 ∷ 59 ∷ 0 ∷ 0 ∷ 0 ∷ 0 ∷ []

-- the file with these records after the outflows, and these after the rollover
unfoldable pub lasting_file : (before after : List ℕ) → List ℕ
lasting_file before after =
    (4 ∷ 0 ∷ 1 ∷ 0 ∷ 2 ∷ 1 ∷ 1 ∷ 1 ∷ [])
    ++ (16 ∷ 0 ∷ 2 ∷ 0 ∷ 0 ∷ 180 ∷ 196 ∷ 4 ∷ 0 ∷ 0 ∷ 0 ∷ 0 ∷ 0 ∷ 180 ∷ 196 ∷ 4 ∷ 0 ∷ 0 ∷ 0 ∷ 0 ∷ [])
    ++ (16 ∷ 0 ∷ 3 ∷ 0 ∷ replicate 16 0)
    ++ before
    ++ (4 ∷ 0 ∷ 4 ∷ 0 ∷ 64 ∷ 66 ∷ 15 ∷ 0 ∷ [])
    ++ after
    ++ (4 ∷ 0 ∷ 5 ∷ 0 ∷ 96 ∷ 234 ∷ 0 ∷ 0 ∷ 4 ∷ 0 ∷ 6 ∷ 0 ∷ 64 ∷ 66 ∷ 15 ∷ 0 ∷ [])

-- its files where it holds neither, the one, the other, and both
abbrev pub lasting_files : List (List ℕ)
lasting_files = map (λ records. lasting_file records []) ([] ∷ opening_twice ∷ cost_left ∷ (opening_twice ++ cost_left) ∷ [])

-- it is written with the records that it holds (and `unheld_lasting` says this of arrays that carry the others too)
pub written_lasting : map (λ plan. file_of (held plan))
    (lasting false (pos 2) false (pos 1_000_000_000)
    ∷ lasting true (pos 2) false (pos 1_000_000_000)
    ∷ lasting false (pos 2) true (pos 1_000_000_000)
    ∷ lasting true (pos 2) true (pos 1_000_000_000)
    ∷ [])
    ≡ lasting_files
unfolding file_of file_from file_bytes record_bytes groups_of laid table record_of instrument_rec pattern_rec nth run bytes_of unsigned_of
    instruments_held outflows_held rollover_held patterns_held allocation_held opening_held cost_held entry cut lasting opening_twice cost_left lasting_file
written_lasting = refl

-- and each is read as its own plan, with zeros for what it does not hold
pub read_lasting : map (λ file. plan_from (held_in file)) lasting_files
    ≡ lasting false (pos 0) false (pos 0)
    ∷ lasting true (pos 2) false (pos 0)
    ∷ lasting false (pos 0) true (pos 1_000_000_000)
    ∷ lasting true (pos 2) true (pos 1_000_000_000)
    ∷ []
unfolding plan_from held_in held_of shape_in has_role whole_at role_of nth record_in groups_of place_of instrument_in pattern_in entry cut table number_at signed_of
    kind_at body_at place le_at le_of lasting opening_twice cost_left lasting_file
read_lasting = refl

-- all four are taken
pub taken_lasting : map read_refusal lasting_files ≡ 0 ∷ 0 ∷ 0 ∷ 0 ∷ []
unfolding read_refusal layout_refusal whole_file whole_from whole_at first_ok shape_in shape_ok has_role role_ok roles_ok size_ok sizes_ok role_of size_of nth all
    total spot_at place kind_at body_at le_at le_of held_in held_of record_in groups_of place_of instrument_in pattern_in entry cut number_at signed_of
    refusal_of head_refusal amounts_refusal rates_refusal allocation_refusal head_ok payments_ok payments_fit is_between outflows_ok opening_ok cost_ok amounts_ok rollover_ok untils_ok rates_ok rates_fit allocation_ok sum_ℕ
    opening_twice cost_left lasting_file
taken_lasting = refl

-- the cost before the money already invested is refused 4, and so is the cost after the rollover, with that money and without, and the cost
-- twice; a byte more in it is refused 5, and so are as many amounts as there are years; an amount of -1 in it is refused 6
pub refused_lasting : map read_refusal
    (lasting_file (cost_left ++ opening_twice) []
    ∷ lasting_file opening_twice cost_left
    ∷ lasting_file [] cost_left
    ∷ lasting_file (cost_left ++ cost_left) []
    ∷ lasting_file (9 ∷ 0 ∷ 9 ∷ 0 ∷ replicate 9 0) []
    ∷ lasting_file (opening_twice ++ (16 ∷ 0 ∷ 9 ∷ 0 ∷ replicate 16 0)) []
    ∷ lasting_file (8 ∷ 0 ∷ 9 ∷ 0 ∷ replicate 8 255) []
    ∷ [])
    ≡ 4 ∷ 4 ∷ 4 ∷ 4 ∷ 5 ∷ 5 ∷ 6 ∷ []
unfolding read_refusal layout_refusal whole_file whole_from whole_at first_ok shape_in shape_ok has_role role_ok roles_ok size_ok sizes_ok role_of size_of nth all
    total spot_at place kind_at body_at le_at le_of held_in held_of record_in groups_of place_of instrument_in pattern_in entry cut number_at signed_of
    refusal_of head_refusal amounts_refusal rates_refusal allocation_refusal head_ok payments_ok payments_fit is_between outflows_ok opening_ok cost_ok amounts_ok rollover_ok untils_ok rates_ok rates_fit allocation_ok sum_ℕ
    opening_twice cost_left lasting_file
refused_lasting = refl

-- a plan of three years with a slope and a list: the records before the patterns', the slope's, the list's, and that after them
unfoldable pub sloping_before : List ℕ
sloping_before =
    4 ∷ 0 ∷ 1 ∷ 0 ∷ 3 ∷ 1 ∷ 1 ∷ 2
    ∷ 24 ∷ 0 ∷ 2 ∷ 0 ∷ 0 ∷ 126 ∷ 95 ∷ 64 ∷ (replicate 20 0
    ++ (24 ∷ 0 ∷ 3 ∷ 0 ∷ replicate 24 0)
    ++ (4 ∷ 0 ∷ 4 ∷ 0 ∷ 64 ∷ 66 ∷ 15 ∷ 0 ∷ []))

-- from 65000 down by 2500 until year 2
unfoldable pub slope_down : List ℕ
slope_down = 9 ∷ 0 ∷ 8 ∷ 0 ∷ 232 ∷ 253 ∷ 0 ∷ 0 ∷ 60 ∷ 246 ∷ 255 ∷ 255 ∷ 2 ∷ []

unfoldable pub sloping_list : List ℕ
sloping_list = 8 ∷ 0 ∷ 5 ∷ 0 ∷ 96 ∷ 234 ∷ 0 ∷ 0 ∷ 144 ∷ 95 ∷ 1 ∷ 0 ∷ []

unfoldable pub sloping_after : List ℕ
sloping_after = 4 ∷ 0 ∷ 6 ∷ 0 ∷ 64 ∷ 66 ∷ 15 ∷ 0 ∷ []

-- it is written with the kinds that it holds, whatever stands past the rates that are listed (and `unheld_sloping` says this of arrays that
-- carry each kind for both)
pub written_sloping : map (λ other. file_of (held (sloping (pos 65_000) (negsuc 2_499) 2 other))) (0 ∷ 31 ∷ [])
    ≡ (sloping_before ++ slope_down ++ sloping_list ++ sloping_after) ∷ (sloping_before ++ slope_down ++ sloping_list ++ sloping_after) ∷ []
unfolding file_of file_from file_bytes record_bytes groups_of laid table record_of instrument_rec pattern_rec nth run bytes_of unsigned_of
    instruments_held outflows_held rollover_held patterns_held allocation_held entry cut sloping sloping_before slope_down sloping_list sloping_after
written_sloping = refl

-- and read with the kinds that stand there, and with zeros for the others
pub read_sloping : plan_from (held_in (sloping_before ++ slope_down ++ sloping_list ++ sloping_after)) ≡ sloping (pos 65_000) (negsuc 2_499) 2 0
unfolding plan_from held_in held_of shape_in has_role whole_at role_of nth record_in groups_of place_of instrument_in pattern_in entry cut table number_at signed_of
    kind_at body_at place le_at le_of sloping sloping_before slope_down sloping_list sloping_after
read_sloping = refl

-- the two may be exchanged; a slope for the rollover is refused 4, one of eight bytes 5, and so is a list of nine; a T of 0 or of 31
-- is refused 13
pub refused_sloping : map read_refusal
    ((sloping_before ++ slope_down ++ sloping_list ++ sloping_after)
    ∷ (sloping_before ++ sloping_list ++ slope_down ++ sloping_after)
    ∷ (renewed_before ++ slope_down ++ renewed_after)
    ∷ (sloping_before ++ (8 ∷ 0 ∷ 8 ∷ 0 ∷ replicate 8 0) ++ sloping_list ++ sloping_after)
    ∷ (sloping_before ++ (9 ∷ 0 ∷ 5 ∷ 0 ∷ replicate 9 0) ++ sloping_list ++ sloping_after)
    ∷ (sloping_before ++ (9 ∷ 0 ∷ 8 ∷ 0 ∷ replicate 9 0) ++ sloping_list ++ sloping_after)
    ∷ (sloping_before ++ (9 ∷ 0 ∷ 8 ∷ 0 ∷ replicate 8 0 ++ 31 ∷ []) ++ sloping_list ++ sloping_after)
    ∷ [])
    ≡ 0 ∷ 0 ∷ 4 ∷ 5 ∷ 5 ∷ 13 ∷ 13 ∷ []
unfolding read_refusal layout_refusal whole_file whole_from whole_at first_ok shape_in shape_ok has_role role_ok roles_ok size_ok sizes_ok role_of size_of nth all
    total spot_at place kind_at body_at le_at le_of held_in held_of record_in groups_of place_of instrument_in pattern_in entry cut number_at signed_of
    refusal_of head_refusal amounts_refusal rates_refusal allocation_refusal head_ok payments_ok payments_fit is_between outflows_ok opening_ok cost_ok amounts_ok rollover_ok untils_ok rates_ok rates_fit allocation_ok sum_ℕ
    slope renewed_before renewed_after sloping_before slope_down sloping_list sloping_after
refused_sloping = refl

-- a slope is taken that means 0 or 200,000 in its last year, whatever its start; one that means a rate past either end is refused 8
pub refused_slopes : map (λ plan. read_refusal (file_of (held plan)))
    (sloping (pos 0) (pos 100_000) 3 0
    ∷ sloping (pos 1) (pos 100_000) 3 0
    ∷ sloping (pos 400_000) (negsuc 199_999) 30 0
    ∷ sloping (pos 399_999) (negsuc 199_999) 30 0
    ∷ [])
    ≡ 0 ∷ 8 ∷ 0 ∷ 8 ∷ []
unfolding read_refusal layout_refusal whole_file whole_from whole_at first_ok shape_in shape_ok has_role role_ok roles_ok size_ok sizes_ok role_of size_of nth all
    total spot_at place kind_at body_at le_at le_of held_in held_of record_in groups_of place_of instrument_in pattern_in entry cut number_at signed_of
    refusal_of head_refusal amounts_refusal rates_refusal allocation_refusal head_ok payments_ok payments_fit is_between outflows_ok opening_ok cost_ok amounts_ok rollover_ok untils_ok rates_ok rates_fit allocation_ok sum_ℕ
    file_of file_from file_bytes record_bytes laid table record_of instrument_rec pattern_rec run bytes_of unsigned_of
    instruments_held outflows_held rollover_held patterns_held allocation_held slope sloping
refused_slopes = refl

-- an empty file is refused 3, three bytes are refused 2
pub refused_empty : read_refusal [] ≡ 3
unfolding read_refusal layout_refusal whole_file whole_from first_ok whole_at
refused_empty = refl

pub refused_short : (a b c : ℕ) → read_refusal (a ∷ b ∷ c ∷ []) ≡ 2
unfolding read_refusal layout_refusal whole_file whole_from whole_at
refused_short a b c = refl
