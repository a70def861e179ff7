-- `writer::Pen::pattern` puts down the rates that are listed, or the start, the step and T of a slope.
use mathlib.Core.Path.{◌≡◌, sym, ap}
use mathlib.Core.List.{List, ◌++◌}
use Prim.Native.Nat.{ℕ, ◌<◌}
use borrow.Author.Rules.{rules}
use mir.Syntax.{w32}
use mir.Val.{to_z, of_z}
use lib.IntN.{ℤ}
use lib.ListN.{length, length-append}
use Rattle.little_endian.specs.LittleEndian.{bytes_of}
use Rattle.little_endian.specs.TwosComplement.{unsigned_of}
use Rattle.little_endian.proofs.LittleEndian.{length_bytes_of}
use Rattle.records.specs.Record.{record_bytes}
use Rattle.plan.specs.declared.Pattern.{Pattern}
use Rattle.plan.specs.declared.Pattern.TheVariants.{Slope}
use Rattle.plan.specs.Held.{pattern_held}
use Rattle.planfile.specs.Rows.{rec, pattern_rec}
use Rattle.writer.specs.declared.Pen.{Pen}
use Rattle.writer.specs.Put.{Free, Put}
use Rattle.writer.proofs.Put.{put_then, put_as, free_as, free_first, free_rest, front, free_front, free_body, put_record}
use Rattle.writer.proofs.Rows.{rates_written, slope_written}
use Rattle.writer.proofs.Pen.pattern.Goals as goal

pub record-requires-clause-free : goal.record-requires-clause-free
record-requires-clause-free c = free_as (sym (rates_written c.args.years c.in-Rates.is (search rules))) c.requires.free

pub returns-in-Rates : goal.returns-in-Rates
returns-in-Rates c = put_as (rates_written c.args.years c.in-Rates.is (search rules)) c.record.ensures

-- ---- a slope: its front, its start, its step and T, each put down where the one before it ends
abbrev signed : ℤ → List ℕ
signed z = bytes_of 4 (unsigned_of 4 z)

module _ (N : ℕ) {row : Pattern} {start step : ℤ} {until : ℕ} (is : row ≡ Slope start step until) (few : until < 256)
    {p : Pen} (free : Free p (record_bytes (pattern_rec N (pattern_held N row)))) where
  abbrev body : List ℕ
  body = signed start ++ (signed step ++ bytes_of 1 until)

  nine : 9 ≡ length body
  nine = simp (length-append, length_bytes_of)

  free_whole : Free p (record_bytes (rec 8 body))
  free_whole = free_as (sym (slope_written N is few)) free

  free_start : Free p (front 8 9 body nine)
  free_start = free_front 8 9 body nine free_whole

  module _ {q : Pen} (a : Put p q (front 8 9 body nine)) where
    free_slope : Free q body
    free_slope = free_body 8 9 body nine a free_whole

    module _ {r : Pen} (b : Put q r (signed start)) where
      free_step : Free r (signed step ++ bytes_of 1 until)
      free_step = free_rest b free_slope

      module _ {s : Pen} (d : Put r s (signed step)) where
        free_until : Free s (bytes_of 1 until)
        free_until = free_rest d free_step

        slope_put : {t : Pen} → Put s t (bytes_of 1 until) → Put p t (record_bytes (pattern_rec N (pattern_held N row)))
        slope_put e = put_as (slope_written N is few) (put_record 8 9 body nine a (put_then b (put_then d e)))

pub front-requires : goal.front-requires
front-requires c = free_start c.args.years c.in-Slope.is (search rules) c.requires.free

pub number-requires : goal.number-requires
number-requires c =
    let start : to_z w32 (of_z w32 c.in-Slope.start) ≡ c.in-Slope.start = search rules in
    free_as (ap signed (sym start)) (free_first _ (free_slope c.args.years c.in-Slope.is (search rules) c.requires.free c.front.ensures))

pub number-requires-in-Slope : goal.number-requires-in-Slope
number-requires-in-Slope c =
    let start : to_z w32 (of_z w32 c.in-Slope.start) ≡ c.in-Slope.start = search rules in
    let step : to_z w32 (of_z w32 c.in-Slope.step) ≡ c.in-Slope.step = search rules in
    free_as (ap signed (sym step))
    (free_first _ (free_step c.args.years c.in-Slope.is (search rules) c.requires.free c.front.ensures (put_as (ap signed start) c.number.ensures)))

pub number-requires-in-Slope-2 : goal.number-requires-in-Slope-2
number-requires-in-Slope-2 c =
    let start : to_z w32 (of_z w32 c.in-Slope.start) ≡ c.in-Slope.start = search rules in
    let step : to_z w32 (of_z w32 c.in-Slope.step) ≡ c.in-Slope.step = search rules in
    free_until c.args.years c.in-Slope.is (search rules) c.requires.free c.front.ensures (put_as (ap signed start) c.number.ensures) (put_as (ap signed step) c.number-in-Slope.ensures)

pub returns-in-Slope : goal.returns-in-Slope
returns-in-Slope c =
    let start : to_z w32 (of_z w32 c.in-Slope.start) ≡ c.in-Slope.start = search rules in
    let step : to_z w32 (of_z w32 c.in-Slope.step) ≡ c.in-Slope.step = search rules in
    slope_put c.args.years c.in-Slope.is (search rules) c.requires.free c.front.ensures (put_as (ap signed start) c.number.ensures) (put_as (ap signed step) c.number-in-Slope.ensures) c.number-in-Slope-2.ensures
