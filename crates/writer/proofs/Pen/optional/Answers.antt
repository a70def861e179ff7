-- `writer::Pen::optional` puts down the record where it is held, and nothing where it is not.
use mathlib.Core.Path.{◌≡◌, sym, ap, ◌∙◌}
use mathlib.Core.List.{List}
use Prim.Native.Nat.{ℕ}
use lib.IntN.{ℤ}
use Rattle.std.specs.Prelude.{Option, Some}
use Rattle.records.specs.Record.{record_bytes, file_bytes}
use Rattle.little_endian.specs.TwosComplement.{unsigned_of}
use Rattle.planfile.specs.Rows.{rec}
use Rattle.planfile.specs.Kinds.{kind_number}
use Rattle.writer.specs.Rows.{numbers_bytes, optional_recs}
use Rattle.writer.proofs.Put.{put_none, put_as, free_as, file_one}
use borrow.Author.Rules.{rules}
use Rattle.writer.proofs.Rows.{record_part}
use Rattle.writer.proofs.Pen.optional.Goals as goal

-- the bytes, by what is held
held : (kind n : ℕ) {amounts : Option (List ℤ)} {xs : List ℤ} → amounts ≡ Some xs
    → file_bytes (optional_recs kind n amounts) ≡ record_bytes (rec kind (numbers_bytes 8 (unsigned_of 8) n xs))
held kind n e = ap (λ (o : Option (List ℤ)). file_bytes (optional_recs kind n o)) e ∙ file_one _

pub record-requires-clause-free : goal.record-requires-clause-free
record-requires-clause-free g c =
    let kind = kind_number c.args.kind in
    free_as (sym (record_part kind 8 (unsigned_of 8) c.args.n c.in-Some.amounts (search rules))) (free_as (held kind c.args.n c.in-Some.is) c.requires.free)

pub returns-in-Some : goal.returns-in-Some
returns-in-Some g c =
    let kind = kind_number c.args.kind in
    put_as (record_part kind 8 (unsigned_of 8) c.args.n c.in-Some.amounts (search rules) ∙ sym (held kind c.args.n c.in-Some.is)) c.record.ensures

pub returns-in_default : goal.returns-in_default
unfolding file_bytes
returns-in_default g c = rw c.in_default.is (put_none c.args.self.now)
