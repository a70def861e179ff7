-- How long the file of a plan is.
use mathlib.Core.Path.{◌≡◌, refl, sym}
use mathlib.Core.Bool.{Bool, true, false}
use mathlib.Core.List.{List, [], ◌∷◌}
use Prim.Native.Nat.{ℕ, zero, suc, ◌+◌, ◌*◌, ◌-◌}
use native.Mathlib.Nat.{mul_comm}
use native.Mathlib.Omega.{arith}
use lib.ListN.{length, length-append}
use Rattle.whole.specs.Entry.{nth}
use Rattle.whole.specs.Sum.{sum_ℕ}
use Rattle.whole.specs.Table.{table}
use Rattle.whole.specs.Test.{pick}
use Rattle.whole.proofs.Sum.{sum_ℕ_none, sum_ℕ_first, sum_ℕ_const}
use Rattle.little_endian.proofs.Runs.{length_run}
use Rattle.records.specs.Record.{Rec, file_bytes}
use Rattle.records.proofs.Records.{length_record, file_append}
use Rattle.plan.specs.declared.Shape.{Shape}
use Rattle.plan.specs.Held.{HeldPattern, Held, flag}
use Rattle.planfile.specs.Groups.{Group}
use Rattle.planfile.specs.Groups.{groups_of, one, many, none, laid}
use Rattle.planfile.specs.Rows.{instrument_rec, pattern_rec}
use Rattle.planfile.specs.Records.{record_of, file_from, file_of}
use Rattle.planfile.proofs.Rows.{slope_length}

-- n records, of which record j has b j bytes
rows_length : (b : ℕ → ℕ) (f : ℕ → Rec) → ((j : ℕ) → length (f j).body ≡ b j) → (n : ℕ)
    → length (file_bytes (table n n f none)) ≡ sum_ℕ n (λ j. 4 + b j)
unfolding file_bytes table
rows_length b f e zero = sym (sum_ℕ_none (λ j. 4 + b j))
rows_length b f e (suc n) =
    rw (length-append, length_record (f 0), e 0, sum_ℕ_first)
    (omega (arith, rows_length (λ j. b (suc j)) (λ j. f (suc j)) (λ j. e (suc j)) n))

-- a group, and the groups after it
group_sum : (f : (role j : ℕ) → Rec) (role count : ℕ) (b : ℕ → ℕ) (gs : List Group) → ((j : ℕ) → length (f role j).body ≡ b j)
    → length (file_bytes (laid (many role count ∷ gs) f)) ≡ sum_ℕ count (λ j. 4 + b j) + length (file_bytes (laid gs f))
unfolding laid
group_sum f role count b gs e = rw (file_append, length-append, rows_length b (f role) e count)

-- one whose records are of one length
group_length : (f : (role j : ℕ) → Rec) (role count b : ℕ) (gs : List Group) → ((j : ℕ) → length (f role j).body ≡ b)
    → length (file_bytes (laid (many role count ∷ gs) f)) ≡ (4 + b) * count + length (file_bytes (laid gs f))
group_length f role count b gs e = omega (arith, group_sum f role count (λ j. b) gs e, sum_ℕ_const count (4 + b), mul_comm count (4 + b))

-- the bytes in a pattern's body: a slope's are nine
abbrev pub pattern_size : (N : ℕ) → HeldPattern → ℕ
pattern_size N i = pick i.sloped 9 (4 * (N - 1))

pattern_length : (N : ℕ) (i : HeldPattern) → length (pattern_rec N i).body ≡ pattern_size N i
unfolding pattern_rec
pattern_length N i = go i.sloped refl
  where
    go : (sloped : Bool) → i.sloped ≡ sloped → length (pattern_rec N i).body ≡ pattern_size N i
    go true e = rw e (slope_length i.start i.step i.until)
    go false e = rw e (length_run 4 (N - 1) _)

module _ (H : Held) where
  abbrev h : Shape
  h = H.shape

  pub length_is : length (file_of H)
      ≡ 8 + (4 + 8 * h.years) * h.instruments + (4 + 8 * h.years) + (4 + 8 * h.years) * flag h.opened
      + (4 + 8 * h.instruments) * flag h.costed + (4 + 4 * h.terms) + sum_ℕ h.patterns (λ t. 4 + pattern_size h.years (H.pattern (1 + t))) + (4 + 4 * h.instruments)
  unfolding file_of file_from groups_of record_of instrument_rec laid file_bytes nth
  length_is =
      let f = record_of H in
      let after-6 = [] in
      let after-5 = one 6 ∷ after-6 in
      let after-4 = many 5 h.patterns ∷ after-5 in
      let after-9 = one 4 ∷ after-4 in
      let after-7 = many 9 (flag h.costed) ∷ after-9 in
      let after-3 = many 7 (flag h.opened) ∷ after-7 in
      let after-2 = one 3 ∷ after-3 in
      omega (
        arith,
        group_length f 1 1 4 (many 2 h.instruments ∷ after-2) (λ j. refl),
        group_length f 2 h.instruments (8 * h.years) after-2 (λ j. length_run 8 h.years _),
        group_length f 3 1 (8 * h.years) after-3 (λ j. length_run 8 h.years _),
        group_length f 7 (flag h.opened) (8 * h.years) after-7 (λ j. length_run 8 h.years _),
        group_length f 9 (flag h.costed) (8 * h.instruments) after-9 (λ j. length_run 8 h.instruments _),
        group_length f 4 1 (4 * h.terms) after-4 (λ j. length_run 4 h.terms _),
        group_sum f 5 h.patterns _ after-5 (λ j. pattern_length h.years (H.pattern (1 + j))),
        group_length f 6 1 (4 * h.instruments) after-6 (λ j. length_run 4 h.instruments _),
      )
