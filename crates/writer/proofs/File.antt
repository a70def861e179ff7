-- A plan's file is the records that the writer puts down, group after group.
use mathlib.Core.Path.{◌≡◌, refl, sym, ap, ap₂, ◌∙◌}
use mathlib.Core.List.{List, [], ◌∷◌, ◌++◌}
use Prim.Native.Nat.{ℕ, ◌+◌, ◌≤◌, ◌<◌}
use native.Mathlib.Omega.{arith}
use lib.IntN.{ℤ, pos}
use lib.ListN.{get_or}
use Rattle.std.specs.Prelude.{Option, Some, None, is_some}
use Rattle.whole.specs.Entry.{entry, nth}
use Rattle.whole.specs.Table.{table}
use Rattle.whole.specs.Test.{pick}
use Rattle.whole.proofs.Table.{table_cong}
use Rattle.little_endian.specs.TwosComplement.{unsigned_of}
use Rattle.records.specs.Record.{Rec, record_bytes, file_bytes}
use Rattle.records.proofs.Records.{file_append}
use Rattle.plan.specs.declared.Plan.{Plan}
use Rattle.plan.specs.declared.Shape.{Shape}
use Rattle.plan.specs.Held.{flag, amounts_in, shape_of, outflows_held, rollover_held, allocation_held, opening_held, cost_held, held}
use Rattle.plan.proofs.Held.{instrument_is, pattern_is}
use Rattle.planfile.specs.declared.Group as group
use Rattle.planfile.specs.declared.Role.{Role}
use Rattle.planfile.specs.Kinds.{role_number}
use Rattle.planfile.specs.Groups.{Group, many, one, groups_of, count_of, none, laid, groups_shown}
use Rattle.planfile.specs.Rows.{rec, amounts_bytes, head_rec, instrument_rec, pattern_rec}
use Rattle.planfile.specs.Records.{record_of, file_from, file_of}
use Rattle.writer.specs.declared.Pen.{Pen}
use Rattle.planfile.proofs.Groups.{length_groups, group_at}
use Rattle.writer.specs.Put.{Free, Put}
use Rattle.writer.specs.Rows.{numbers_bytes, instrument_recs, pattern_recs, optional_recs}
use Rattle.writer.proofs.Put.{free_as, file_one, Grouped, group_bytes, grouped_none, grouped_all, grouped_free, grouped_more}
use Rattle.writer.proofs.Rows.{numbers_by}

-- a group, and the groups after it
group_then : (f : (role j : ℕ) → Rec) (role count : ℕ) (gs : List Group) {u v : List ℕ}
    → u ≡ file_bytes (table count count (f role) none) → v ≡ file_bytes (laid gs f) → u ++ v ≡ file_bytes (laid (many role count ∷ gs) f)
unfolding laid
group_then f role count gs a b = ap₂ (λ (x y : List ℕ). x ++ y) a b ∙ sym (file_append (table count count (f role) none) (laid gs f))

-- a group of one
alone : (f : (role j : ℕ) → Rec) (role : ℕ) {r : Rec} → r ≡ f role 0 → record_bytes r ≡ file_bytes (table 1 1 (f role) none)
unfolding table
alone f role e = ap record_bytes e ∙ sym (file_one (f role 0))

-- a kind that may be absent: all n amounts where it is held
held_or_not : (kind n : ℕ) (o : Option (List ℤ)) → file_bytes (optional_recs kind n o)
    ≡ file_bytes
    (table (flag (is_some o)) (flag (is_some o))
    (λ j. rec kind (amounts_bytes n (entry (pos 0) (pick (is_some o) n 0) (λ k. get_or (amounts_in o) k (pos 0))))) none)
unfolding table unsigned_of
held_or_not kind n None = refl
held_or_not kind n (Some xs) = ap (λ (body : List ℕ). file_bytes (rec kind body ∷ [])) (numbers_by (pos 0) 8 (unsigned_of 8) n xs refl)

module _ (plan : Plan) where
  abbrev f : (role j : ℕ) → Rec
  f = record_of (held plan)

  -- the bytes that are put down, from the head on
  abbrev head_part : List ℕ
  head_part = record_bytes (head_rec (shape_of plan))

  abbrev instruments_part : List ℕ
  instruments_part = file_bytes (instrument_recs plan.years plan.instruments plan.instrument)

  abbrev outflows_part : List ℕ
  outflows_part = record_bytes (rec 3 (numbers_bytes 8 (unsigned_of 8) plan.years plan.outflows))

  abbrev opening_part : List ℕ
  opening_part = file_bytes (optional_recs 7 plan.years plan.opening)

  abbrev cost_part : List ℕ
  cost_part = file_bytes (optional_recs 9 plan.instruments plan.cost)

  abbrev rollover_part : List ℕ
  rollover_part = record_bytes (rec 4 (numbers_bytes 4 (λ x. x) plan.terms plan.rollover))

  abbrev patterns_part : List ℕ
  patterns_part = file_bytes (pattern_recs plan.years plan.patterns plan.pattern)

  abbrev allocation_part : List ℕ
  allocation_part = record_bytes (rec 6 (numbers_bytes 4 (λ x. x) plan.instruments plan.allocation))

  -- the bytes of the records of a role
  abbrev pub of_role : (role : ℕ) → List ℕ
  of_role role = group_bytes f (many role (count_of (groups_of (shape_of plan)) role))

  -- they are what is put down for it
  pub head_is : head_part ≡ of_role 1
  unfolding groups_of count_of record_of nth
  head_is = alone f 1 refl

  pub instruments_is : instruments_part ≡ of_role 2
  unfolding groups_of count_of record_of nth
  instruments_is =
      ap file_bytes (table_cong plan.instruments plan.instruments _ (f 2) none (λ j l. ap (instrument_rec plan.years) (sym (instrument_is plan j l))))

  pub outflows_is : outflows_part ≡ of_role 3
  unfolding groups_of count_of record_of nth outflows_held unsigned_of
  outflows_is = alone f 3 (ap (rec 3) (numbers_by (pos 0) 8 (unsigned_of 8) plan.years plan.outflows refl))

  pub opening_is : opening_part ≡ of_role 7
  unfolding groups_of count_of record_of nth opening_held unsigned_of
  opening_is = held_or_not 7 plan.years plan.opening

  pub cost_is : cost_part ≡ of_role 9
  unfolding groups_of count_of record_of nth cost_held unsigned_of
  cost_is = held_or_not 9 plan.instruments plan.cost

  pub rollover_is : rollover_part ≡ of_role 4
  unfolding groups_of count_of record_of nth rollover_held
  rollover_is = alone f 4 (ap (rec 4) (numbers_by 0 4 (λ x. x) plan.terms plan.rollover refl))

  pub patterns_is : patterns_part ≡ of_role 5
  unfolding groups_of count_of record_of nth
  patterns_is =
      ap file_bytes (table_cong plan.patterns plan.patterns _ (f 5) none (λ t l. ap (pattern_rec plan.years) (sym (pattern_is plan t l))))

  pub allocation_is : allocation_part ≡ of_role 6
  unfolding groups_of count_of record_of nth allocation_held
  allocation_is = alone f 6 (ap (rec 6) (numbers_by 0 4 (λ x. x) plan.instruments plan.allocation refl))

  -- together they are the file
  pub file_parts : head_part ++ (instruments_part ++ (outflows_part ++ (opening_part ++ (cost_part ++ (rollover_part ++ (patterns_part ++ (allocation_part ++ [])))))))
      ≡ file_of (held plan)
  unfolding file_of file_from groups_of count_of laid file_bytes
  file_parts =
      let h = shape_of plan in
      let after-6 : List Group = [] in
      let after-5 = one 6 ∷ after-6 in
      let after-4 = many 5 plan.patterns ∷ after-5 in
      let after-9 = one 4 ∷ after-4 in
      let after-7 = many 9 (flag h.costed) ∷ after-9 in
      let after-3 = many 7 (flag h.opened) ∷ after-7 in
      let after-2 = one 3 ∷ after-3 in
      let after-1 = many 2 plan.instruments ∷ after-2 in
      group_then f 1 1 after-1 head_is
      (group_then f 2 plan.instruments after-2 instruments_is
      (group_then f 3 1 after-3 outflows_is
      (group_then f 7 (flag h.opened) after-7 opening_is
      (group_then f 9 (flag h.costed) after-9 cost_is
      (group_then f 4 1 after-4 rollover_is
      (group_then f 5 plan.patterns after-5 patterns_is
      (group_then f 6 1 after-6 allocation_is refl)))))))

  -- there is room for them
  pub free_parts : {p : Pen} → Free p (file_of (held plan))
      → Free p (head_part ++ (instruments_part ++ (outflows_part ++ (opening_part ++ (cost_part ++ (rollover_part ++ (patterns_part ++ (allocation_part ++ []))))))))
  free_parts free = free_as (sym file_parts) free

  -- ---- a loop over the groups, by the code's array of them
  module _ {h : Shape} (e : h ≡ shape_of plan) {p : Pen} where
    pub groups_none : Free p (file_of (held plan)) → Grouped (groups_of h) f p p 0
    unfolding file_of file_from
    groups_none free = rw e (grouped_none free)

    module _ {q : Pen} {k : ℕ} (s : Grouped (groups_of h) f p q k) where
      pub groups_all : 8 ≤ k → Put p q (file_of (held plan))
      unfolding file_of file_from
      groups_all l = grouped_all (rw e at s) (omega (arith, length_groups (shape_of plan)))

      -- the group at place k has this role
      module _ (groups : List group.Group) (shown : groups_shown groups ≡ groups_of h) (l : k < 8) (d : group.Group) {role : Role}
          (is : (get_or groups k d).role ≡ role) where
        pub group_free : Free q (of_role (role_number role))
        group_free = grouped_free (rw e at s) (group_at (shape_of plan) groups k d (rw e at shown) l is) (omega (arith, length_groups (shape_of plan)))

        pub group_more : {q' : Pen} → Put q q' (of_role (role_number role)) → Grouped (groups_of h) f p q' (k + 1)
        group_more a = rw e (grouped_more (rw e at s) (group_at (shape_of plan) groups k d (rw e at shown) l is) (omega (arith, length_groups (shape_of plan))) a)
