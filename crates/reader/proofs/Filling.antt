-- The plan after some records of a file, by how many of each role were seen: what the loop of `put` holds. A record changes what is of
-- its role and nothing else, and that computes.
use mathlib.Core.Path.{◌≡◌, refl, sym, ap, ◌∙◌}
use mathlib.Core.Bool.{Bool, true, false}
use mathlib.Core.List.{List}
use Prim.Native.Nat.{ℕ, ◌+◌, ◌-◌, ◌≤◌, ◌<◌}
use native.Mathlib.Omega.{arith}
use lib.Dec.{eqb}
use lib.IntN.{ℤ, pos}
use lib.ListN.{set}
use Rattle.std.specs.Prelude.{Some, None}
use Rattle.whole.specs.Entry.{entry}
use Rattle.whole.specs.Table.{table}
use Rattle.whole.specs.Test.{pick}
use Rattle.whole.proofs.Entry.{entry_at}
use Rattle.whole.proofs.Table.{table_more, table_cong}
use Rattle.little_endian.specs.Runs.{number_at}
use Rattle.little_endian.specs.TwosComplement.{signed_of}
use Rattle.records.specs.Record.{Rec}
use Rattle.records.specs.Cursor.{kind_at, body_at}
use Rattle.records.proofs.Cursor.{record_at}
use Rattle.plan.specs.declared.Shape.{Shape}
use Rattle.plan.specs.declared.Pattern.{Pattern}
use Rattle.plan.specs.declared.Pattern.TheVariants.{Rates}
use Rattle.plan.specs.declared.Plan.{Plan}
use Rattle.plan.specs.Held.{Held, flag, unheld_instrument, unheld_pattern, no_instrument, no_pattern, no_plan, instrument_from, pattern_from, plan_from}
use Rattle.planfile.specs.Kinds.{role_of}
use Rattle.planfile.specs.Groups.{groups_of, total, spot_at, count_of}
use Rattle.planfile.specs.Rows.{rec, instrument_in, pattern_in}
use Rattle.planfile.specs.Checks.{roles_ok}
use Rattle.planfile.specs.Records.{record_in, held_of}
use Rattle.planfile.proofs.Checks.{role_there}
use Rattle.planfile.proofs.Groups.{held_few, spot_back}
use Rattle.planfile.proofs.Seen.{seen, bump, seen_none, seen_all, seen_index, seen_more}
use Rattle.reader.specs.Reading.{rates_read, slope_read}

-- ---- record t of a file that has passed check 4 is record j of its role, the next that is to be seen
pub record Turn (s : List ℕ) (h : Shape) (t role j : ℕ) : Type 0 where
  pub few : j < count_of (groups_of h) role
  pub before : seen (groups_of h) t role ≡ j
  pub after : seen (groups_of h) (t + 1) ≡ bump role (seen (groups_of h) t)
  pub found : record_at s t ≡ record_in s h role j

pub turn : (s : List ℕ) (h : Shape) → roles_ok s (groups_of h) ≡ true → (t : ℕ) → t < total (groups_of h)
    → {role j : ℕ} → role_of (kind_at s t) ≡ role → j ≡ (spot_at (groups_of h) t).index → Turn s h t role j
unfolding record_in
turn s h o t l e i =
    let b = spot_back h t l in
    rw (i, ← e, role_there s (groups_of h) o t l)
    (record { few = b.index; before = seen_index h t l; after = seen_more h t l; found = ap (record_at s) (sym b.place) })

body_found : {s : List ℕ} {h : Shape} {t role j : ℕ} → Turn s h t role j → body_at s t ≡ (record_in s h role j).body
body_found k = ap (λ (r : Rec). r.body) k.found

-- where a role has one record, that is the first
sole : {s : List ℕ} {h : Shape} {t role j : ℕ} → Turn s h t role j → count_of (groups_of h) role ≤ 1 → Turn s h t role 0
sole {j = j} k one = let z : j ≡ 0 = omega (arith, k.few, one) in rw z at k

-- ---- the plan of what is held, of which c role records of each role were seen
-- what a record says, once it was seen
abbrev once : {A : Type 0} → (count : ℕ) → (none some : A) → A
once count none some = pick (eqb count 0) none some

unfoldable pub plan_seen : Held → (c : ℕ → ℕ) → Plan
plan_seen H c =
    let h = H.shape in
    record {
      years = once (c 1) 0 h.years;
      instruments = once (c 1) 0 h.instruments;
      terms = once (c 1) 0 h.terms;
      patterns = once (c 1) 0 h.patterns;
      instrument = table 16 (c 2) (λ j. instrument_from h.years (H.instrument (1 + j))) no_instrument;
      outflows = table 30 (once (c 3) 0 h.years) (λ k. H.outflow (1 + k)) (pos 0);
      rollover = table 30 (once (c 4) 0 h.terms) (λ d. H.rollover (1 + d)) 0;
      pattern = table 64 (c 5) (λ t. pattern_from h.years (H.pattern (1 + t))) no_pattern;
      allocation = table 16 (once (c 6) 0 h.instruments) (λ j. H.allocation (1 + j)) 0;
      opening = once (c 7) None (pick h.opened (Some (table 30 h.years (λ k. H.opening (1 + k)) (pos 0))) None);
      cost = once (c 9) None (pick h.costed (Some (table 16 h.instruments (λ j. H.cost (1 + j)) (pos 0))) None);
    }

-- a plan, but what is of one role taken from another
abbrev pub changed : (role : ℕ) → (plan other : Plan) → Plan
changed role plan other = record {
  years = pick (eqb role 1) other.years plan.years;
  instruments = pick (eqb role 1) other.instruments plan.instruments;
  terms = pick (eqb role 1) other.terms plan.terms;
  patterns = pick (eqb role 1) other.patterns plan.patterns;
  instrument = pick (eqb role 2) other.instrument plan.instrument;
  outflows = pick (eqb role 3) other.outflows plan.outflows;
  rollover = pick (eqb role 4) other.rollover plan.rollover;
  pattern = pick (eqb role 5) other.pattern plan.pattern;
  allocation = pick (eqb role 6) other.allocation plan.allocation;
  opening = pick (eqb role 7) other.opening plan.opening;
  cost = pick (eqb role 9) other.cost plan.cost;
}

pick_back : {A : Type 0} (b : Bool) (x y : A) → pick b x (pick b y x) ≡ x
pick_back true x y = refl
pick_back false x y = refl

changed_back : (role : ℕ) (plan other : Plan) → changed role (changed role other plan) other ≡ other
changed_back role plan other = simp pick_back

-- what is read into an array is what is held there
array_in : {A : Type 0} (m n : ℕ) (f : ℕ → A) (d : A) → table m n f d ≡ table m n (λ k. entry d n f (1 + k)) d
array_in m n f d = table_cong m n f _ d (λ k l. sym (entry_at d n f k l))

-- amounts and shares as they are read
abbrev pub amounts_read : (m n : ℕ) → (body : List ℕ) → List ℤ
amounts_read m n body = table m n (λ k. signed_of 8 (number_at 8 body k)) (pos 0)

abbrev pub shares_read : (m n : ℕ) → (body : List ℕ) → List ℕ
shares_read m n body = table m n (number_at 4 body) 0

-- a pattern's row, of either kind
pub list_row : (N kind : ℕ) (body : List ℕ) → kind ≡ 5 → Rates (rates_read (N - 1) body) ≡ pattern_from N (pattern_in N (rec kind body))
unfolding pattern_in
list_row N kind body e = rw e (ap Rates (array_in 30 (N - 1) _ (pos 0)))

pub slope_row : (N kind : ℕ) (body : List ℕ) → kind ≡ 8 → slope_read body ≡ pattern_from N (pattern_in N (rec kind body))
unfolding pattern_in
slope_row N kind body e = rw e refl

-- what is held of a kind that may be absent: before its record nothing was seen of it, and after the last record all
once_held : {A : Type 0} (is_held : Bool) (none some : A) → once (flag is_held) none (pick is_held some none) ≡ pick is_held some none
once_held true none some = refl
once_held false none some = refl

held_some : {A : Type 0} (is_held : Bool) {j : ℕ} → j < flag is_held → (none some : A) → pick is_held some none ≡ some
held_some true l none some = refl
held_some false l none some = absurd (omega arith)

-- ---- record after record
module _ (s : List ℕ) (h : Shape) where
  abbrev H : Held
  H = held_of h (record_in s h)

  -- the plan after t records
  unfoldable pub plan_after : (t : ℕ) → Plan
  plan_after t = plan_seen H (seen (groups_of h) t)

  pub after_none : no_plan ≡ plan_after 0
  unfolding plan_after plan_seen table
  after_none = rw seen_none

  pub after_all : plan_after (total (groups_of h)) ≡ plan_from H
  unfolding plan_after plan_seen plan_from held_of groups_of count_of
  after_all =
      let opening : List ℤ = table 30 h.years (λ k. H.opening (1 + k)) (pos 0) in
      let cost : List ℤ = table 16 h.instruments (λ j. H.cost (1 + j)) (pos 0) in
      rw (seen_all, once_held h.opened None (Some opening), once_held h.costed None (Some cost))

  -- the row of an instrument, and what is held of a pattern
  instrument_in_law : (j : ℕ) → j < h.instruments → record { payments = amounts_read 30 h.years (record_in s h 2 j).body } ≡ instrument_from h.years (H.instrument (1 + j))
  unfolding held_of instrument_in
  instrument_in_law j l =
      rw (entry_at unheld_instrument h.instruments (λ j. instrument_in h.years (record_in s h 2 j)) j l)
      (ap (λ (xs : List ℤ). record { payments = xs }) (array_in 30 h.years _ (pos 0)))

  pattern_in_law : (j : ℕ) → j < h.patterns → pattern_in h.years (record_in s h 5 j) ≡ H.pattern (1 + j)
  unfolding held_of
  pattern_in_law j l = sym (entry_at unheld_pattern h.patterns (λ t. pattern_in h.years (record_in s h 5 t)) j l)

  -- a turn: p is the plan before record t, whose body was handed on, and q the plan after it, where just what is of its role has changed
  module _ {t : ℕ} {p q : Plan} {body : List ℕ} (held : p ≡ plan_after t) (handed : body ≡ body_at s t) where
    next : (role : ℕ) {j : ℕ} → Turn s h t role j → changed role q p ≡ p → changed role (plan_after t) q ≡ plan_seen H (bump role (seen (groups_of h) t)) → q ≡ plan_after (t + 1)
    unfolding plan_after
    next role k kept e = sym (changed_back role p q) ∙ ap (λ (plan : Plan). changed role plan q) (kept ∙ held) ∙ e ∙ ap (plan_seen H) (sym k.after)

    pub fill_head : {j : ℕ} → Turn s h t 1 j → changed 1 q p ≡ p → q.years ≡ h.years → q.instruments ≡ h.instruments → q.terms ≡ h.terms → q.patterns ≡ h.patterns → q ≡ plan_after (t + 1)
    unfolding plan_after plan_seen held_of groups_of count_of
    fill_head k kept N n q m = next 1 k kept (rw ((sole k (omega arith)).before, N, n, q, m))

    pub fill_instrument : {j : ℕ} {xs : List ℤ} → Turn s h t 2 j → changed 2 q p ≡ p → q.instrument ≡ set p.instrument j (record { payments = xs })
        → xs ≡ amounts_read 30 h.years body → j < 16 → q ≡ plan_after (t + 1)
    unfolding plan_after plan_seen held_of groups_of count_of
    fill_instrument {j} k kept e x l =
        next 2 k kept
        (rw (
          e,
          held,
          k.before,
          x,
          handed,
          body_found k,
          instrument_in_law j k.few,
          table_more 16 j (λ j. instrument_from h.years (H.instrument (1 + j))) no_instrument l,
        ))

    pub fill_outflows : {j : ℕ} → Turn s h t 3 j → changed 3 q p ≡ p → q.outflows ≡ amounts_read 30 h.years body → q ≡ plan_after (t + 1)
    unfolding plan_after plan_seen held_of groups_of count_of
    fill_outflows k kept e =
        let f = sole k (omega arith) in
        next 3 k kept (rw (f.before, e, handed, body_found f, array_in 30 h.years (λ k. signed_of 8 (number_at 8 (record_in s h 3 0).body k)) (pos 0)))

    pub fill_rollover : {j : ℕ} → Turn s h t 4 j → changed 4 q p ≡ p → q.rollover ≡ shares_read 30 h.terms body → q ≡ plan_after (t + 1)
    unfolding plan_after plan_seen held_of groups_of count_of
    fill_rollover k kept e =
        let f = sole k (omega arith) in
        next 4 k kept (rw (f.before, e, handed, body_found f, array_in 30 h.terms (number_at 4 (record_in s h 4 0).body) 0))

    -- a pattern's row, which is read as its kind says
    pub fill_pattern : {j : ℕ} {row : Pattern} → Turn s h t 5 j → changed 5 q p ≡ p → q.pattern ≡ set p.pattern j row
        → row ≡ pattern_from h.years (pattern_in h.years (rec (kind_at s t) body)) → j < 64 → q ≡ plan_after (t + 1)
    unfolding plan_after plan_seen held_of groups_of count_of
    fill_pattern {j} k kept e x l =
        next 5 k kept
        (rw (
          e,
          held,
          k.before,
          x,
          handed,
          k.found,
          pattern_in_law j k.few,
          table_more 64 j (λ t. pattern_from h.years (H.pattern (1 + t))) no_pattern l,
        ))

    pub fill_allocation : {j : ℕ} → Turn s h t 6 j → changed 6 q p ≡ p → q.allocation ≡ shares_read 16 h.instruments body → q ≡ plan_after (t + 1)
    unfolding plan_after plan_seen held_of groups_of count_of
    fill_allocation k kept e =
        let f = sole k (omega arith) in
        next 6 k kept (rw (f.before, e, handed, body_found f, array_in 16 h.instruments (number_at 4 (record_in s h 6 0).body) 0))

    pub fill_opening : {j : ℕ} → Turn s h t 7 j → changed 7 q p ≡ p → q.opening ≡ Some (amounts_read 30 h.years body) → q ≡ plan_after (t + 1)
    unfolding plan_after plan_seen held_of groups_of count_of
    fill_opening k kept e =
        let f = sole k (held_few h.opened) in
        let opening : List ℤ = table 30 h.years (λ k. H.opening (1 + k)) (pos 0) in
        next 7 k kept
        (rw (
          f.before,
          held_some h.opened f.few None (Some opening),
          held_some h.opened f.few 0 h.years,
          e,
          handed,
          body_found f,
          array_in 30 h.years (λ k. signed_of 8 (number_at 8 (record_in s h 7 0).body k)) (pos 0),
        ))

    pub fill_cost : {j : ℕ} → Turn s h t 9 j → changed 9 q p ≡ p → q.cost ≡ Some (amounts_read 16 h.instruments body) → q ≡ plan_after (t + 1)
    unfolding plan_after plan_seen held_of groups_of count_of
    fill_cost k kept e =
        let f = sole k (held_few h.costed) in
        let cost : List ℤ = table 16 h.instruments (λ j. H.cost (1 + j)) (pos 0) in
        next 9 k kept
        (rw (
          f.before,
          held_some h.costed f.few None (Some cost),
          held_some h.costed f.few 0 h.instruments,
          e,
          handed,
          body_found f,
          array_in 16 h.instruments (λ k. signed_of 8 (number_at 8 (record_in s h 9 0).body k)) (pos 0),
        ))
