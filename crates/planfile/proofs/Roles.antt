-- What goes role by role, with a line for each: the records of what is held may stand in their roles, the records that are read are
-- written again, and what is held is read again from its records.
use mathlib.Core.Path.{◌≡◌, refl, sym, ap, ap₂, ◌∙◌, subst, fun_ext}
use mathlib.Core.Bool.{Bool, true, false}
use mathlib.Core.List.{List}
use Prim.Native.Nat.{ℕ, suc, ◌+◌, ◌*◌, ◌-◌, ◌^◌, ◌<◌}
use native.Mathlib.Omega.{arith}
use mir.Syntax.{Width, w32, w64}
use mir.Val.{SFits, bytes}
use lib.Dec.{eqb}
use lib.IntN.{ℤ, pos, negsuc}
use lib.ListN.{length}
use Rattle.whole.specs.Entry.{nth, entry}
use Rattle.whole.specs.Range.{Between}
use Rattle.whole.specs.Table.{table}
use Rattle.whole.specs.Test.{pick, all}
use Rattle.whole.proofs.Bridge.{whole}
use Rattle.whole.proofs.Entry.{entry_at, entry_cong, entry_each, entry_own, entry_none}
use Rattle.whole.proofs.Range.{whole64, within_fits, between_32, fits_32}
use Rattle.whole.proofs.Sum.{sum_ℕ_one}
use Rattle.whole.proofs.Table.{table_at}
use Rattle.whole.proofs.Test.{pick_again}
use Rattle.little_endian.specs.LittleEndian.{Bytes, bytes_of}
use Rattle.little_endian.specs.TwosComplement.{signed_of}
use Rattle.little_endian.specs.Runs.{run, number_at}
use Rattle.little_endian.proofs.TwosComplement.{signed_fits}
use Rattle.little_endian.proofs.Runs.{length_run, number_below}
use Rattle.records.specs.Record.{Rec, record_bytes, file_bytes}
use Rattle.plan.specs.declared.Shape.{Shape}
use Rattle.plan.specs.declared.Pattern.TheVariants.{Rates, Slope}
use Rattle.plan.specs.declared.Plan.{Plan}
use Rattle.plan.specs.Held.{
  HeldPattern,
  Held,
  flag,
  openings,
  costs,
  rates_listed,
  unheld_instrument,
  unheld_pattern,
  missing_pattern,
  held,
  SlopeTyped,
  Typed,
  no_pattern,
  pattern_from,
  plan_from,
}
use Rattle.plan.specs.Numbers.{rate_of, numbers}
use Rattle.plan.specs.Refusal.{top, Accepted}
use Rattle.plan.proofs.Held.{rate_at, pattern_each, TidyPattern, tidy_none, Tidy}
use Rattle.planfile.specs.Kinds.{role_of, size_of}
use Rattle.planfile.specs.Groups.{groups_of, count_of, place_of, laid}
use Rattle.planfile.specs.Rows.{
  rec,
  signed_in,
  signed_bytes,
  shares_in,
  shares_bytes,
  head_rec,
  instrument_in,
  instrument_rec,
  pattern_in,
  slope_bytes,
  pattern_rec,
}
use Rattle.planfile.specs.Checks.{shape_in, has_role}
use Rattle.planfile.specs.Records.{file_from, held_of, record_of, file_of}
use Rattle.planfile.specs.Reading.{InRange}
use Rattle.planfile.proofs.Bodies.{Lone, lone, paired}
use Rattle.planfile.proofs.Groups.{◌▸◌, each_role}
use Rattle.planfile.proofs.Filed.{Suits, AllSuit, held_there}
use Rattle.planfile.proofs.Rows.{
  signed_again,
  shares_again,
  signed_same,
  signed_none,
  shares_same,
  slope_length,
  slope_again,
  start_same,
  step_same,
  until_same,
}

-- ---- whatever is held, its records may stand in their roles
module _ (H : Held) where
  abbrev h : Shape
  h = H.shape

  suits_run : (role w n : ℕ) (f : ℕ → ℕ) → role_of role ≡ role → size_of h role ≡ w * n → Suits h role (rec role (run w n f))
  suits_run role w n f r e = record { stands = r; size = length_run w n f ∙ sym e }

  -- a pattern's, of either kind
  suits_pattern : (i : HeldPattern) → Suits h 5 (pattern_rec h.years i)
  unfolding pattern_rec role_of size_of nth
  suits_pattern i = go i.sloped refl
    where
      go : (sloped : Bool) → i.sloped ≡ sloped → Suits h 5 (pattern_rec h.years i)
      go true e = rw e (record { stands = refl; size = slope_length i.start i.step i.until })
      go false e = rw e (suits_run 5 4 (h.years - 1) _ refl refl)

  pub suits_held : AllSuit h (record_of H)
  unfolding groups_of record_of instrument_rec role_of size_of nth
  suits_held =
      each_role (groups_of h) (λ role j. Suits h role (record_of H role j)) (
      (λ j l. record { stands = refl; size = refl })
      ▸ (λ j l. suits_run 2 8 h.years _ refl refl)
      ▸ (λ j l. suits_run 3 8 h.years _ refl refl)
      ▸ (λ j l. suits_run 7 8 h.years _ refl refl)
      ▸ (λ j l. suits_run 9 8 h.instruments _ refl refl)
      ▸ (λ j l. suits_run 4 4 h.terms _ refl refl)
      ▸ (λ j l. suits_pattern (H.pattern (1 + j)))
      ▸ (λ j l. suits_run 6 4 h.instruments _ refl refl)
      ▸ tt)

  -- a kind that may be absent stands at its place just where it is held
  opened_held : InRange h → has_role (file_of H) (2 + h.instruments) 7 ≡ h.opened
  unfolding file_of groups_of count_of place_of
  opened_held range = held_there h range (record_of H) suits_held 7 (2 + h.instruments) h.opened (omega arith) refl

  costed_held : InRange h → has_role (file_of H) (2 + h.instruments + flag h.opened) 9 ≡ h.costed
  unfolding file_of groups_of count_of place_of
  costed_held range = held_there h range (record_of H) suits_held 9 (2 + h.instruments + flag h.opened) h.costed (omega arith) refl

  -- and the shape of their file is its shape
  pub shape_held : InRange h → shape_in (file_of H) ≡ h
  unfolding shape_in file_of file_from record_of nth groups_of laid table file_bytes record_bytes bytes_of
  shape_held range = rw (opened_held range, costed_held range)

-- ---- the records that are read are written again
module _ (h : Shape) {role : ℕ} {r : Rec} (b : Bytes r.body) (u : Suits h role r) (some : 0 < role) (e : Lone role) where
  same_body : {body : List ℕ} → (length r.body ≡ size_of h role → body ≡ r.body) → rec role body ≡ r
  same_body i = let k = lone role some e u.stands in ap₂ rec (sym k) (i (u.size ∙ ap (size_of h) k))

  signed_rec : (w : Width) (n : ℕ) → size_of h role ≡ bytes w * n → rec role (signed_bytes (bytes w) n (signed_in (bytes w) n r)) ≡ r
  signed_rec w n e = same_body (λ l. signed_again r b n w (l ∙ e))

  shares_rec : (n : ℕ) → size_of h role ≡ 4 * n → rec role (shares_bytes n (shares_in n r)) ≡ r
  shares_rec n e = same_body (λ l. shares_again r b n (l ∙ e))

-- a pattern's, of either kind
pattern_rec_law : (h : Shape) {r : Rec} → Bytes r.body → Suits h 5 r → pattern_rec h.years (pattern_in h.years r) ≡ r
unfolding pattern_rec pattern_in role_of size_of nth all
pattern_rec_law h {r} b u = go (eqb r.kind 8) refl (paired 5 8 (omega arith) refl u.stands)
  where
    go : (sloped : Bool) → eqb r.kind 8 ≡ sloped → r.kind ≡ pick sloped 8 5 → pattern_rec h.years (pattern_in h.years r) ≡ r
    go true e k = rw e (ap₂ rec (sym k) (slope_again r b (u.size ∙ ap (size_of h) k)))
    go false e k = rw e (ap₂ rec (sym k) (signed_again r b (h.years - 1) w32 (u.size ∙ ap (size_of h) k)))

module _ (h : Shape) (g : (role j : ℕ) → Rec) (b : (role j : ℕ) → Bytes (g role j).body) (u : AllSuit h g) (head : head_rec h ≡ g 1 0) where
  -- the one record of a role
  only : {r : Rec} (role : ℕ) → r ≡ g role 0 → {j : ℕ} → j < 1 → r ≡ g role j
  only role e {j} l = let i : 0 ≡ j = omega arith in e ∙ ap (g role) i

  -- that of a role that may be absent, which has n numbers where it is held
  only_held : (role : ℕ) (is_held : Bool) (w : Width) (n : ℕ) → count_of (groups_of h) role ≡ flag is_held → 0 < role → Lone role
      → size_of h role ≡ bytes w * n → {j : ℕ} → j < flag is_held → rec role (signed_bytes (bytes w) n (signed_in (bytes w) (pick is_held n 0) (g role 0))) ≡ g role j
  only_held role true w n c some e size l = only role (signed_rec h (b role 0) (u role 0 (omega (arith, c))) some e w n size) l
  only_held role false w n c some e size l = absurd (omega arith)

  pub records_again : (role j : ℕ) → j < count_of (groups_of h) role → record_of (held_of h g) role j ≡ g role j
  unfolding groups_of count_of record_of held_of instrument_rec instrument_in role_of size_of nth all
  records_again =
      each_role (groups_of h) (λ role j. record_of (held_of h g) role j ≡ g role j) (
      (λ j l. only 1 head l)
      ▸ (λ j l. ap (instrument_rec h.years) (entry_at unheld_instrument h.instruments _ j l) ∙ signed_rec h (b 2 j) (u 2 j l) (omega arith) refl w64 h.years refl)
      ▸ (λ j l. only 3 (signed_rec h (b 3 0) (u 3 0 (omega arith)) (omega arith) refl w64 h.years refl) l)
      ▸ (λ j l. only_held 7 h.opened w64 h.years refl (omega arith) refl refl l)
      ▸ (λ j l. only_held 9 h.costed w64 h.instruments refl (omega arith) refl refl l)
      ▸ (λ j l. only 4 (shares_rec h (b 4 0) (u 4 0 (omega arith)) (omega arith) refl h.terms refl) l)
      ▸ (λ j l. ap (pattern_rec h.years) (entry_at unheld_pattern h.patterns _ j l) ∙ pattern_rec_law h (b 5 j) (u 5 j l))
      ▸ (λ j l. only 6 (shares_rec h (b 6 0) (u 6 0 (omega arith)) (omega arith) refl h.instruments refl) l)
      ▸ tt)

-- ---- what is read lies within the shape
tidy_pattern : (N : ℕ) (r : Rec) → TidyPattern N (pattern_in N r)
unfolding pattern_in
tidy_pattern N r =
    let sloped = eqb r.kind 8 in
    record {
      rate = entry_own (pos 0) (rates_listed N sloped) _;
      start = sym (pick_again sloped _ (pos 0) (pos 0));
      step = sym (pick_again sloped _ (pos 0) (pos 0));
      until = sym (pick_again sloped _ 0 0);
    }

pub tidy_read : (h : Shape) → InRange h → (g : (role j : ℕ) → Rec) → Tidy (held_of h g)
unfolding held_of instrument_in
tidy_read h range g = record {
  years_few = range.years_few;
  instruments_few = range.instruments_few;
  terms_few = range.terms_few;
  patterns_few = range.patterns_few;
  instrument = entry_own unheld_instrument h.instruments _;
  payment = entry_each unheld_instrument h.instruments _ (λ a. a.payment ≡ entry (pos 0) h.years (λ k. a.payment (1 + k))) (entry_none (pos 0) h.years) (λ j l. entry_own (pos 0) h.years _);
  outflow = entry_own (pos 0) h.years _;
  rollover = entry_own 0 h.terms _;
  pattern = entry_own unheld_pattern h.patterns _;
  rates = entry_each unheld_pattern h.patterns _ (TidyPattern h.years) (tidy_none h.years) (λ t l. tidy_pattern h.years (g 5 t));
  allocation = entry_own 0 h.instruments _;
  opening = entry_own (pos 0) (openings h) _;
  cost = entry_own (pos 0) (costs h) _;
}

-- and a start and a step that are read have 32 bits
slope_typed : (N : ℕ) (r : Rec) → Bytes r.body → SlopeTyped (pattern_from N (pattern_in N r))
unfolding pattern_in
slope_typed N r b = go (eqb r.kind 8) _ _
  where
    value : (k : ℕ) → Between (negsuc 2_147_483_647) (pos 2_147_483_647) (signed_of 4 (number_at 4 r.body k))
    value k = between_32 (signed_fits w32 _ (number_below 4 b k))

    go : (sloped : Bool) (until : ℕ) (rates : List ℤ)
        → SlopeTyped (pick sloped (Slope (pick sloped (signed_of 4 (number_at 4 r.body 0)) (pos 0)) (pick sloped (signed_of 4 (number_at 4 r.body 1)) (pos 0)) until) (Rates rates))
    go true until rates = record { start = value 0; step = value 1 }
    go false until rates = record { start = omega whole; step = omega whole }

pub typed_read : (h : Shape) → InRange h → (g : (role j : ℕ) → Rec) → ((role j : ℕ) → Bytes (g role j).body)
    → Typed (plan_from (held_of h g))
unfolding plan_from held_of
typed_read h range g b t l =
    subst SlopeTyped (sym (table_at 64 h.patterns _ no_pattern missing_pattern t l range.patterns_few))
    (subst (λ (i : HeldPattern). SlopeTyped (pattern_from h.years i)) (sym (entry_at unheld_pattern h.patterns _ t l))
    (slope_typed h.years (g 5 t) (b 5 t)))

-- ---- what is held is read again from its records
-- its numbers fit the bytes that they are written in
pub record Fits (H : Held) : Type 0 where
  pub payment : (j k : ℕ) → SFits w64 ((H.instrument j).payment k)
  pub outflow : (k : ℕ) → SFits w64 (H.outflow k)
  pub rollover : (d : ℕ) → d < H.shape.terms → H.rollover (1 + d) < 256 ^ 4
  pub rate : (t l : ℕ) → l < rates_listed H.shape.years (H.pattern t).sloped → SFits w32 ((H.pattern t).rate (1 + l))
  pub start : (t : ℕ) → SFits w32 (H.pattern t).start
  pub step : (t : ℕ) → SFits w32 (H.pattern t).step
  pub allocation : (j : ℕ) → j < H.shape.instruments → H.allocation (1 + j) < 256 ^ 4
  pub opening : (k : ℕ) → SFits w64 (H.opening k)
  pub cost : (j : ℕ) → SFits w64 (H.cost j)

-- the rates that a pattern lists do where check 8 takes what it means
rate_fits : (N : ℕ) (i : HeldPattern) → ((l : ℕ) → Between (pos 0) (pos top) (rate_of N i l))
    → (l : ℕ) → l < rates_listed N i.sloped → SFits w32 (i.rate (1 + l))
rate_fits N i ok l h = go i.sloped refl
  where
    go : (sloped : Bool) → i.sloped ≡ sloped → SFits w32 (i.rate (1 + l))
    go true e = absurd (let n : l < 0 = subst (λ (b : Bool). l < rates_listed N b) e h in omega arith)
    go false e =
        let n : l < N - 1 = subst (λ (b : Bool). l < rates_listed N b) e h in
        let is : rate_of N i (2 + l) ≡ i.rate (1 + l) = rate_at N i l n ∙ rw e in
        fits_32 (omega (whole, rw is at (ok (2 + l))))

-- those of an accepted plan do, whose start and step have 32 bits
pub fits_accepted : (plan : Plan) → Accepted (numbers plan) → Typed plan → Fits (held plan)
fits_accepted plan ok typed = let H = held plan in record {
  payment = λ j k. omega (whole64, ok.payments k j);
  outflow = λ k. within_fits (omega arith) (ok.outflows k);
  rollover = λ d l. omega (arith, sum_ℕ_one (suc H.shape.terms - 1) (λ k. H.rollover (1 + k)) d (omega arith), ok.rollover);
  rate = λ t. rate_fits plan.years (H.pattern t) (ok.rates t);
  start = pattern_each plan (λ i. SFits w32 i.start) (fits_32 (omega whole)) (λ t l. fits_32 (typed t l).start);
  step = pattern_each plan (λ i. SFits w32 i.step) (fits_32 (omega whole)) (λ t l. fits_32 (typed t l).step);
  allocation = λ j l. omega (arith, sum_ℕ_one (suc H.shape.instruments - 1) (λ k. H.allocation (1 + k)) j (omega arith), ok.allocation);
  opening = λ k. omega (whole64, ok.opening k);
  cost = λ j. omega (whole64, ok.cost j);
}

-- a pattern of either kind
abbrev pattern : (sloped : Bool) (rate : ℕ → ℤ) (start step : ℤ) (until : ℕ) → HeldPattern
pattern sloped rate start step until = record { sloped = sloped; rate = rate; start = start; step = step; until = until }

same_pattern : {sloped : Bool} {rate rate' : ℕ → ℤ} {start start' step step' : ℤ} {until until' : ℕ}
    → rate ≡ rate' → start ≡ start' → step ≡ step' → until ≡ until'
    → pattern sloped rate start step until ≡ pattern sloped rate' start' step' until'
same_pattern r a b u = rw (r, a, b, u)

pattern_same : (N : ℕ) (i : HeldPattern) → TidyPattern N i
    → ((l : ℕ) → l < rates_listed N i.sloped → SFits w32 (i.rate (1 + l))) → SFits w32 i.start → SFits w32 i.step
    → pattern_in N (pattern_rec N i) ≡ i
unfolding pattern_in pattern_rec
pattern_same N i tidy rate start step = go i.sloped refl
  where
    go : (sloped : Bool) → i.sloped ≡ sloped → pattern_in N (pattern_rec N i) ≡ i
    go true e =
        rw e
        (same_pattern (signed_none 4 (rec 8 (slope_bytes i.start i.step i.until)) i.rate (tidy.rate ∙ rw e))
        (start_same i.start i.step i.until start)
        (step_same i.start i.step i.until step)
        (until_same i.start i.step i.until))
    go false e =
        rw e
        (same_pattern (signed_same 5 (N - 1) w32 i.rate (tidy.rate ∙ rw e) (λ l h. rate l (rw e h)))
        (sym (tidy.start ∙ rw e))
        (sym (tidy.step ∙ rw e))
        (sym (tidy.until ∙ rw e)))

module _ (H : Held) (tidy : Tidy H) (fits : Fits H) (g : (role j : ℕ) → Rec) (e : (role j : ℕ) → j < count_of (groups_of H.shape) role → g role j ≡ record_of H role j) where
  abbrev shape : Shape
  shape = H.shape

  instruments_same : entry unheld_instrument shape.instruments (λ j. instrument_in shape.years (g 2 j)) ≡ H.instrument
  unfolding groups_of count_of record_of instrument_in instrument_rec nth
  instruments_same =
      fun_ext (entry_cong unheld_instrument shape.instruments _ (λ j. H.instrument (1 + j)) (λ j l.
      ap (instrument_in shape.years) (e 2 j l)
      ∙ ap (λ (f : ℕ → ℤ). record { payment = f }) (signed_same 2 shape.years w64 (H.instrument (1 + j)).payment (tidy.payment (1 + j)) (λ k h. fits.payment (1 + j) (1 + k)))))
      ∙ sym tidy.instrument

  patterns_same : entry unheld_pattern shape.patterns (λ t. pattern_in shape.years (g 5 t)) ≡ H.pattern
  unfolding groups_of count_of record_of nth
  patterns_same =
      fun_ext (entry_cong unheld_pattern shape.patterns _ (λ t. H.pattern (1 + t)) (λ t l.
      ap (pattern_in shape.years) (e 5 t l)
      ∙ pattern_same shape.years (H.pattern (1 + t)) (tidy.rates (1 + t)) (fits.rate (1 + t))
      (fits.start (1 + t)) (fits.step (1 + t))))
      ∙ sym tidy.pattern

  -- the numbers of a role that may be absent, n where it is held
  same_held : (role : ℕ) (is_held : Bool) (w : Width) (n : ℕ) (f : ℕ → ℤ) → count_of (groups_of shape) role ≡ flag is_held
      → record_of H role 0 ≡ rec role (signed_bytes (bytes w) n f) → f ≡ entry (pos 0) (pick is_held n 0) (λ k. f (1 + k)) → ((k : ℕ) → SFits w (f k)) → signed_in (bytes w) (pick is_held n 0) (g role 0) ≡ f
  same_held role true w n f c r t s = ap (signed_in (bytes w) n) (e role 0 (omega (arith, c)) ∙ r) ∙ signed_same role n w f t (λ k h. s (1 + k))
  same_held role false w n f c r t s = signed_none (bytes w) (g role 0) f t

  pub held_again : held_of shape g ≡ H
  unfolding groups_of count_of record_of held_of nth
  held_again =
      rw (
        instruments_same,
        e 3 0 (omega arith),
        signed_same 3 shape.years w64 H.outflow tidy.outflow (λ k h. fits.outflow (1 + k)),
        e 4 0 (omega arith),
        shares_same 4 shape.terms H.rollover tidy.rollover fits.rollover,
        patterns_same,
        e 6 0 (omega arith),
        shares_same 6 shape.instruments H.allocation tidy.allocation fits.allocation,
        same_held 7 shape.opened w64 shape.years H.opening refl refl tidy.opening fits.opening,
        same_held 9 shape.costed w64 shape.instruments H.cost refl refl tidy.cost fits.cost,
      )
