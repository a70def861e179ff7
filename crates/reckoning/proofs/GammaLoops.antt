-- The rows of the table of gammas: what one row sends into another, a row from those before it, and all rows.
use mathlib.Core.Path.{◌≡◌, refl, sym, ap, ap₂, ◌∙◌}
use mathlib.Core.Bool.{Bool, true, false}
use mathlib.Core.List.{List, []}
use Prim.Native.Nat.{ℕ, ◌+◌, ◌-◌, ◌*◌, ◌≤◌, ◌<◌}
use native.Mathlib.Omega.{arith}
use borrow.Author.Tests.{eq-eqb, ne_eqb}
use lib.Dec.{eqb}
use lib.ListN.{get_or, set, take, replicate}
use lib.IntN.{ℤ, pos, ◌+ℤ◌, +ℤ_assoc, +ℤ_idr}
use mir.Syntax.{w64}
use mir.Val.{SFits, to_z, of_z}
use Rattle.std.proofs.lemmas.List.{get_or-take}
use Rattle.std.specs.Prelude.{Ok, Err}
use Rattle.refusal.specs.declared.Refusal.TheVariants.{OutOfLimit}
use Rattle.whole.specs.Range.{limit, Within}
use Rattle.whole.specs.Sum.{sum}
use Rattle.whole.specs.Test.{pick, all, is_within}
use Rattle.whole.specs.Table.{table}
use Rattle.whole.proofs.Bridge.{whole}
use Rattle.whole.proofs.Range.{within_add, within_more, within_fits, back}
use Rattle.whole.proofs.Sum.{sum_more, sum_zeros, sum_within}
use Rattle.whole.proofs.Test.{all_none, all_more, all_end, all_fails, all_at, all_cong, between_fact}
use Rattle.whole.proofs.Table.{table_none, table_more, table_at, table_cong, table_set, table_same}
use Rattle.reckoning.specs.Reckoning.{w, sent}
use Rattle.reckoning.specs.Gamma.{unit, gamma}
use Rattle.reckoning.specs.Arrays.{shares_of, rates_of, Joins, gamma_row, gamma_rows, gamma_row_fits, RowsBefore, gammas_reckoned}
use Rattle.reckoning.specs.Answers.{no_row, gammas_shown}
use Rattle.reckoning.specs.declared.Row.{Row}
use Rattle.reckoning.specs.declared.NewMoney.{NewMoney}
use Rattle.reckoning.specs.declared.Rollover.{Rollover}
use Rattle.reckoning.proofs.Recursion.{alpha_is}
use Rattle.reckoning.proofs.Pattern.{rate_at, share_at, weight_at, weight_within, share_within_at, sent_within, sent_past}

-- ---- a row, and what an earlier row sends into it
-- entry l of the sum
abbrev pub joined_at : (row earlier : List ℤ) (r u i : ℤ) → ℕ → ℤ
joined_at row earlier r u i l = get_or row l (pos 0) +ℤ sent (get_or earlier l (pos 0)) r u i

module _ {n : ℕ} {row earlier : List ℤ} {r u i : ℤ} (h : Joins n row earlier r u i) {l : ℕ} (b : l < n) where
  -- what is lent to `sent`
  abbrev word : ℤ → ℤ
  word z = to_z w64 (of_z w64 z)

  earlier_is_word : word (get_or (take n earlier) l (pos 0)) ≡ get_or earlier l (pos 0)
  earlier_is_word = let fits : SFits w64 (get_or earlier l (pos 0)) = within_fits (omega arith) (h.earlier_fits l b) in rw (get_or-take n earlier l (pos 0) b) (back fits)

  pub earlier_word : Within limit (word (get_or (take n earlier) l (pos 0)))
  earlier_word = rw earlier_is_word (h.earlier_fits l b)

  pub row_entry_fits : SFits w64 (get_or row l (pos 0))
  row_entry_fits = within_fits (omega arith) (h.so_far l b)

  -- what it gives, and the entry of the sum
  pub joined_is : {t : ℤ} → t ≡ sent (word (get_or (take n earlier) l (pos 0))) (word r) (word u) (word i) → get_or row l (pos 0) +ℤ t ≡ joined_at row earlier r u i l
  joined_is e =
      let matured : SFits w64 r = within_fits (omega arith) h.matured in
      let invested : SFits w64 u = within_fits (omega arith) h.invested in
      let rate : SFits w64 i = within_fits (omega arith) h.rate in
      ap (λ (z : ℤ). get_or row l (pos 0) +ℤ z) (rw (earlier_is_word, back matured, back invested, back rate) at e)

  pub entry_within : Within 102_000_000_000_000 (joined_at row earlier r u i l)
  entry_within = within_add {b = 100 * limit} {c = limit + limit} (h.so_far l b) (sent_within _ _ _ _ (h.earlier_fits l b) h.matured h.invested h.rate)

  pub joined_fits : SFits w64 (joined_at row earlier r u i l)
  joined_fits = within_fits (omega arith) entry_within

-- ---- a row from the rows before it
module _ (r : ℕ → ℕ) (i : ℕ → ℤ) where
  -- what row 2 + c sends into entry l of row 2 + j
  abbrev pub sends : (j l c : ℕ) → ℤ
  sends j l c = sent (gamma r i (2 + c) (1 + l)) (pos (r (j - c))) (pos (w r (j - c - 1))) (i (2 + c))

  -- entry l of row 2 + j after the first c rows
  abbrev pub partly : (j c l : ℕ) → ℤ
  partly j c l = unit (1 + l) (1 + j) +ℤ sum c (sends j l)

  gamma_is : (j l : ℕ) → gamma r i (2 + j) (1 + l) ≡ partly j j l
  unfolding gamma
  gamma_is j l = alpha_is r i (unit (1 + l)) j

-- v is row 2 + j after the first c of the j rows before it
pub record Rowing (k : Rollover) (m : NewMoney) (rows : List Row) (j : ℕ) (v : List ℤ) (c : ℕ) : Type 0 where
  pub before : RowsBefore (shares_of k.shares) (rates_of m.rates) k.horizon.years j rows
  pub upto : c ≤ j
  pub is : v ≡ table 30 k.horizon.years (partly (shares_of k.shares) (rates_of m.rates) j c) (pos 0)

unit_own : (k : ℕ) → unit k k ≡ pos 1_000_000_000
unfolding unit
unit_own k = rw (eq-eqb k k refl)

unit_other : (k j : ℕ) → (k ≡ j → ⊥) → pos 0 ≡ unit (1 + k) (1 + j)
unfolding unit
unit_other k j h = rw (ne_eqb (1 + j) (1 + k) (λ e. h (omega arith)))

unit_within : (l k : ℕ) → Within 1_000_000_000 (unit l k)
unfolding unit
unit_within l k = go (eqb k l)
  where
    go : (b : Bool) → Within 1_000_000_000 (pick b (pos 1_000_000_000) (pos 0))
    go true = omega whole
    go false = omega whole

-- the unit of year 1 + j, and nothing in the other years
unit_row : (n j : ℕ) → j < n → n ≤ 30 → set (replicate 30 (pos 0)) j (pos 1_000_000_000) ≡ table 30 n (λ l. unit (1 + l) (1 + j)) (pos 0)
unit_row n j b few =
    ap₂ (λ (x : List ℤ) (z : ℤ). set x j z) (sym (table_same 30 n (pos 0))) (sym (unit_own (1 + j)))
    ∙ table_set 30 n (λ k. pos 0) (λ l. unit (1 + l) (1 + j)) (pos 0) j b few (λ k h. unit_other k j h)

pub row_start : (k : Rollover) (m : NewMoney) (rows : List Row) (j : ℕ) → RowsBefore (shares_of k.shares) (rates_of m.rates) k.horizon.years j rows →
    Rowing k m rows j (set (replicate 30 (pos 0)) j (pos 1_000_000_000)) (j - k.terms)
row_start k m rows j h = record {
  before = h;
  upto = omega arith;
  is = unit_row k.horizon.years j h.few k.horizon.held.few
      ∙ table_cong 30 k.horizon.years _ _ (pos 0) (λ l b. sym (ap (λ (z : ℤ). unit (1 + l) (1 + j) +ℤ z) (sum_zeros (j - k.terms) _ (λ c e. sent_past k.parts j c e _ _)) ∙ +ℤ_idr (unit (1 + l) (1 + j))));
}

module _ (k : Rollover) (m : NewMoney) {rows : List Row} {j : ℕ} {v : List ℤ} {c : ℕ} (s : Rowing k m rows j v c) where
  abbrev n : ℕ
  n = k.horizon.years

  abbrev r : ℕ → ℕ
  r = shares_of k.shares

  abbrev i : ℕ → ℤ
  i = rates_of m.rates

  few_rows : j < 30
  few_rows = omega (arith, s.before.few, k.horizon.held.few)

  gamma_within : (e l : ℕ) → e < j → l < n → Within limit (gamma r i (2 + e) (1 + l))
  unfolding gamma_row_fits
  gamma_within e l h b = between_fact _ _ _ (all_at n _ l b (all_at j (gamma_row_fits r i n) e h s.before.fit))

  -- what a row sends, by the arrays
  sends_is : (e l : ℕ) → e < j → sent (gamma r i (2 + e) (1 + l)) (get_or k.shares (j - e - 1) (pos 0)) (get_or k.weights (j - e - 1) (pos 0)) (get_or m.rates e (pos 0)) ≡ sends r i j l e
  sends_is e l h =
      let few : j - e - 1 < 30 = omega (arith, few_rows) in
      let share : get_or k.shares (j - e - 1) (pos 0) ≡ pos (r (j - e)) = sym (share_at k.parts (j - e - 1) few) ∙ ap (λ (d : ℕ). pos (r d)) (omega arith) in
      rw (share, weight_at k (j - e - 1) few, rate_at m.rates e)

  sends_within : (e l : ℕ) → e < j → l < n → Within (limit + limit) (sends r i j l e)
  sends_within e l h b =
      let few : j - e - 1 < 30 = omega (arith, few_rows) in
      rw (sends_is e l h) at (sent_within _ _ _ _ (gamma_within e l h b) (share_within_at k (j - e - 1) few) (weight_within k (j - e - 1) few) (m.within.rate e (omega (arith, few_rows))))

  so_far_is : (l : ℕ) → l < n → get_or v l (pos 0) ≡ partly r i j c l
  so_far_is l b = ap (λ (x : List ℤ). get_or x l (pos 0)) s.is ∙ table_at 30 n _ (pos 0) (pos 0) l b k.horizon.held.few

  module _ (b : c < j) where
    earlier_is : (l : ℕ) → l < n → get_or (get_or rows c (record { values = [] })).values l (pos 0) ≡ gamma r i (2 + c) (1 + l)
    unfolding gamma_rows gamma_row
    earlier_is l e =
        ap (λ (x : List Row). get_or (get_or x c (record { values = [] })).values l (pos 0)) s.before.is
        ∙ ap (λ (x : Row). get_or x.values l (pos 0)) (table_at 30 j (gamma_row r i n) no_row _ c b (omega (arith, few_rows)))
        ∙ table_at 30 n _ (pos 0) (pos 0) l e k.horizon.held.few

    pub row_joins : Joins n v (get_or rows c (record { values = [] })).values (get_or k.shares (j - c - 1) (pos 0)) (get_or k.weights (j - c - 1) (pos 0)) (get_or m.rates c (pos 0))
    row_joins =
        let few : j - c - 1 < 30 = omega (arith, few_rows) in
        record {
          few = k.horizon.held.few;
          so_far = λ l e. rw (so_far_is l e) (within_more (omega (arith, few_rows)) (within_add (unit_within (1 + l) (1 + j)) (sum_within c (limit + limit) (sends r i j l) (λ m d. sends_within m l (omega arith) e))));
          earlier_fits = λ l e. rw (earlier_is l e) (gamma_within c l b e);
          matured = share_within_at k (j - c - 1) few;
          invested = weight_within k (j - c - 1) few;
          rate = m.within.rate c (omega (arith, few_rows));
        }

    pub share_fits : SFits w64 (get_or k.shares (j - c - 1) (pos 0))
    share_fits = within_fits (omega arith) row_joins.matured

    pub weight_fits : SFits w64 (get_or k.weights (j - c - 1) (pos 0))
    weight_fits = within_fits (omega arith) row_joins.invested

    pub rate_fits : SFits w64 (get_or m.rates c (pos 0))
    rate_fits = within_fits (omega arith) row_joins.rate

    pub row_turn : Rowing k m rows j (table 30 n (joined_at v (get_or rows c (record { values = [] })).values (get_or k.shares (j - c - 1) (pos 0)) (get_or k.weights (j - c - 1) (pos 0)) (get_or m.rates c (pos 0))) (pos 0)) (c + 1)
    row_turn = record {
      before = s.before;
      upto = omega arith;
      is = table_cong 30 n _ _ (pos 0) (λ l e.
          ap₂ (λ (x y : ℤ). x +ℤ sent y (get_or k.shares (j - c - 1) (pos 0)) (get_or k.weights (j - c - 1) (pos 0)) (get_or m.rates c (pos 0))) (so_far_is l e) (earlier_is l e)
          ∙ ap (λ (z : ℤ). partly r i j c l +ℤ z) (sends_is c l b)
          ∙ +ℤ_assoc (unit (1 + l) (1 + j)) _ _
          ∙ ap (λ (z : ℤ). unit (1 + l) (1 + j) +ℤ z) (sum_more (sends r i j l) c refl refl));
    }

  pub row_end : j ≤ c → record { values = v } ≡ gamma_row r i n j
  unfolding gamma_row
  row_end b = ap (λ (x : List ℤ). record { values = x })
      (s.is ∙ ap (λ (e : ℕ). table 30 n (partly r i j e) (pos 0)) (omega (arith, s.upto)) ∙ table_cong 30 n _ _ (pos 0) (λ l e. sym (gamma_is r i j l)))

-- ---- check 11 for a row
-- entry l of v is within the limit
abbrev pub entry_fits : List ℤ → ℕ → Bool
entry_fits v l = is_within limit (get_or v l (pos 0))

-- the first l entries are
pub record Fitting (v : List ℤ) (l : ℕ) : Type 0 where
  pub fit : all l (entry_fits v) ≡ true

pub fit_start : (v : List ℤ) → Fitting v 0
fit_start v = record { fit = all_none (entry_fits v) }

module _ {v : List ℤ} {l : ℕ} where
  pub fit_turn : Fitting v l → entry_fits v l ≡ true → Fitting v (l + 1)
  fit_turn s e = record { fit = all_more l (entry_fits v) s.fit e }

  pub fit_end : {n : ℕ} → Fitting v l → l ≤ n → n ≤ l → all n (entry_fits v) ≡ true
  fit_end s b c = all_end _ (entry_fits v) b c s.fit

-- ---- all rows
module _ (r : ℕ → ℕ) (i : ℕ → ℤ) (n : ℕ) where
  -- the array has the first j rows, and check 11 takes them
  pub record Filling (rows : List Row) (j : ℕ) : Type 0 where
    pub upto : j ≤ n
    pub is : rows ≡ gamma_rows r i n j
    pub fit : all j (gamma_row_fits r i n) ≡ true

  pub fill_start : Filling (replicate 30 no_row) 0
  unfolding gamma_rows
  fill_start = record { upto = omega arith; is = sym (table_none 30 (gamma_row r i n) no_row); fit = all_none (gamma_row_fits r i n) }

  module _ {rows : List Row} {j : ℕ} (s : Filling rows j) where
    pub rows_before : j < n → RowsBefore r i n j rows
    rows_before b = record { few = b; is = s.is; fit = s.fit }

    module _ (few : n ≤ 30) (b : j < n) (x : Row) (e : x ≡ gamma_row r i n j) where
      tested : all n (entry_fits x.values) ≡ gamma_row_fits r i n j
      unfolding gamma_row gamma_row_fits
      tested = all_cong n _ _ (λ l h. ap (is_within limit) (ap (λ (y : Row). get_or y.values l (pos 0)) e ∙ table_at 30 n _ (pos 0) (pos 0) l h few))

      pub fill_turn : all n (entry_fits x.values) ≡ true → Filling (set rows j x) (j + 1)
      unfolding gamma_rows
      fill_turn h = record {
        upto = omega arith;
        is = ap₂ (λ (ys : List Row) (y : Row). set ys j y) s.is e ∙ table_more 30 j (gamma_row r i n) no_row (omega arith);
        fit = all_more j (gamma_row_fits r i n) s.fit (sym tested ∙ h);
      }

      pub fill_fails : all n (entry_fits x.values) ≡ false → gammas_shown (Err OutOfLimit) ≡ gammas_reckoned r i n
      unfolding gammas_reckoned
      fill_fails h = rw (all_fails n (gamma_row_fits r i n) j b (sym tested ∙ h)) refl

    pub fill_end : n ≤ j → gammas_shown (Ok rows) ≡ gammas_reckoned r i n
    unfolding gammas_reckoned
    fill_end b =
        let e : j ≡ n = omega (arith, s.upto) in
        let f : all n (gamma_row_fits r i n) ≡ true = ap (λ (m : ℕ). all m (gamma_row_fits r i n)) (sym e) ∙ s.fit in
        rw (f, s.is ∙ ap (gamma_rows r i n) e) refl
