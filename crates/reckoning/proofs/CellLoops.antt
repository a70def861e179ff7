-- The loops of the cells and the fund: the state of each, its start, a turn, its end.
use mathlib.Core.Path.{◌≡◌, refl, sym, ap, ap₂, subst, ◌∙◌}
use mathlib.Core.Bool.{Bool, true, false}
use mathlib.Core.List.{List, [], ◌∷◌, ◌++◌}
use Prim.Native.Nat.{ℕ, suc, ◌+◌, ◌*◌, ◌-◌, ◌≤◌, ◌<◌}
use native.Mathlib.Nat.{mul-le-mul_right}
use native.Mathlib.Omega.{arith}
use lib.ListN.{length, get_or, set, take, drop, replicate}
use lib.IntN.{ℤ, pos, ◌+ℤ◌, ◌-ℤ◌, +ℤ_idr, +ℤ_assoc}
use mir.Syntax.{w64}
use mir.Val.{SFits, to_z, of_z}
use Rattle.std.proofs.lemmas.List.{length-take, length-drop, length-append, get_or-take, get_or-drop, get_or_push, get_or_append_left}
use Rattle.std.specs.Prelude.{Result, Ok, Err}
use Rattle.refusal.specs.declared.Refusal.{Refusal}
use Rattle.refusal.specs.declared.Refusal.TheVariants.{OutOfLimit}
use Rattle.whole.specs.Range.{million, limit, Within}
use Rattle.whole.specs.Floor.{share_of}
use Rattle.whole.specs.Sum.{sum}
use Rattle.whole.specs.Test.{pick, both, is_within}
use Rattle.whole.specs.Table.{table}
use Rattle.whole.proofs.Bridge.{whole, at, #, ◌⊖◌}
use Rattle.whole.proofs.Range.{within_more, within_add, within_pos, within_fits, whole64, back}
use Rattle.whole.proofs.Floor.{share_within, share_none}
use Rattle.whole.proofs.Sum.{sum_more, sum_cong, sum_zeros, sum_within}
use Rattle.whole.proofs.Test.{both_second, both_not, all_none, all_more, all_fails, all_at, between_fact}
use Rattle.whole.proofs.Table.{table_none, table_more, table_at}
use Rattle.reckoning.specs.Reckoning.{w, sent, alpha, fund}
use Rattle.reckoning.specs.Arrays.{shares_of, rates_of, amounts_of, weights_of, Years, Terms, Before, Invested, alphas_of, alphas_fit, fund_fits, fund_reckoned}
use Rattle.reckoning.specs.Answers.{Reckoned, fund_shown}
use Rattle.reckoning.specs.declared.Flow.{Flow}
use Rattle.reckoning.specs.declared.NewMoney.{NewMoney}
use Rattle.reckoning.specs.declared.Rollover.{Rollover}
use Rattle.reckoning.proofs.Recursion.{w_zero, w_suc, w_le, alpha_is, fund_is}
use Rattle.reckoning.proofs.Pattern.{sent_within, shares_le, sent_past, share_at, rate_at, amount_at, weight_at, weight_within, share_within_at, weight_past}

-- ---- the weights: v has the first d of them, and left is the next
pub record Weighed (r v : List ℤ) (left : ℤ) (d : ℕ) : Type 0 where
  pub is : v ≡ table 30 d (λ d. pos (w (shares_of r) d)) (pos 0)
  pub left_is : left ≡ pos (w (shares_of r) d)

module _ {q : ℕ} {r : List ℤ} (terms : Terms q r) where
  pub weigh_start : Weighed r (replicate 30 (pos 0)) (pos million) 0
  weigh_start = record { is = sym (table_none 30 (λ d. pos (w (shares_of r) d)) (pos 0)); left_is = sym (ap pos (w_zero (shares_of r))) }

  pub term_fits : {d : ℕ} → d < 30 → SFits w64 (get_or r d (pos 0))
  term_fits {d} l = omega (whole64, terms.part d l)

  module _ {v : List ℤ} {left : ℤ} {d : ℕ} (l : d < 30) (s : Weighed r v left d) where
    left_next : left -ℤ get_or r d (pos 0) ≡ pos (w (shares_of r) (d + 1))
    left_next =
        let e : d + 1 ≡ suc d = omega arith in
        let f : 1 + d ≡ suc d = omega arith in
        rw (s.left_is, ← share_at terms d l, w_suc (shares_of r) (shares_le terms) d, e, f)
        (omega (whole, at (# (pos (w (shares_of r) (suc d) + shares_of r (suc d))) ⊖ # (pos (shares_of r (suc d))))))

    pub left_fits : SFits w64 (left -ℤ get_or r d (pos 0))
    left_fits = rw left_next (within_fits (omega arith) (within_pos (w_le (shares_of r) (d + 1))))

    pub weigh_turn : Weighed r (set v d left) (left -ℤ get_or r d (pos 0)) (d + 1)
    weigh_turn = record { is = rw (s.is, s.left_is) (table_more 30 d (λ d. pos (w (shares_of r) d)) (pos 0) l); left_is = left_next }

pub weigh_end : {r v : List ℤ} {left : ℤ} {d : ℕ} → d ≤ 30 → 30 ≤ d → Weighed r v left d → v ≡ weights_of (shares_of r)
unfolding weights_of
weigh_end {r} {v} {left} {d} few l s = let e : d ≡ 30 = omega arith in s.is ∙ ap (λ (d : ℕ). table 30 d (λ d. pos (w (shares_of r) d)) (pos 0)) e

-- ---- a cell: s is the flow f, and what the cells before place l send
abbrev pub sends : (r u i v : List ℤ) → ℕ → ℕ → ℤ
sends r u i v j l = sent (get_or v l (pos 0)) (get_or r (j - l - 1) (pos 0)) (get_or u (j - l - 1) (pos 0)) (get_or i l (pos 0))

pub record Adding (r u i v : List ℤ) (j : ℕ) (f s : ℤ) (l : ℕ) : Type 0 where
  pub upto : l ≤ j
  pub is : s ≡ f +ℤ sum l (sends r u i v j)

module _ (k : Rollover) (m : NewMoney) (flow : Flow) {v : List ℤ} {j : ℕ}
    (before : Before (shares_of k.shares) (rates_of m.rates) (amounts_of flow.amounts) j v)
  where
    abbrev α : ℕ → ℤ
    α l = alpha (shares_of k.shares) (rates_of m.rates) (amounts_of flow.amounts) (2 + l)

    abbrev sendsₖ : ℕ → ℤ
    sendsₖ = sends k.shares k.weights m.rates v j

    -- its flow
    abbrev own : ℤ
    own = get_or flow.amounts j (pos 0)

    cell_at : (l : ℕ) → l < j → get_or v l (pos 0) ≡ α l
    unfolding alphas_of
    cell_at l b = rw before.is (table_at 30 j α (pos 0) (pos 0) l b (omega (arith, before.few)))

    pub cell_within : (l : ℕ) → l < j → Within limit (get_or v l (pos 0))
    unfolding alphas_fit
    cell_within l b = rw (cell_at l b) (between_fact _ _ (α l) (all_at j (λ l. is_within limit (α l)) l b before.fit))

    -- what a cell sends, by the papers' indices
    sends_is : (l : ℕ) → l < j → sent (α l) (pos (shares_of k.shares (j - l))) (pos (w (shares_of k.shares) (j - l - 1))) (rates_of m.rates (2 + l)) ≡ sendsₖ l
    sends_is l b =
        let e : 1 + (j - l - 1) ≡ j - l = omega arith in
        let d : j - l - 1 < 30 = omega (arith, before.few) in
        rw (cell_at l b, rate_at m.rates l, ← share_at k.parts (j - l - 1) d, weight_at k (j - l - 1) d, e)

    pub add_start : Adding k.shares k.weights m.rates v j own own (j - k.terms)
    add_start = record {
      upto = omega arith;
      is = sym (ap (λ (z : ℤ). own +ℤ z) (sum_zeros (j - k.terms) sendsₖ none) ∙ +ℤ_idr own);
    }
      where
        none : (l : ℕ) → l < j - k.terms → sendsₖ l ≡ pos 0
        none l b = sym (sends_is l (omega arith)) ∙ sent_past k.parts j l b (α l) (rates_of m.rates (2 + l))

    sends_within : (l : ℕ) → l < j → Within (limit + limit) (sendsₖ l)
    sends_within l b =
        let d : j - l - 1 < 30 = omega (arith, before.few) in
        sent_within _ _ _ _ (cell_within l b) (share_within_at k (j - l - 1) d) (weight_within k (j - l - 1) d) (m.within.rate l (omega (arith, before.few)))

    pub own_fits : SFits w64 own
    own_fits = within_fits (omega arith) (flow.within.amount j before.few)

    -- what is lent to `sent`, and what it gives
    module _ {l : ℕ} (b : l < j) where
      abbrev d_few : j - l - 1 < 30
      d_few = omega (arith, before.few)

      pub cell_fits : SFits w64 (get_or v l (pos 0))
      cell_fits = within_fits (omega arith) (cell_within l b)

      share_fits : SFits w64 (get_or k.shares (j - l - 1) (pos 0))
      share_fits = within_fits (omega arith) (share_within_at k (j - l - 1) d_few)

      pub weight_fits : SFits w64 (get_or k.weights (j - l - 1) (pos 0))
      weight_fits = within_fits (omega arith) (weight_within k (j - l - 1) d_few)

      rate_fits : SFits w64 (get_or m.rates l (pos 0))
      rate_fits = within_fits (omega arith) (m.within.rate l (omega (arith, before.few)))

      pub sent_is : {t : ℤ} →
          t ≡ sent (to_z w64 (of_z w64 (get_or v l (pos 0)))) (to_z w64 (of_z w64 (get_or k.shares (j - l - 1) (pos 0)))) (to_z w64 (of_z w64 (get_or k.weights (j - l - 1) (pos 0)))) (to_z w64 (of_z w64 (get_or m.rates l (pos 0)))) →
          t ≡ sendsₖ l
      sent_is e = simp (back, cell_fits, share_fits, weight_fits, rate_fits) at e

    module _ {s t : ℤ} {l : ℕ} (b : l < j) (a : Adding k.shares k.weights m.rates v j own s l) (e : t ≡ sendsₖ l) where
      pub add_turn : Adding k.shares k.weights m.rates v j own (s +ℤ t) (l + 1)
      add_turn = record {
        upto = omega arith;
        is = rw a.is (+ℤ_assoc own (sum l sendsₖ) t ∙ ap (λ (z : ℤ). own +ℤ z) (sum_more sendsₖ l refl e));
      }

      pub add_fits : SFits w64 (s +ℤ t)
      add_fits = rw add_turn.is (within_fits {b = limit + (l + 1) * (limit + limit)} (omega (arith, before.few))
          (within_add (flow.within.amount j before.few) (sum_within (l + 1) (limit + limit) sendsₖ (λ k o. sends_within k (omega arith)))))

    pub add_end : {s : ℤ} {l : ℕ} → j ≤ l → Adding k.shares k.weights m.rates v j own s l → s ≡ α j
    add_end {s} {l} b a =
        let e : l ≡ j = omega (arith, a.upto) in
        rw e at a.is ∙ sym (alpha_is (shares_of k.shares) (rates_of m.rates) (amounts_of flow.amounts) j ∙ ap₂ ◌+ℤ◌ (amount_at flow.amounts j) (sum_cong j _ sendsₖ sends_is))

-- ---- the cells: v has the first j, and check 11 takes them
pub record Filled (r i f : List ℤ) (n j : ℕ) (v : List ℤ) : Type 0 where
  pub upto : j ≤ n
  pub is : v ≡ alphas_of (shares_of r) (rates_of i) (amounts_of f) j
  pub fit : alphas_fit (shares_of r) (rates_of i) (amounts_of f) j ≡ true

module _ (r i f : List ℤ) {n : ℕ} (years : Years n) where
  abbrev αs : ℕ → ℤ
  αs l = alpha (shares_of r) (rates_of i) (amounts_of f) (2 + l)

  pub fill_start : Filled r i f n 0 (replicate 30 (pos 0))
  unfolding alphas_of alphas_fit
  fill_start = record { upto = omega arith; is = sym (table_none 30 αs (pos 0)); fit = all_none (λ l. is_within limit (αs l)) }

  pub fill_before : {j : ℕ} {v : List ℤ} → j < n → Filled r i f n j v → Before (shares_of r) (rates_of i) (amounts_of f) j v
  fill_before b s = record { few = omega (arith, years.few); is = s.is; fit = s.fit }

  module _ {j : ℕ} {v : List ℤ} {z : ℤ} (b : j < n) (s : Filled r i f n j v) (e : z ≡ αs j) where
    pub fill_turn : is_within limit z ≡ true → Filled r i f n (j + 1) (set v j z)
    unfolding alphas_of alphas_fit
    fill_turn h = record {
      upto = omega arith;
      is = rw (s.is, e) (table_more 30 j αs (pos 0) (omega (arith, years.few)));
      fit = all_more j (λ l. is_within limit (αs l)) s.fit (rw e at h);
    }

    pub fill_refuse : (left : ℤ) → is_within limit z ≡ false → record { refusal = 11; fund = pos 0 } ≡ fund_reckoned (shares_of r) (rates_of i) (amounts_of f) n left
    unfolding fund_reckoned fund_fits alphas_fit
    fill_refuse left h = rw (all_fails n (λ l. is_within limit (αs l)) j b (rw e at h))

  pub fill_end : {j : ℕ} {v : List ℤ} → n ≤ j → Filled r i f n j v → Filled r i f n n v
  fill_end {j} {v} l s = let e : j ≡ n = omega (arith, s.upto) in subst (λ (j : ℕ). Filled r i f n j v) e s

-- ---- accepted or not, the fund of an answer is within the limit
module _ (r : ℕ → ℕ) (i f : ℕ → ℤ) (N : ℕ) (left : ℤ) where
  pub fund_within : Within limit (fund_reckoned r i f N left).fund
  unfolding fund_reckoned fund_fits
  fund_within = go (both (alphas_fit r i f N) (is_within limit (fund r i N f +ℤ left))) refl
    where
      go : (b : Bool) → both (alphas_fit r i f N) (is_within limit (fund r i N f +ℤ left)) ≡ b →
          Within limit (pick {A = Reckoned} b (record { refusal = 0; fund = fund r i N f +ℤ left }) (record { refusal = 11; fund = pos 0 })).fund
      go true e = between_fact _ _ _ (both_second (alphas_fit r i f N) _ e)
      go false e = within_pos (omega arith)

-- ---- the fund: s is what the cells before place k still have invested
abbrev pub invested : (v u : List ℤ) → ℕ → ℕ → ℤ
invested v u n k = share_of (get_or v k (pos 0)) (get_or u (n - k - 1) (pos 0))

-- xs are the cells still to come, ws the weights that they have at the horizon, the last of them for the next cell
pub record Totalled (v u : List ℤ) (n : ℕ) (xs ws : List ℤ) (s : ℤ) : Type 0 where
  pub upto : length xs ≤ n
  pub long : length ws ≡ length xs
  pub cells : (i : ℕ) → i < length xs → get_or xs i (pos 0) ≡ get_or v (n - length xs + i) (pos 0)
  pub weights : (i : ℕ) → i < length xs → get_or ws i (pos 0) ≡ get_or u i (pos 0)
  pub is : s ≡ sum (n - length xs) (invested v u n)

module _ {q n : ℕ} {v u : List ℤ} (held : Invested q n v u) where
  pub total_start : length v ≡ 30 → length u ≡ 30 → Totalled v u n (take (n - (n - q)) (drop (n - q) v)) (take (n - (n - q)) u) (pos 0)
  total_start cells weights =
      let k : length (take (n - (n - q)) (drop (n - q) v)) ≡ n - (n - q) = omega (arith, length-take (n - (n - q)) (drop (n - q) v), length-drop (n - q) v, held.few) in
      let l : length (take (n - (n - q)) u) ≡ n - (n - q) = omega (arith, length-take (n - (n - q)) u, held.few) in
      let from : n - (n - (n - q)) ≡ n - q = omega arith in
      record {
        upto = omega (arith, k);
        long = l ∙ sym k;
        cells = λ i b. get_or-take (n - (n - q)) (drop (n - q) v) i (pos 0) (omega (arith, b, k)) ∙ get_or-drop (n - q) v i (pos 0) ∙ ap (λ (j : ℕ). get_or v (j + i) (pos 0)) (omega (arith, k));
        weights = λ i b. get_or-take (n - (n - q)) u i (pos 0) (omega (arith, b, k));
        is = sym (ap (λ (j : ℕ). sum (n - j) (invested v u n)) k ∙ ap (λ (j : ℕ). sum j (invested v u n)) from ∙ sum_zeros (n - q) (invested v u n) none);
      }
    where
      none : (k : ℕ) → k < n - q → invested v u n k ≡ pos 0
      none k l = rw (held.none (n - k - 1) (omega arith) (omega (arith, held.few))) (share_none (get_or v k (pos 0)))

  invested_within : (k : ℕ) → k < n → Within limit (invested v u n k)
  invested_within k l = share_within limit (get_or v k (pos 0)) (get_or u (n - k - 1) (pos 0)) (held.weights (n - k - 1) (omega (arith, held.few))) (held.cells k l)

  -- a turn: the next cell and its weight are taken
  module _ {xs ws ys : List ℤ} (us : List ℤ) {x : ℤ} (w : ℤ) {s : ℤ} (a : Totalled v u n xs ws s) (next : xs ≡ x ∷ ys) (last : ws ≡ us ++ w ∷ []) where
    abbrev done : ℕ
    done = n - length xs

    few : done < n
    few = omega (arith, ap length next, a.upto)

    x_is : x ≡ get_or v done (pos 0)
    x_is = sym (ap (λ (zs : List ℤ). get_or zs 0 (pos 0)) next) ∙ a.cells 0 (omega (arith, ap length next)) ∙ ap (λ (k : ℕ). get_or v k (pos 0)) (omega arith)

    shorter : length us ≡ length ys
    shorter = omega (arith, ap length next, ap length last, length-append us (w ∷ []), a.long)

    w_is : w ≡ get_or u (n - done - 1) (pos 0)
    w_is =
        let e : length us ≡ n - (n - length xs) - 1 = omega (arith, ap length next, shorter, a.upto) in
        sym (get_or_push us w (pos 0) (n - (n - length xs) - 1) e) ∙ sym (ap (λ (zs : List ℤ). get_or zs (n - (n - length xs) - 1) (pos 0)) last)
        ∙ a.weights (n - (n - length xs) - 1) (omega (arith, ap length next, a.upto))

    pub x_within : Within limit x
    x_within = rw x_is (held.cells done few)

    pub w_within : Within million w
    w_within = rw w_is (held.weights (n - done - 1) (omega (arith, few, held.few)))

    pub x_fits : SFits w64 x
    x_fits = within_fits (omega arith) x_within

    pub w_fits : SFits w64 w
    w_fits = within_fits (omega arith) w_within

    added : sum (done + 1) (invested v u n) ≡ s +ℤ share_of x w
    added = sym (sum_more (invested v u n) (n - length xs) a.is (ap₂ share_of x_is w_is))

    pub total_turn : Totalled v u n ys us (s +ℤ share_of x w)
    total_turn = record {
      upto = omega (arith, ap length next, a.upto);
      long = shorter;
      cells = λ i b.
          sym (ap (λ (zs : List ℤ). get_or zs (suc i) (pos 0)) next) ∙ a.cells (suc i) (omega (arith, ap length next))
          ∙ ap (λ (k : ℕ). get_or v k (pos 0)) (omega (arith, ap length next, a.upto));
      weights = λ i b.
          sym (get_or_append_left us (w ∷ []) (pos 0) i (omega (arith, shorter))) ∙ sym (ap (λ (zs : List ℤ). get_or zs i (pos 0)) last)
          ∙ a.weights i (omega (arith, ap length next));
      is = sym added ∙ ap (λ (k : ℕ). sum k (invested v u n)) (omega (arith, ap length next, a.upto));
    }

    pub total_fits : SFits w64 (s +ℤ share_of x w)
    total_fits = rw added at (within_fits {b = (done + 1) * limit} (omega (arith, few, held.few)) (sum_within (done + 1) limit (invested v u n) (λ j b. invested_within j (omega (arith, few)))))

  pub total_within : {s : ℤ} → s ≡ sum n (invested v u n) → Within (30 * limit) s
  total_within e = rw e (within_more (mul-le-mul_right limit held.few) (sum_within n limit (invested v u n) invested_within))

pub total_end : {v u : List ℤ} {n : ℕ} {xs ws : List ℤ} {s : ℤ} → Totalled v u n xs ws s → length xs ≡ 0 → s ≡ sum n (invested v u n)
total_end {v} {u} {n} a e = a.is ∙ ap (λ (k : ℕ). sum k (invested v u n)) (omega arith)

-- ---- the fund of a flow, from its cells, with what is left at the horizon: what check 11 answers of it
pub fund_refused : (r : ℕ → ℕ) (i f : ℕ → ℤ) (N : ℕ) (left : ℤ) {s : ℤ} → s ≡ fund r i N f +ℤ left → is_within limit s ≡ false → record { refusal = 11; fund = pos 0 } ≡ fund_reckoned r i f N left
unfolding fund_reckoned fund_fits
fund_refused r i f N left e h = rw (rw e at h, both_not (alphas_fit r i f N))

module _ (r : ℕ → ℕ) (i f : ℕ → ℤ) (N : ℕ) (left : ℤ) {s : ℤ} (is : s ≡ fund r i N f +ℤ left) (fit : alphas_fit r i f N ≡ true) where
  pub fund_answered : {answer : Result ℤ Refusal} → answer ≡ pick (is_within limit s) (Ok s) (Err OutOfLimit) → fund_shown answer ≡ fund_reckoned r i f N left
  unfolding fund_reckoned fund_fits
  fund_answered {answer} e = rw (e, is, fit) (go (is_within limit (fund r i N f +ℤ left)))
    where
      go : (b : Bool) → fund_shown (pick b (Ok (fund r i N f +ℤ left)) (Err OutOfLimit)) ≡
          pick {A = Reckoned} (both true b) (record { refusal = 0; fund = fund r i N f +ℤ left }) (record { refusal = 11; fund = pos 0 })
      go true = refl
      go false = refl

-- taken or not, what is shown is within the limit
pub answered_within : (s : ℤ) {answer : Result ℤ Refusal} → answer ≡ pick (is_within limit s) (Ok s) (Err OutOfLimit) → Within limit (fund_shown answer).fund
answered_within s {answer} e = rw e (go (is_within limit s) refl)
  where
    go : (b : Bool) → is_within limit s ≡ b → Within limit (fund_shown (pick b (Ok s) (Err OutOfLimit))).fund
    go true e = between_fact _ _ _ e
    go false e = within_pos (omega arith)

module _ (k : Rollover) (i f : List ℤ) {v : List ℤ} (filled : Filled k.shares i f k.horizon.years k.horizon.years v) where
  abbrev αₙ : ℕ → ℤ
  αₙ l = alpha (shares_of k.shares) (rates_of i) (amounts_of f) (2 + l)

  value_at_law : (l : ℕ) → l < k.horizon.years → get_or v l (pos 0) ≡ αₙ l
  unfolding alphas_of
  value_at_law l b = rw filled.is (table_at 30 k.horizon.years αₙ (pos 0) (pos 0) l b k.horizon.held.few)

  pub held : Invested k.terms k.horizon.years v k.weights
  unfolding alphas_fit
  held = record {
    few = k.horizon.held.few;
    cells = λ l b. rw (value_at_law l b) (between_fact _ _ (αₙ l) (all_at k.horizon.years (λ l. is_within limit (αₙ l)) l b filled.fit));
    weights = weight_within k;
    none = weight_past k;
  }

  pub total_fund : sum k.horizon.years (invested v k.weights k.horizon.years) ≡ fund (shares_of k.shares) (rates_of i) k.horizon.years (amounts_of f)
  total_fund =
      sum_cong k.horizon.years _ _ (λ l b. rw (value_at_law l b, weight_at k (k.horizon.years - l - 1) (omega (arith, k.horizon.held.few))))
      ∙ sym (fund_is (shares_of k.shares) (rates_of i) k.horizon.years (amounts_of f))

  -- the total, with what is left at the horizon
  module _ {t left : ℤ} (is : t ≡ sum k.horizon.years (invested v k.weights k.horizon.years)) (small : Within limit left) where
    pub fund_is_law : t +ℤ left ≡ fund (shares_of k.shares) (rates_of i) k.horizon.years (amounts_of f) +ℤ left
    fund_is_law = ap (λ (z : ℤ). z +ℤ left) (is ∙ total_fund)

    pub fund_fits_word : SFits w64 (t +ℤ left)
    fund_fits_word = within_fits {b = 30 * limit + limit} (omega arith) (within_add (total_within held is) small)
