-- The account from one year to the next, as the code reckons it: what a year adds up to, and the loop over the years.
use mathlib.Core.Path.{◌≡◌, sym, ap, ◌∙◌}
use mathlib.Core.Bool.{Bool, true, false}
use mathlib.Core.List.{List}
use Prim.Native.Nat.{ℕ, zero, suc, ◌+◌, ◌-◌, ◌≤◌, ◌<◌}
use native.Mathlib.Numerals.{add-one}
use native.Mathlib.Omega.{arith}
use lib.ListN.{length, get_or, drop}
use lib.IntN.{ℤ, pos, ◌+ℤ◌}
use lib.Signed.{le_z}
use Rattle.std.specs.Prelude.{Ok, Err, slice_range, zip}
use Rattle.std.proofs.lemmas.List.{length-take-le, length-drop, get_or-take, get_or-drop, get_or_default}
use Rattle.std.proofs.lemmas.Slice.Zip.{length-zip, get_or-zip}
use Rattle.refusal.specs.declared.Refusal.TheVariants.{OutOfLimit}
use Rattle.whole.specs.Range.{million, limit, Within}
use Rattle.whole.specs.Floor.{share_of}
use Rattle.whole.specs.Test.{pick, is_within}
use Rattle.whole.proofs.Range.{within_add}
use Rattle.whole.proofs.Floor.{share_within}
use Rattle.whole.proofs.Test.{all_none, all_more, all_fails, all_at, between_fact, between_yes}
use Rattle.reckoning.specs.Arrays.{rates_of, amounts_of, Years, Amounts}
use Rattle.reckoning.proofs.Pattern.{rate_at, amount_at}
use Rattle.cash.specs.Account.{rate_for, next, account}
use Rattle.cash.specs.Call.{accounts_fit}
use Rattle.cash.specs.Arrays.{account_reckoned}

-- ---- a year that begins with v
module _ (l b v f : ℤ) (lw : Within million l) (bw : Within million b) (vw : Within limit v) (fw : Within limit f) where
  pub rate_within : Within million (rate_for l b v)
  unfolding rate_for
  rate_within = go (le_z (pos 0) v)
    where
      go : (c : Bool) → Within million (pick c l b)
      go true = lw
      go false = bw

  pub interest_within : Within (limit + limit) (v +ℤ share_of v (rate_for l b v))
  interest_within = within_add vw (share_within limit v (rate_for l b v) rate_within vw)

  pub next_within : Within (limit + limit + limit) (next l b v f)
  unfolding next
  next_within = within_add interest_within fw

-- ---- the loop: v is V(t), and check 11 takes V(1) to V(t)
pub record Running (flow lending borrowing : List ℤ) (n : ℕ) (v : ℤ) (t : ℕ) : Type 0 where
  pub from : 1 ≤ t
  pub upto : t ≤ n
  pub is : v ≡ account (rates_of lending) (rates_of borrowing) (amounts_of flow) t
  pub fit : accounts_fit (rates_of lending) (rates_of borrowing) (amounts_of flow) t ≡ true

account_next : (lending borrowing f : ℕ → ℤ) (t : ℕ) → 1 ≤ t →
    account lending borrowing f (t + 1) ≡ next (lending (t + 1)) (borrowing (t + 1)) (account lending borrowing f t) (f (t + 1))
unfolding account
account_next lending borrowing f zero some = absurd (omega arith)
account_next lending borrowing f (suc t) some = rw (add-one (suc t))

module _ (flow lending borrowing : List ℤ) (n : ℕ) where
  abbrev balance : ℕ → ℤ
  balance = account (rates_of lending) (rates_of borrowing) (amounts_of flow)

  pub run_start : Amounts flow → Years n → Running flow lending borrowing n (get_or flow 0 (pos 0)) 1
  unfolding account accounts_fit
  run_start amounts y = record {
    from = omega arith;
    upto = y.some;
    is = sym (amount_at flow 0);
    fit = all_more 0 (λ t. is_within limit (balance (1 + t))) (all_none _) (between_yes _ _ (amounts_of flow 1) (rw (amount_at flow 0) (amounts.amount 0 (omega arith))));
  }

  module _ {v : ℤ} {t : ℕ} (s : Running flow lending borrowing n v t) where
    pub run_within : Within limit v
    unfolding accounts_fit
    run_within =
        let e : 1 + (t - 1) ≡ t = omega (arith, s.from) in
        rw s.is (between_fact _ _ (balance t) (rw e at (all_at t (λ t. is_within limit (balance (1 + t))) (t - 1) (omega (arith, s.from)) s.fit)))

    -- a year
    module _ (b : t < n) {z : ℤ} (e : z ≡ next (get_or lending (t - 1) (pos 0)) (get_or borrowing (t - 1) (pos 0)) v (get_or flow t (pos 0))) where
      run_next : z ≡ balance (1 + t)
      run_next =
          let k : t + 1 ≡ 2 + (t - 1) = omega (arith, s.from) in
          let m : t + 1 ≡ 1 + t = omega arith in
          let year : balance (t + 1) ≡ next (rates_of lending (t + 1)) (rates_of borrowing (t + 1)) (balance t) (amounts_of flow (t + 1)) = account_next (rates_of lending) (rates_of borrowing) (amounts_of flow) t s.from in
          let l : rates_of lending (t + 1) ≡ get_or lending (t - 1) (pos 0) = ap (rates_of lending) k ∙ rate_at lending (t - 1) in
          let c : rates_of borrowing (t + 1) ≡ get_or borrowing (t - 1) (pos 0) = ap (rates_of borrowing) k ∙ rate_at borrowing (t - 1) in
          let f : amounts_of flow (t + 1) ≡ get_or flow t (pos 0) = ap (amounts_of flow) m ∙ amount_at flow t in
          e ∙ ap (λ (v : ℤ). next (get_or lending (t - 1) (pos 0)) (get_or borrowing (t - 1) (pos 0)) v (get_or flow t (pos 0))) s.is
          ∙ sym (year ∙ rw (l, c, f)) ∙ ap balance m

      pub run_turn : is_within limit z ≡ true → Running flow lending borrowing n z (t + 1)
      unfolding accounts_fit
      run_turn h =
          let m : 1 + t ≡ t + 1 = omega arith in
          record {
            from = omega arith;
            upto = omega arith;
            is = run_next ∙ ap balance m;
            fit = all_more t (λ t. is_within limit (balance (1 + t))) s.fit (ap (is_within limit) (sym run_next) ∙ h);
          }

      pub run_refuse : is_within limit z ≡ false → Err OutOfLimit ≡ account_reckoned (rates_of lending) (rates_of borrowing) (amounts_of flow) n
      unfolding account_reckoned accounts_fit
      run_refuse h = rw (all_fails n (λ t. is_within limit (balance (1 + t))) t b (ap (is_within limit) (sym run_next) ∙ h))

    pub run_end : n ≤ t → Ok v ≡ account_reckoned (rates_of lending) (rates_of borrowing) (amounts_of flow) n
    unfolding account_reckoned
    run_end b =
        let e : t ≡ n = omega (arith, s.upto) in
        let fits : accounts_fit (rates_of lending) (rates_of borrowing) (amounts_of flow) n ≡ true = ap (accounts_fit (rates_of lending) (rates_of borrowing) (amounts_of flow)) (sym e) ∙ s.fit in
        let is : v ≡ balance n = s.is ∙ ap balance e in
        rw (fits, is)

-- ---- the later years of a flow, each with its two rates
abbrev pub later : List ℤ → (n : ℕ) → List ℤ
later flow n = slice_range flow 1 n

later_long : (flow : List ℤ) (n : ℕ) → n ≤ length flow → length (later flow n) ≡ n - 1
later_long flow n few = length-take-le (n - 1) (drop 1 flow) (omega (arith, length-drop 1 flow))

abbrev pub years_of : (flow lending borrowing : List ℤ) (n : ℕ) → List ((ℤ × ℤ) × ℤ)
years_of flow lending borrowing n = zip (zip (later flow n) lending) borrowing

module _ (flow lending borrowing : List ℤ) (n : ℕ) (f : n ≤ length flow) (l : n ≤ length lending) (b : n ≤ length borrowing) where
  pairs_long : length (zip (later flow n) lending) ≡ n - 1
  pairs_long = length-zip (later flow n) lending ∙ omega (arith, later_long flow n f)

  pub years_long : length (years_of flow lending borrowing n) ≡ n - 1
  years_long = length-zip (zip (later flow n) lending) borrowing ∙ omega (arith, pairs_long)

  pub year_at : (k : ℕ) (y : (ℤ × ℤ) × ℤ) → k < n - 1 → y ≡ get_or (years_of flow lending borrowing n) k y
      → (y.0.0 ≡ get_or flow (k + 1) (pos 0)) × (y.0.1 ≡ get_or lending k (pos 0)) × (y.1 ≡ get_or borrowing k (pos 0))
  year_at k y h e =
      let long = later_long flow n f in
      let p = pairs_long in
      let all = e ∙ get_or-zip (zip (later flow n) lending) borrowing k y (omega arith) (omega arith) in
      let pair = get_or-zip (later flow n) lending k y.0 (omega arith) (omega arith) in
      let j : 1 + k ≡ k + 1 = omega arith in (
        ap (λ (y : (ℤ × ℤ) × ℤ). y.0.0) all ∙ ap (λ (p : ℤ × ℤ). p.0) pair ∙ get_or_default (later flow n) k y.0.0 (pos 0) (omega arith)
            ∙ get_or-take (n - 1) (drop 1 flow) k (pos 0) h ∙ get_or-drop 1 flow k (pos 0) ∙ ap (λ (i : ℕ). get_or flow i (pos 0)) j,
        ap (λ (y : (ℤ × ℤ) × ℤ). y.0.1) all ∙ ap (λ (p : ℤ × ℤ). p.1) pair ∙ get_or_default lending k y.0.1 (pos 0) (omega arith),
        ap (λ (y : (ℤ × ℤ) × ℤ). y.1) all ∙ get_or_default borrowing k y.1 (pos 0) (omega arith),
      )
