-- What the refusal of a call says, the ways out of it, and that its answer is true of the exact account.
use mathlib.Core.Path.{◌≡◌, refl, sym, ap, ap₂, ◌∙◌, subst}
use mathlib.Core.Bool.{true}
use mathlib.Core.List.{List}
use Prim.Native.Nat.{ℕ, ◌+◌, ◌-◌, ◌≤◌, ◌<◌}
use native.Mathlib.Omega.{arith}
use borrow.Author.Tests.{eqb-true}
use lib.Dec.{eqb}
use lib.ListN.{length}
use lib.IntN.{ℤ, pos, zero-*ℤ}
use lib.Signed.{◌≤ℤ◌}
use Rattle.whole.specs.Range.{limit, Within}
use Rattle.whole.specs.Test.{both, is_within}
use Rattle.whole.proofs.Test.{both_first, both_second, all_at, between_fact, picked_is}
use Rattle.std.specs.Prelude.{Ok, Err}
use Rattle.refusal.specs.Number.{number_of}
use Rattle.refusal.specs.declared.Refusal.{Refusal}
use Rattle.refusal.specs.declared.Refusal.TheVariants.{OutOfLimit}
use Rattle.whole.proofs.Answer.{answered_ok, answered_err}
use Rattle.reckoning.specs.Arrays.{rates_of}
use Rattle.reckoning.proofs.Theorem.{flow_floors}
use Rattle.plan.specs.Held.{held}
use Rattle.plan.specs.Numbers.{Numbers, numbers}
use Rattle.plan.specs.Refusal.{answer, head_refusal, refusal_with}
use Rattle.plan.specs.declared.Plan.{Plan}
use Rattle.plan.proofs.Checks.{check_true, first_some, first_none, first_next, not_refused, answer_refused, answer_accepted, head_passed, lists_pass}
use Rattle.plan.proofs.Number.{number_some}
use Rattle.patterns.specs.Pattern.{shared_of, flow_of, exact_flow_of}
use Rattle.planner.specs.Verdict.{word_of}
use Rattle.planner.proofs.VerdictLaws.{word_solvent, word_short}
use Rattle.cash.specs.Answers.{CashAnswer}
use Rattle.cash.specs.Account.{account, h, g}
use Rattle.cash.specs.Theorem.{Below, NearEveryYear, exact_account, bound_of, CashTrue}
use Rattle.cash.specs.Call.{
  no_cash,
  lengths_refusal,
  list_ok,
  lists_refusal,
  accounts_fit,
  cash_reckoned,
  shape_refusal,
  numbers_refusal,
  cash_at,
  cash_answer,
}
use Rattle.cash.specs.Arrays.{account_reckoned}
use Rattle.cash.specs.Alike.{CashAlike}
use Rattle.cash.specs.Uncosted.{CashUncosted}
use Rattle.cash.proofs.Alike.{cash_alike}
use Rattle.cash.proofs.Uncosted.{cash_uncosted}
use Rattle.cash.proofs.Theorem.{near_every_year, exactly_solvent, exactly_short}

-- ---- check 3 and the 5 of the lists have passed
module _ (P : Numbers) (lending borrowing : List ℤ) (e : shape_refusal P lending borrowing ≡ 0) where
  pub head_none : head_refusal P ≡ 0
  unfolding shape_refusal
  head_none = first_none (head_refusal P) _ e

  both_long : both (eqb (length lending) (P.years - 1)) (eqb (length borrowing) (P.years - 1)) ≡ true
  unfolding shape_refusal lengths_refusal
  both_long = check_true _ 5 0 (omega arith) (first_next (head_refusal P) _ e)

  pub lending_long : length lending ≡ P.years - 1
  lending_long = eqb-true _ _ (both_first _ _ both_long)

  pub borrowing_long : length borrowing ≡ P.years - 1
  borrowing_long = eqb-true _ _ (both_second (eqb (length lending) (P.years - 1)) _ both_long)

-- ---- the checks on numbers have passed
module _ (P : Numbers) (lending borrowing : ℕ → ℤ) (e : numbers_refusal P lending borrowing ≡ 0) where
  both_ok : both (list_ok P.years lending) (list_ok P.years borrowing) ≡ true
  unfolding numbers_refusal lists_refusal
  both_ok = check_true _ 8 _ (omega arith) (lists_pass P _ e)

  pub lending_ok : list_ok P.years lending ≡ true
  lending_ok = both_first _ _ both_ok

  pub borrowing_ok : list_ok P.years borrowing ≡ true
  borrowing_ok = both_second (list_ok P.years lending) _ both_ok

-- ---- the ways out of the call
module _ (P : Numbers) (lending borrowing : List ℤ) where
  pub head_refused : (e : Refusal) → number_of e ≡ head_refusal P → no_cash (number_of e) ≡ cash_answer P lending borrowing
  unfolding cash_answer shape_refusal
  head_refused e h =
      let some = number_some e in
      sym (answer_refused no_cash (number_of e) (cash_at P (rates_of lending) (rates_of borrowing)) some)
      ∙ ap (λ (n : ℕ). answer no_cash n (cash_at P (rates_of lending) (rates_of borrowing))) (h ∙ sym (first_some (head_refusal P) _ (λ z. some (h ∙ z))))

  module _ (head : 0 ≡ head_refusal P) where
    pub lengths_refused : (e : Refusal) → number_of e ≡ lengths_refusal P.years lending borrowing → no_cash (number_of e) ≡ cash_answer P lending borrowing
    unfolding cash_answer shape_refusal
    lengths_refused e h =
        sym (answer_refused no_cash (number_of e) (cash_at P (rates_of lending) (rates_of borrowing)) (number_some e))
        ∙ ap (λ (n : ℕ). answer no_cash n (cash_at P (rates_of lending) (rates_of borrowing))) (rw (← head) h)

    module _ (lengths : 0 ≡ lengths_refusal P.years lending borrowing) where
      shape_passed : shape_refusal P lending borrowing ≡ 0
      unfolding shape_refusal
      shape_passed = rw (← head, ← lengths) refl

      pub lists_long : (length lending ≡ P.years - 1) × (length borrowing ≡ P.years - 1)
      lists_long = (lending_long P lending borrowing shape_passed, borrowing_long P lending borrowing shape_passed)

      -- what check 8 and 14 say of the lists
      pub lists_said : {n : ℕ} → n ≡ lists_refusal (length lending + 1) (rates_of lending) (rates_of borrowing) → 1 ≤ P.years → n ≡ lists_refusal P.years (rates_of lending) (rates_of borrowing)
      lists_said h some =
          let e : length lending + 1 ≡ P.years = omega (arith, lending_long P lending borrowing shape_passed) in
          h ∙ ap (λ (n : ℕ). lists_refusal n (rates_of lending) (rates_of borrowing)) e

      module _ {n : ℕ} (lists : n ≡ lists_refusal P.years (rates_of lending) (rates_of borrowing)) where
        pub numbers_refused : (e : Refusal) → number_of e ≡ refusal_with P n → no_cash (number_of e) ≡ cash_answer P lending borrowing
        unfolding cash_answer cash_at numbers_refusal
        numbers_refused e h =
            sym (answer_refused no_cash (number_of e) (cash_reckoned (rates_of lending) (rates_of borrowing) (flow_of (shared_of P)) P.years) (number_some e))
            ∙ ap (λ (n : ℕ). answer no_cash n (cash_reckoned (rates_of lending) (rates_of borrowing) (flow_of (shared_of P)) P.years)) (h ∙ ap (refusal_with P) lists)
            ∙ sym (answer_accepted no_cash (shape_refusal P lending borrowing) _ shape_passed)

        module _ (none : 0 ≡ refusal_with P n) where
          numbers_passed : numbers_refusal P (rates_of lending) (rates_of borrowing) ≡ 0
          unfolding numbers_refusal
          numbers_passed = sym (none ∙ ap (refusal_with P) lists)

          pub numbers_accepted : cash_reckoned (rates_of lending) (rates_of borrowing) (flow_of (shared_of P)) P.years ≡ cash_answer P lending borrowing
          unfolding cash_answer cash_at
          numbers_accepted = sym (answer_accepted no_cash (numbers_refusal P (rates_of lending) (rates_of borrowing)) _ numbers_passed) ∙ sym (answer_accepted no_cash (shape_refusal P lending borrowing) _ shape_passed)

          -- and the lists can be taken
          pub lending_taken : 1 ≤ P.years → list_ok (length lending + 1) (rates_of lending) ≡ true
          lending_taken some =
              let e : P.years ≡ length lending + 1 = omega (arith, lending_long P lending borrowing shape_passed) in
              ap (λ (n : ℕ). list_ok n (rates_of lending)) (sym e) ∙ lending_ok P (rates_of lending) (rates_of borrowing) numbers_passed

          pub borrowing_taken : 1 ≤ P.years → list_ok (length borrowing + 1) (rates_of borrowing) ≡ true
          borrowing_taken some =
              let e : P.years ≡ length borrowing + 1 = omega (arith, borrowing_long P lending borrowing shape_passed) in
              ap (λ (n : ℕ). list_ok n (rates_of borrowing)) (sym e) ∙ borrowing_ok P (rates_of lending) (rates_of borrowing) numbers_passed

-- a rate that check 8 takes is not below zero
list_nonneg : (N : ℕ) (rates : ℕ → ℤ) → list_ok N rates ≡ true → (l : ℕ) → l < N - 1 → pos 0 ≤ℤ rates (2 + l)
unfolding list_ok
list_nonneg N rates ok l b = (between_fact _ _ (rates (2 + l)) (all_at (N - 1) _ l b ok)).low

-- ---- what the account makes of the call's answer
module _ (lending borrowing f : ℕ → ℤ) (N : ℕ) where
  pub reckoned_refused : (e : Refusal) → Err e ≡ account_reckoned lending borrowing f N → no_cash (number_of e) ≡ cash_reckoned lending borrowing f N
  unfolding account_reckoned cash_reckoned
  reckoned_refused e h = let a = answered_err (account lending borrowing f N) e OutOfLimit (accounts_fit lending borrowing f N) h in rw (a.0, a.1) refl

  pub reckoned_within : 1 ≤ N → {v : ℤ} → Ok v ≡ account_reckoned lending borrowing f N → Within limit v
  unfolding account_reckoned accounts_fit
  reckoned_within some {v} e =
      let a = answered_ok (account lending borrowing f N) v OutOfLimit (accounts_fit lending borrowing f N) e in
      let last : 1 + (N - 1) ≡ N = omega arith in
      rw a.1 (between_fact _ _ (account lending borrowing f N) (rw last at (all_at N (λ t. is_within limit (account lending borrowing f (1 + t))) (N - 1) (omega arith) a.0)))

  pub reckoned_accepted : {v b : ℤ} {w : ℕ} → Ok v ≡ account_reckoned lending borrowing f N → b ≡ pos (g (h lending borrowing N) N) → w ≡ word_of v b (pos 0)
      → record { refusal = 0; account = v; bound = b; word = w } ≡ cash_reckoned lending borrowing f N
  unfolding account_reckoned cash_reckoned
  reckoned_accepted {v} {b} {w} e p q = let a = answered_ok (account lending borrowing f N) v OutOfLimit (accounts_fit lending borrowing f N) e in rw (a.0, q, p, a.1) refl

-- of equal rates, flows and years
pub reckoned_same : {l m b c f g : ℕ → ℤ} {N M : ℕ} → l ≡ m → b ≡ c → f ≡ g → N ≡ M → cash_reckoned l b f N ≡ cash_reckoned m c g M
reckoned_same {l} {m} {b} {c} {f} {g} {N} {M} p q r s = ap₂ (λ (l b : ℕ → ℤ). cash_reckoned l b f N) p q ∙ ap₂ (cash_reckoned m c) r s

-- ---- the answer, and the exact account
module _ (P : Numbers) (lending borrowing : List ℤ) where
  abbrev l : ℕ → ℤ
  l = rates_of lending

  abbrev b : ℕ → ℤ
  b = rates_of borrowing

  abbrev f : ℕ → ℤ
  f = flow_of (shared_of P)

  -- an answer that is not refused
  module _ (e : (cash_answer P lending borrowing).refusal ≡ 0) where
    shape_none : shape_refusal P lending borrowing ≡ 0
    unfolding cash_answer
    shape_none = not_refused no_cash _ (λ (s : CashAnswer). s.refusal) (λ n. refl) _ e

    is_at : cash_answer P lending borrowing ≡ cash_at P l b
    unfolding cash_answer
    is_at = answer_accepted no_cash _ _ shape_none

    numbers_none : numbers_refusal P l b ≡ 0
    unfolding cash_at
    numbers_none = not_refused no_cash _ (λ (s : CashAnswer). s.refusal) (λ n. refl) _ (ap (λ (s : CashAnswer). s.refusal) (sym is_at) ∙ e)

    is_reckoned : cash_answer P lending borrowing ≡ cash_reckoned l b f P.years
    unfolding cash_at
    is_reckoned = is_at ∙ answer_accepted no_cash _ _ numbers_none

    is_account : cash_answer P lending borrowing ≡ record { refusal = 0; account = account l b f P.years; bound = pos (bound_of P lending borrowing); word = word_of (account l b f P.years) (pos (bound_of P lending borrowing)) (pos 0) }
    unfolding cash_reckoned bound_of
    is_account = picked_is (λ (s : CashAnswer). s.refusal) _ _ refl (λ z. omega arith) (accounts_fit l b f P.years) _ is_reckoned e

    account_below : Below P.years (exact_account P lending borrowing) (account l b f P.years) (bound_of P lending borrowing)
    unfolding exact_account bound_of flow_of exact_flow_of
    account_below =
        near_every_year.near l b P.years (head_passed P (head_none P lending borrowing shape_none)).years_some
        (list_nonneg P.years l (lending_ok P l b numbers_none)) (list_nonneg P.years b (borrowing_ok P l b numbers_none))
        _ _ (flow_floors P.instruments P.a (shared_of P).constant_flow P.p)

    -- its word
    word_is : (cash_answer P lending borrowing).word ≡ word_of (account l b f P.years) (pos (bound_of P lending borrowing)) (pos 0)
    word_is = ap (λ (s : CashAnswer). s.word) is_account

  pub cash_true : CashTrue P lending borrowing (cash_answer P lending borrowing)
  cash_true = record {
    near = λ e. subst (λ (v : ℤ). Below P.years (exact_account P lending borrowing) v (bound_of P lending borrowing)) (sym (ap (λ (s : CashAnswer). s.account) (is_account e))) (account_below e);
    bound = λ e. ap (λ (s : CashAnswer). s.bound) (is_account e);
    is_solvent = λ e w. rw zero-*ℤ at (exactly_solvent {c = pos 0} (account_below e) (word_solvent _ _ _ (sym (word_is e) ∙ w)));
    is_short = λ e w. rw zero-*ℤ at (exactly_short {c = pos 0} (account_below e) (word_short _ _ _ (sym (word_is e) ∙ w)));
  }

-- what is answered for a plan, with all that is claimed of it
module _ (plan : Plan) (lending borrowing : List ℤ) where
  pub cash_answered : {s : CashAnswer} → s ≡ cash_answer (numbers plan) lending borrowing
      → (s ≡ cash_answer (numbers plan) lending borrowing)
      × (CashTrue (numbers plan) lending borrowing s × (NearEveryYear × (CashAlike (held plan) lending borrowing × CashUncosted (numbers plan) lending borrowing)))
  cash_answered e = (e, (subst (CashTrue (numbers plan) lending borrowing) (sym e) (cash_true (numbers plan) lending borrowing), (near_every_year, (cash_alike lending borrowing (held plan), cash_uncosted (numbers plan) lending borrowing))))
