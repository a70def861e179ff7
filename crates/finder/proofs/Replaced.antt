-- The plan with other shares in the place of its allocation: it is accepted, where its verdict is solvent, and what a solvent one says.
use mathlib.Core.Path.{◌≡◌, refl, sym, ap, ◌∙◌, subst}
use mathlib.Core.Bool.{Bool, true, false}
use mathlib.Core.List.{List}
use Prim.Native.Nat.{ℕ, zero, suc, ◌+◌, ◌≤◌}
use native.Mathlib.Omega.{arith}
use borrow.Author.Tests.{eqb-true, eqb-false}
use lib.Dec.{eqb}
use lib.ListN.{get_or}
use lib.IntN.{ℤ, pos, ◌+ℤ◌}
use lib.Signed.{le_z, ◌≤ℤ◌}
use Rattle.whole.specs.Range.{million}
use Rattle.whole.specs.Sum.{sum_ℕ}
use Rattle.whole.specs.Test.{pick, both, all}
use Rattle.whole.proofs.Sum.{Σℕ_from}
use Rattle.whole.proofs.Test.{both_not, all_at, all_cong}
use Rattle.whole.proofs.Entry.{entry_at}
use Rattle.plan.specs.Held.{instruments_held, outflows_held, rollover_held, patterns_held, allocation_held, opening_held, cost_held}
use Rattle.plan.specs.Numbers.{Numbers, numbers}
use Rattle.plan.specs.Refusal.{check, answer, Accepted}
use Rattle.plan.specs.declared.Plan.{Plan}
use Rattle.plan.proofs.Checks.{accepted_none}
use Rattle.patterns.specs.Pattern.{shared_of, fund_at}
use Rattle.planner.specs.Calls.{exact_fund}
use Rattle.planner.specs.Verdict.{solvent, short, close, word_of, bits_of, plan_word_of, no_verdict, row_fits, word_at, pattern_word, verdict_refusal, short_bits, plan_word, verdict_answer}
use Rattle.planner.specs.Demand3.{VerdictTrue}
use Rattle.planner.specs.Answers.{VerdictAnswer}
use Rattle.planner.proofs.Bits.{none_bits}
use Rattle.planner.proofs.Demand3.{verdict_true}
use Rattle.finder.specs.Find.{allocated, solvent_with}

-- the plan with these shares, and its numbers
abbrev pub replaced : Plan → List ℕ → Plan
replaced plan shares = record {
  years = plan.years;
  instruments = plan.instruments;
  terms = plan.terms;
  patterns = plan.patterns;
  instrument = plan.instrument;
  outflows = plan.outflows;
  rollover = plan.rollover;
  pattern = plan.pattern;
  allocation = shares;
  opening = plan.opening;
  cost = plan.cost;
}

pub replaced_numbers : (plan : Plan) (shares : List ℕ) → numbers (replaced plan shares) ≡ allocated (numbers plan) shares
unfolding instruments_held outflows_held rollover_held patterns_held allocation_held opening_held cost_held
replaced_numbers plan shares = refl

-- an accepted plan is accepted with other shares too, if they come to 1,000,000
pub accepted_with : (plan : Plan) → Accepted (numbers plan) → (shares : List ℕ) → sum_ℕ plan.instruments (λ j. get_or shares j 0) ≡ million → Accepted (allocated (numbers plan) shares)
accepted_with plan ok shares whole =
    let n = plan.instruments in
    let h = ok.head in
    record {
      head = record {
        years_some = h.years_some;
        years_few = h.years_few;
        instruments_some = h.instruments_some;
        instruments_few = h.instruments_few;
        terms_some = h.terms_some;
        terms_few = h.terms_few;
        patterns_some = h.patterns_some;
        patterns_few = h.patterns_few;
      };
      payments = ok.payments;
      outflows = ok.outflows;
      opening = ok.opening;
      cost = ok.cost;
      uncosted = ok.uncosted;
      rollover = ok.rollover;
      rollover_past = ok.rollover_past;
      until_some = ok.until_some;
      until_few = ok.until_few;
      rates = ok.rates;
      allocation = Σℕ_from 1 n n (allocated (numbers plan) shares).p _ (omega arith) (entry_at 0 n (λ j. get_or shares j 0)) ∙ whole;
    }

-- ---- where a verdict is solvent
-- a pattern's word is solvent exactly if its fund z is c or more
word_is : (z b c : ℤ) → eqb (word_of z b c) solvent ≡ le_z c z
unfolding word_of
word_is z b c = go (le_z c z) (le_z (z +ℤ b) c)
  where
    go : (y s : Bool) → eqb (pick y solvent (pick s short close)) solvent ≡ y
    go true s = refl
    go false true = refl
    go false false = refl

-- the plan's word is solvent exactly if each of m words is: then no bit of a short one is set
plan_word_is : (m : ℕ) (word : ℕ → ℕ) → eqb (plan_word_of m word (bits_of m (λ t. eqb (word t) short))) solvent ≡ all m (λ t. eqb (word t) solvent)
plan_word_is m word = go (all m (λ t. eqb (word t) solvent)) (eqb (bits_of m (λ t. eqb (word t) short)) 0) refl refl
  where
    go : (s y : Bool) → all m (λ t. eqb (word t) solvent) ≡ s → eqb (bits_of m (λ t. eqb (word t) short)) 0 ≡ y → eqb (pick y (pick s solvent close) short) solvent ≡ s
    go true true e f = refl
    go true false e f = absurd (eqb-false _ 0 f (none_bits m _ (λ t l. ap (λ (w : ℕ). eqb w short) (eqb-true (word t) solvent (all_at m _ t l e)))))
    go false true e f = refl
    go false false e f = refl

-- two tests of all, and both of each
pub all_both : (m : ℕ) (p q : ℕ → Bool) → both (all m p) (all m q) ≡ all m (λ t. both (p t) (q t))
unfolding all
all_both zero p q = refl
all_both (suc m) p q = swap (all m p) (p m) (all m q) (q m) ∙ ap (λ (b : Bool). both b (both (p m) (q m))) (all_both m p q)
  where
    swap : (a b c d : Bool) → both (both a b) (both c d) ≡ both (both a c) (both b d)
    swap true true c d = refl
    swap true false c d = sym (both_not c)
    swap false b c d = refl

-- the verdict on an accepted plan is solvent exactly if in every pattern check 11 takes the row and the fund is zero or more
module _ (P : Numbers) where
  abbrev fits_in : (t : ℕ) → Bool
  fits_in t = row_fits (shared_of P) (P.i (1 + t))

  abbrev funded_in : (t : ℕ) → Bool
  funded_in t = le_z (pos 0) (fund_at (shared_of P) (P.i (1 + t)))

  verdict_is : Accepted P → eqb (verdict_answer P).word solvent ≡ all P.patterns (λ t. both (fits_in t) (funded_in t))
  unfolding verdict_answer verdict_refusal plan_word short_bits pattern_word word_at
  verdict_is ok =
      rw (accepted_none ok) (go (all P.patterns fits_in) _)
      ∙ ap (λ (b : Bool). both (all P.patterns fits_in) b) (plan_word_is P.patterns (λ t. pattern_word P (1 + t)) ∙ all_cong P.patterns _ funded_in (λ t l. word_is _ _ (pos 0)))
      ∙ all_both P.patterns fits_in funded_in
    where
      go : (b : Bool) (v : VerdictAnswer) → eqb (answer no_verdict (check b 11 0) v).word solvent ≡ both b (eqb v.word solvent)
      go true v = refl
      go false v = refl

-- and so it is with other shares
module _ (plan : Plan) (ok : Accepted (numbers plan)) (shares : List ℕ) (whole : sum_ℕ plan.instruments (λ j. get_or shares j 0) ≡ million) where
  pub solvent_is : solvent_with (numbers plan) shares ≡ all plan.patterns (λ t.
      both (row_fits (shared_of (allocated (numbers plan) shares)) ((numbers plan).i (1 + t))) (le_z (pos 0) (fund_at (shared_of (allocated (numbers plan) shares)) ((numbers plan).i (1 + t)))))
  unfolding solvent_with
  solvent_is = verdict_is (allocated (numbers plan) shares) (accepted_with plan ok shares whole)

-- ---- what a solvent verdict says: it was not refused, and the exact fund is zero or more in every pattern
module _ (plan : Plan) (shares : List ℕ) (good : solvent_with (numbers plan) shares ≡ true) where
  abbrev P : Numbers
  P = allocated (numbers plan) shares

  good_word : (verdict_answer P).word ≡ solvent
  unfolding solvent_with
  good_word = eqb-true _ _ good

  good_accepted : (verdict_answer P).refusal ≡ 0
  unfolding verdict_answer
  good_accepted = go (verdict_refusal P) _ refl good_word
    where
      go : (number : ℕ) (v : VerdictAnswer) → v.refusal ≡ 0 → (answer no_verdict number v).word ≡ solvent → (answer no_verdict number v).refusal ≡ 0
      go zero v none e = none
      go (suc number) v none e = absurd (omega arith)

  good_exact : (t : ℕ) → 1 ≤ t → t ≤ plan.patterns → pos 0 ≤ℤ exact_fund P t
  good_exact = (subst (λ (P : Numbers). VerdictTrue P (verdict_answer P)) (replaced_numbers plan shares) (verdict_true (replaced plan shares))).plan_solvent good_accepted good_word

  pub solvent_says : ((verdict_answer P).refusal ≡ 0) × (((verdict_answer P).word ≡ solvent) × ((t : ℕ) → 1 ≤ t → t ≤ plan.patterns → pos 0 ≤ℤ exact_fund P t))
  solvent_says = (good_accepted, (good_word, good_exact))
