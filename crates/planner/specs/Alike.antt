-- A pattern that is a slope is answered as one that lists the same rates (document 02, item 2).
use Rattle.std.specs.Prelude.{◌≡◌, false, ℕ, ◌-◌, pos}
use Rattle.whole.specs.Entry.{entry}
use Rattle.plan.specs.Held.{HeldPattern, Held}
use Rattle.plan.specs.Numbers.{Numbers, rate_in, meaning}
use Rattle.plan.specs.Refusal.{refusal_of}
use Rattle.planner.specs.Calls.{fund_answer, bound_answer, form_answer, gammas_answer}
use Rattle.planner.specs.Verdict.{judgement_of, verdict_answer}

-- the list of the rates that a pattern means over N years, and what is held with every pattern as such a list
abbrev pub list_of : (N : ℕ) → HeldPattern → HeldPattern
list_of N i = record { sloped = false; rate = entry (pos 0) (N - 1) (rate_in i); start = pos 0; step = pos 0; until = 0 }

abbrev pub spelled_out : Held → Held
spelled_out H = record {
  shape = H.shape;
  instrument = H.instrument;
  outflow = H.outflow;
  rollover = H.rollover;
  pattern = λ t. list_of H.shape.years (H.pattern t);
  allocation = H.allocation;
  opening = H.opening;
  cost = H.cost;
}

-- the numbers without T, which check 13 alone looks at: two plans with the same mean the same payments, rates and so on, whatever they hold
abbrev pub meant : Numbers → Numbers
meant P = record {
  years = P.years;
  instruments = P.instruments;
  terms = P.terms;
  patterns = P.patterns;
  a = P.a;
  o = P.o;
  r = P.r;
  i = P.i;
  p = P.p;
  b = P.b;
  T = λ t. 1;
  cost = P.cost;
  costed = P.costed;
}

-- every call on a fund answers the same
pub record SameAnswers (P Q : Numbers) : Type 0 where
  pub fund : (t : ℕ) → fund_answer P t ≡ fund_answer Q t
  pub bound : (t : ℕ) → bound_answer P t ≡ bound_answer Q t
  pub form : (t : ℕ) → form_answer P t ≡ form_answer Q t
  pub gammas : (t : ℕ) → gammas_answer P t ≡ gammas_answer Q t
  pub verdict : verdict_answer P ≡ verdict_answer Q
  pub rows : judgement_of P ≡ judgement_of Q

pub record Alike (H : Held) : Type 0 where
  -- so it is with every slope spelled out as a list, unless check 13 refuses what is held
  pub listed : (refusal_of (meaning H) ≡ 13 → ⊥) → SameAnswers (meaning H) (meaning (spelled_out H))
  -- and for any other that means the same, if check 13 refuses neither
  pub others : (G : Held) → meant (meaning H) ≡ meant (meaning G) → (refusal_of (meaning H) ≡ 13 → ⊥) → (refusal_of (meaning G) ≡ 13 → ⊥)
      → SameAnswers (meaning H) (meaning G)
