-- What the refusal of the call says, the ways out of it, and that its answer is true of every allocation on the grid.
use mathlib.Core.Path.{◌≡◌, refl, ap, ◌∙◌, sym, subst, fun_ext}
use mathlib.Core.Bool.{Bool, true, false}
use mathlib.Core.List.{List, []}
use Prim.Native.Nat.{ℕ, zero, suc, ◌+◌, ◌-◌, ◌*◌, ◌/◌, ◌≤◌, ◌<◌}
use native.Mathlib.Omega.{arith}
use borrow.Author.Tests.{le-leb, lt-leb, eq-eqb}
use lib.Dec.{eqb, leb}
use lib.ListN.{get_or, replicate, length-replicate}
use Rattle.std.specs.Prelude.{Some, None, Ok}
use Rattle.refusal.specs.Number.{number_of}
use Rattle.refusal.specs.declared.Refusal.{Refusal}
use Rattle.whole.specs.Range.{million}
use Rattle.whole.specs.Sum.{sum_ℕ}
use Rattle.whole.specs.Test.{pick, both}
use Rattle.whole.proofs.Test.{false_true, both_first, both_not}
use Rattle.whole.proofs.Sum.{sum_ℕ_none, sum_ℕ_cong}
use Rattle.whole.proofs.Entry.{entry_cong}
use Rattle.plan.specs.Held.{held}
use Rattle.plan.specs.Numbers.{Numbers, numbers}
use Rattle.plan.specs.Refusal.{check, first_of, answer, head_ok, amounts_ok, rollover_ok, untils_ok, rates_ok, allocation_ok, head_refusal, amounts_refusal, rates_refusal, allocation_refusal, refusal_of, Accepted}
use Rattle.plan.specs.declared.Plan.{Plan}
use Rattle.plan.proofs.Checks.{check_true, first_some, first_none, first_next, not_refused, answer_refused, answer_accepted, accepted, accepted_none}
use Rattle.plan.proofs.Number.{number_some}
use Rattle.planner.specs.Verdict.{solvent, verdict_answer}
use Rattle.finder.specs.Answers.{FindAnswer}
use Rattle.finder.specs.Grid.{OnGrid, allocations}
use Rattle.finder.specs.Find.{not_found, with_allocation, allocated, solvent_with, first_that, is_among, parts_taken, find_refusal, find_answer}
use Rattle.finder.specs.Claims.{Found, FindTrue}
use Rattle.finder.specs.Alike.{FindAlike}
use Rattle.finder.specs.Search.{split_shown}
use Rattle.finder.specs.Shown.{find_shown}
use Rattle.finder.specs.declared.splits.Split.{Split}
use Rattle.finder.specs.Lines.{wide_of}
use Rattle.finder.specs.Placing.{Placing, placements}
use Rattle.finder.proofs.Parts.{Parts, parts_have}
use Rattle.finder.proofs.Grid.{Each, OfList, each_unmap, allocations_each, grid_stands, grid_same}
use Rattle.finder.proofs.Order.{wide_at, placements_all}
use Rattle.finder.proofs.First.{hit, first_map, found_stands, found_passes, none_passes, none_zeros, first_accepted, first_cong}
use Rattle.finder.proofs.Replaced.{solvent_says}
use Rattle.finder.proofs.Alike.{find_alike}

-- ---- the ways out of the call
module _ (P : Numbers) (D : ℕ) where
  pub find_refused : (e : Refusal) → number_of e ≡ refusal_of P → not_found (number_of e) ≡ find_answer P D
  unfolding find_answer find_refusal
  find_refused e h =
      let some = number_some e in
      sym (answer_refused not_found (number_of e) (first_that (solvent_with P) (allocations P.instruments D)) some)
      ∙ ap (λ (n : ℕ). answer not_found n (first_that (solvent_with P) (allocations P.instruments D))) (h ∙ sym (first_some (refusal_of P) _ (λ z. some (h ∙ z))))

  module _ (ok : Accepted P) where
    -- check 15 refuses the number of parts, or that of the instruments
    parts_refused : both (is_among parts_taken D) (leb P.instruments 4) ≡ false → not_found 15 ≡ find_answer P D
    unfolding find_answer find_refusal
    parts_refused e = rw (accepted_none ok, e) refl

    pub find_uneven : is_among parts_taken D ≡ false → not_found 15 ≡ find_answer P D
    find_uneven e = parts_refused (rw e refl)

    pub find_crowded : 4 < P.instruments → not_found 15 ≡ find_answer P D
    find_crowded h = parts_refused (rw (lt-leb P.instruments 4 h) (both_not (is_among parts_taken D)))

    pub find_searched : is_among parts_taken D ≡ true → P.instruments ≤ 4 → first_that (solvent_with P) (allocations P.instruments D) ≡ find_answer P D
    unfolding find_answer find_refusal
    find_searched taken few = rw (accepted_none ok, taken, le-leb P.instruments 4 few) refl

replicate_none : (n j : ℕ) → get_or {A = ℕ} (replicate n 0) j 0 ≡ 0
replicate_none zero j = refl
replicate_none (suc n) zero = refl
replicate_none (suc n) (suc j) = replicate_none n j

-- ---- the search goes through all allocations, with a test that agrees with the verdict on each of them
module _ (P : Numbers) (D : ℕ) (ok : Accepted P) (taken : is_among parts_taken D ≡ true) where
  pub search_start : Placing P.instruments (replicate 4 0) 0 (P.instruments - 1) D (million / D)
  search_start = record {
    places = omega (arith, ok.head.instruments_some);
    array = length-replicate {A = ℕ} 4 0;
    few = (parts_have D taken).few;
    behind = λ j l. replicate_none 4 j;
    whole = ap (λ (k : ℕ). k + D * (million / D)) (sum_ℕ_none (λ j. get_or (replicate 4 0) j 0)) ∙ omega (arith, (parts_have D taken).exact);
  }

  module _ (few : P.instruments ≤ 4) (test : List ℕ → Bool) (same : (shares : List ℕ) → sum_ℕ P.instruments (λ j. get_or shares j 0) ≡ million → test shares ≡ solvent_with P (wide_of shares)) where
    some : 1 ≤ P.instruments
    some = ok.head.instruments_some

    many : P.instruments ≤ 16
    many = ok.head.instruments_few

    even : Parts D
    even = parts_have D taken

    abbrev placed : List (List ℕ)
    placed = placements (million / D) (replicate 4 0) 0 (P.instruments - 1) D

    abbrev all : FindAnswer
    all = first_that (solvent_with P) (allocations P.instruments D)

    -- each of them comes to 1,000,000
    placed_whole : Each (λ p. sum_ℕ P.instruments (λ j. get_or p j 0) ≡ million) placed
    placed_whole k l =
        let n = P.instruments in
        let p = get_or placed k [] in
        let listed = each_unmap (OfList n D some many even) wide_of placed
        (subst (Each (OfList n D some many even)) (sym (placements_all n D some few)) (allocations_each n D some many even)) k l in
        sum_ℕ_cong n _ _ (λ j b. wide_at p j (omega arith)) ∙ listed.on_grid.whole

    search_map : all ≡ (let a = first_that test placed in pick a.found (hit (wide_of a.shares)) (not_found 0))
    search_map =
        ap (first_that (solvent_with P)) (sym (placements_all P.instruments D ok.head.instruments_some few))
        ∙ first_map (solvent_with P) wide_of placed
        ∙ ap (λ (a : FindAnswer). pick a.found (hit (wide_of a.shares)) (not_found 0))
        (first_cong (λ p. solvent_with P (wide_of p)) test placed (λ k l. sym (same (get_or placed k []) (placed_whole k l))))

    pub search_none : split_shown None ≡ first_that test placed → find_shown (Ok None) ≡ all
    search_none tells = sym (search_map ∙ rw (← tells) refl)

    pub search_found : (s : Split) → split_shown (Some s) ≡ first_that test placed → {w : List ℕ} → w ≡ wide_of s.shares → find_shown (Ok (Some w)) ≡ all
    search_found s tells e = ap hit e ∙ sym (search_map ∙ rw (← tells) refl)

-- ---- what stands past n plays no part
solvent_cong : (P : Numbers) (a b : List ℕ) → ((j : ℕ) → j < P.instruments → get_or a j 0 ≡ get_or b j 0) → solvent_with P a ≡ solvent_with P b
unfolding solvent_with
solvent_cong P a b h =
    ap (λ (p : ℕ → ℕ). eqb (verdict_answer (with_allocation P p)).word solvent)
    (fun_ext (entry_cong 0 P.instruments (λ j. get_or a j 0) (λ j. get_or b j 0) h))

solvent_yes : (P : Numbers) (shares : List ℕ) → (verdict_answer (allocated P shares)).word ≡ solvent → solvent_with P shares ≡ true
unfolding solvent_with
solvent_yes P shares e = eq-eqb _ solvent e

-- ---- no check of the call has the number 11
refusals_11 : (head amounts rollover untils rates allocation : Bool)
    → first_of (check head 3 0) (first_of (check amounts 6 (check rollover 7 0)) (first_of (check untils 13 (check rates 8 0)) (check allocation 9 0))) ≡ 11 → ⊥
refusals_11 false amounts rollover untils rates allocation e = omega arith
refusals_11 true false rollover untils rates allocation e = omega arith
refusals_11 true true false untils rates allocation e = omega arith
refusals_11 true true true false rates allocation e = omega arith
refusals_11 true true true true false allocation e = omega arith
refusals_11 true true true true true false e = omega arith
refusals_11 true true true true true true e = omega arith

pub plan_11 : (P : Numbers) → refusal_of P ≡ 11 → ⊥
unfolding refusal_of head_refusal amounts_refusal rates_refusal allocation_refusal
plan_11 P = refusals_11 (head_ok P) (amounts_ok P) (rollover_ok P) (untils_ok P) (rates_ok P) (allocation_ok P)

pub find_11 : (P : Numbers) (D : ℕ) → (find_answer P D).refusal ≡ 11 → ⊥
unfolding find_answer find_refusal
find_11 P D = go (refusal_of P) (plan_11 P) (both (is_among parts_taken D) (leb P.instruments 4))
  where
    go : (number : ℕ) → (number ≡ 11 → ⊥) → (parts : Bool) → (answer not_found (first_of number (check parts 15 0)) (first_that (solvent_with P) (allocations P.instruments D))).refusal ≡ 11 → ⊥
    go zero h true e = let f = first_accepted (solvent_with P) (allocations P.instruments D) in omega arith
    go zero h false e = omega arith
    go (suc number) h parts e = h e

-- ---- an answer that is not refused
module _ (plan : Plan) (D : ℕ) where
  abbrev P : Numbers
  P = numbers plan

  abbrev n : ℕ
  n = plan.instruments

  module _ (e : (find_answer P D).refusal ≡ 0) where
    called : find_refusal P D ≡ 0
    unfolding find_answer
    called = not_refused not_found _ (λ (s : FindAnswer). s.refusal) (λ n. refl) _ e

    ok : Accepted P
    unfolding find_refusal
    ok = accepted plan (first_none (refusal_of P) _ called)

    parts : Parts D
    unfolding find_refusal
    parts = parts_have D (both_first _ _ (check_true _ 15 0 (omega arith) (first_next (refusal_of P) _ called)))

    is_first : find_answer P D ≡ first_that (solvent_with P) (allocations n D)
    unfolding find_answer
    is_first = answer_accepted not_found (find_refusal P D) _ called

    -- is of the list, and solvent
    found : (first_that (solvent_with P) (allocations n D)).found ≡ true → Found P D (first_that (solvent_with P) (allocations n D)).shares
    found f =
        let s = found_stands (solvent_with P) (allocations n D) f in
        let listed = subst (OfList n D ok.head.instruments_some ok.head.instruments_few parts) s.is
        (allocations_each n D ok.head.instruments_some ok.head.instruments_few parts s.place s.below) in
        let says = solvent_says plan _ (found_passes (solvent_with P) (allocations n D) f) in
        record { on_grid = listed.on_grid; past = listed.past; accepted = says.0; is_solvent = says.1.0; exact = says.1.1 }

    none : (first_that (solvent_with P) (allocations n D)).found ≡ false → (shares : List ℕ) → OnGrid n D shares → solvent_with P shares ≡ false
    none f shares g =
        let some = ok.head.instruments_some in
        let few = ok.head.instruments_few in
        let at = grid_stands n D some few parts shares g in
        solvent_cong P shares _ (grid_same n D some few parts shares g) ∙ ap (solvent_with P) (sym at.is) ∙ none_passes (solvent_with P) (allocations n D) f at.place at.below

  -- ---- any answer
  refused : ((find_answer P D).refusal ≡ 0 → ⊥) → (find_answer P D).found ≡ false
  unfolding find_answer
  refused = go (find_refusal P D)
    where
      go : (number : ℕ) → ((answer not_found number (first_that (solvent_with P) (allocations n D))).refusal ≡ 0 → ⊥) → (answer not_found number (first_that (solvent_with P) (allocations n D))).found ≡ false
      go zero h = absurd (h (first_accepted (solvent_with P) (allocations n D)))
      go (suc number) h = refl

  zeros : (find_answer P D).found ≡ false → (find_answer P D).shares ≡ replicate 16 0
  unfolding find_answer
  zeros = go (find_refusal P D)
    where
      go : (number : ℕ) → (answer not_found number (first_that (solvent_with P) (allocations n D))).found ≡ false → (answer not_found number (first_that (solvent_with P) (allocations n D))).shares ≡ replicate 16 0
      go zero f = none_zeros (solvent_with P) (allocations n D) f
      go (suc number) f = refl

  own : (find_answer P D).refusal ≡ 0 → (shares : List ℕ) → refusal_of (allocated P shares) ≡ 0 → find_answer (allocated P shares) D ≡ find_answer P D
  unfolding find_answer find_refusal solvent_with
  own e shares f = rw (accepted_none (ok e), f)

  -- ---- what is claimed
  pub find_true : FindTrue P D (find_answer P D)
  find_true = record {
    found = λ e f. rw (is_first e) (found e (ap (λ (s : FindAnswer). s.found) (sym (is_first e)) ∙ f));
    none = λ e f shares g h. false_true (sym (none e (ap (λ (s : FindAnswer). s.found) (sym (is_first e)) ∙ f) shares g) ∙ solvent_yes P shares h);
    refused = refused;
    zeros = zeros;
    own = own;
  }

  -- an answer, with all that is claimed of it
  pub find_answered : {s : FindAnswer} → s ≡ find_answer P D → (s ≡ find_answer P D) × (FindTrue P D s × ((s.refusal ≡ 11 → ⊥) × FindAlike (held plan) D))
  find_answered e = (e, (subst (FindTrue P D) (sym e) find_true, ((λ h. find_11 P D (ap (λ (s : FindAnswer). s.refusal) (sym e) ∙ h)), find_alike D (held plan))))
