-- The words of a plan's patterns as the code's arrays: what a closure makes of each row, and the words of m patterns.
use Rattle.std.proofs.Common.{◌≡◌, ℕ, zero, suc, ◌≤◌, ◌<◌, Bool, true, false, cond, ◌&&◌, eqb, List, [], ◌∷◌, map, length, get_or, refl, sym, ap, ap₂, ◌∙◌, subst, arith}
use Rattle.std.proofs.lemmas.Iterator.{YieldsList}
use Rattle.std.proofs.lemmas.Iterator.Consumers.{YieldsList-from_shown}
use Rattle.std.proofs.lemmas.List.{same_lists, length-map, get_or-map}
use Rattle.std.specs.Array.{IsFromFnResult}
use Rattle.std.specs.Bool.{MatchBool}
use Rattle.std.specs.Iterator.Adapters.{option_iter_item, option_iter_done, option_iter_steps}
use Rattle.std.specs.List.{list_all, flat_map}
use Rattle.std.specs.Option.{option_to_list}
use Rattle.std.specs.Prelude.{Option, Some, None, IsSome}
use denote.Param.Members.{Mut, Called}
use denote.Ref.{Bor}
use Rattle.whole.specs.Test.{pick, both, all}
use Rattle.whole.proofs.Made.{made_each}
use borrow.Author.Tests.{eq-eqb, ne_eqb}
use Rattle.whole.proofs.Test.{both_yes, all_fails}
use Rattle.planner.specs.Answers.{VerdictAnswer}
use Rattle.planner.specs.Rows.{verdict_of}
use Rattle.planner.specs.Shown.{Words, word_number, word_shown, verdict_made}
use Rattle.planner.specs.Verdict.{solvent, short, close, bits_of, plan_word_of}
use Rattle.planner.specs.declared.rows.Verdict.{Verdict}
use Rattle.planner.specs.declared.rows.Word.{Word}
use Rattle.planner.proofs.Bits.{bits_few}
use mathlib.Core.Path.{fun_ext}

-- an array that a closure makes of another, where v of what it answers is h of what stands at the place
pub made_of : {F A B C : Type 0} {g : Mut F (ℕ × Unit {0}) B} {f : F} (xs : List A) {ys : List B} {n : ℕ} → IsFromFnResult g f ys n → length xs ≡ n → (v : B → C) (h : A → C) (d : A) (e : B)
    → ((k : ℕ) (y : B) (q : F) → k < n → Called g f (k, tt) y q → (q ≡ f) × (v y ≡ h (get_or xs k d))) → map v ys ≡ map h xs
made_of xs {ys} {n} made long v h d e each =
    let size : length (map v ys) ≡ n = length-map ys v ∙ made.long in
    same_lists (map v ys) (map h xs) (size ∙ sym long ∙ sym (length-map xs h)) (λ k z l.
    let few : k < n = rw size at l in
    get_or-map v ys k e z (rw made.long few) ∙ made_each made (λ k y. v y ≡ h (get_or xs k d)) each k e few ∙ sym (get_or-map h xs k d z (rw long few)))

-- what stands at a place of a mapped list, also past its end
pub map_at : {X Y : Type 0} (f : X → Y) (xs : List X) (t : ℕ) (d : X) (e : Y) → f d ≡ e → get_or (map f xs) t e ≡ f (get_or xs t d)
map_at f [] t d e same = sym same
map_at f (x ∷ xs) zero d e same = refl
map_at f (x ∷ xs) (suc t) d e same = map_at f xs t d e same

-- ---- what an `Option` gives, as a list
module _ {A : Type 0} where
  nothing_left : (done : Bool) (o : Option A) → MatchBool done (◌≡◌ {A = Option (Bor A)} None None) (None ≡ o) → length (cond done [] (option_to_list o)) ≡ 0
  nothing_left true o h = refl
  nothing_left false o h = ap (λ (o : Option A). length (option_to_list o)) (sym h)

  one_left : (done : Bool) (o : Option A) (x : Bor A) → MatchBool done (Some x ≡ None) (Some x.now ≡ o) → cond done [] (option_to_list o) ≡ x.now ∷ []
  one_left true o x h = cc
  one_left false o x h = ap option_to_list (sym h)

  pub option_road : (s : _) (o : Option A) → option_iter_item s ≡ o → option_iter_done s ≡ false → YieldsList (option_iter_steps {A = A}) (λ y. y.now) s (option_to_list o)
  option_road s o e d =
      let same : cond (option_iter_done s) [] (option_to_list (option_iter_item s)) ≡ option_to_list o = rw (e, d) in
      subst (YieldsList (option_iter_steps {A = A}) (λ y. y.now) s) same (YieldsList-from_shown (option_iter_steps {A = A}) (λ y. y.now) (λ s. cond (option_iter_done s) [] (option_to_list (option_iter_item s)))
      (λ s t h. nothing_left (option_iter_done s) (option_iter_item s) h.1)
      (λ s x t h. one_left (option_iter_done s) (option_iter_item s) x h.1 ∙ ap (λ (b : Bool). x.now ∷ cond b [] (option_to_list (option_iter_item t))) (sym h.0))
      s)

-- ---- the words of m patterns: all are solvent, or not, as the list says or as the papers do
abbrev pub solvents : List (Option Word) → Bool
solvents words = list_all (λ w. eqb (word_number w) solvent) (flat_map option_to_list words)

abbrev pub word_at : List (Option Word) → ℕ → ℕ
word_at words t = word_shown (get_or words t None)

both_assoc : (a b c : Bool) → both (both a b) c ≡ both a (both b c)
both_assoc true b c = refl
both_assoc false b c = refl

all_first : (n : ℕ) (p : ℕ → Bool) → all (suc n) p ≡ both (p 0) (all n (λ t. p (suc t)))
unfolding all
all_first zero p = sym (both_yes (p 0))
all_first (suc n) p = ap (λ (b : Bool). both b (p (suc n))) (all_first n p) ∙ both_assoc (p 0) (all n (λ t. p (suc t))) (p (suc n))

and_both : (a b : Bool) → (a && b) ≡ both a b
and_both true b = refl
and_both false b = refl

none_left : (words : List (Option Word)) → ((t : ℕ) → get_or words t None ≡ None) → solvents words ≡ true
none_left [] h = refl
none_left (Some w ∷ ws) h = cc (h 0)
none_left (None ∷ ws) h = none_left ws (λ t. h (suc t))

solvents_are : (m : ℕ) (words : List (Option Word)) → ((t : ℕ) → t < m → IsSome (get_or words t None)) → ((t : ℕ) → m ≤ t → get_or words t None ≡ None) → solvents words ≡ all m (λ t. eqb (word_at words t) solvent)
unfolding all
solvents_are zero words some none = none_left words (λ t. none t (omega arith))
solvents_are (suc m) [] some none = cc (some 0 (omega arith))
solvents_are (suc m) (None ∷ ws) some none = cc (some 0 (omega arith))
solvents_are (suc m) (Some w ∷ ws) some none =
    and_both (eqb (word_number w) solvent) (solvents ws)
    ∙ ap (both (eqb (word_number w) solvent)) (solvents_are m ws (λ t l. some (suc t) (omega arith)) (λ t l. none (suc t) (omega arith)))
    ∙ sym (all_first m (λ t. eqb (word_at (Some w ∷ ws) t) solvent))

-- the plan's word where no bit is set
pub unshort_word : {m : ℕ} {words : List (Option Word)} → Words m words → {bits : ℕ} → bits ≡ 0 → {b : Bool} → b ≡ solvents words → pick b solvent close ≡ plan_word_of m (word_at words) bits
unshort_word {m} {words} w {bits} e {b} k = rw (e, k, solvents_are m words w.some w.none)

-- ---- the plan's word, of any m words and bits: short by a bit, else close by a word, else solvent
module _ (m : ℕ) (word : ℕ → ℕ) where
  pub short_found : {bits : ℕ} → (bits ≡ 0 → ⊥) → short ≡ plan_word_of m word bits
  short_found {bits} h = rw (ne_eqb bits 0 h)

  pub close_found : {bits t : ℕ} → bits ≡ 0 → t < m → (word t ≡ solvent → ⊥) → close ≡ plan_word_of m word bits
  close_found {bits} {t} e l h = rw (eq-eqb bits 0 e, all_fails m (λ t. eqb (word t) solvent) t l (ne_eqb (word t) solvent h))

  pub solvents_found : {bits : ℕ} → bits ≡ 0 → all m (λ t. eqb (word t) solvent) ≡ true → solvent ≡ plan_word_of m word bits
  solvents_found {bits} e are = rw (eq-eqb bits 0 e, are)

-- ---- the verdict that they make
abbrev word_in : List ℕ → ℕ → ℕ
word_in words t = get_or words t 0

word_same : (words : List (Option Word)) (t : ℕ) → word_at words t ≡ word_in (map word_shown words) t
word_same words t = sym (map_at word_shown words t None 0 refl)

abbrev pub verdict_with : (words : List ℕ) (bits word : ℕ) → VerdictAnswer
verdict_with words bits word = record { refusal = 0; words = words; short = bits; word = word }

abbrev verdict_by : (m : ℕ) (words : List ℕ) (at : ℕ → ℕ) → VerdictAnswer
verdict_by m words at = let bits = bits_of m (λ t. eqb (at t) short) in verdict_with words bits (plan_word_of m at bits)

pub words_verdict : {m : ℕ} {words : List (Option Word)} → Words m words → {bits word : ℕ} → bits ≡ bits_of 64 (λ t. eqb (word_at words t) short) → word ≡ plan_word_of m (word_at words) bits →
    verdict_with (map word_shown words) bits word ≡ verdict_of m (map word_shown words)
words_verdict {m} {words} w {bits} {word} e k =
    let few : bits ≡ bits_of m (λ t. eqb (word_at words t) short) = e ∙ bits_few m 64 (λ t. eqb (word_at words t) short) w.few (λ t l. ap (λ (o : Option Word). eqb (word_shown o) short) (w.none t l)) in
    ap₂ (verdict_with (map word_shown words)) few (k ∙ ap (plan_word_of m (word_at words)) few)
    ∙ ap (verdict_by m (map word_shown words)) (fun_ext (word_same words))

-- its word and its bits, where the words are known by another list
pub words_made : (m : ℕ) (words : List (Option Word)) (v : Verdict) {known : List ℕ} → verdict_made v ≡ verdict_of m (map word_shown words) → map word_shown words ≡ known →
    verdict_with known v.short (word_number v.word) ≡ verdict_of m known
words_made m words v {known} e k =
    let is : verdict_made v ≡ verdict_of m known = e ∙ ap (verdict_of m) k in
    ap₂ (verdict_with known) (ap (λ (a : VerdictAnswer). a.short) is) (ap (λ (a : VerdictAnswer). a.word) is)
