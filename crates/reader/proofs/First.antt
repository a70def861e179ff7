-- Check 3 by the first record that a walk gives.
use mathlib.Core.Path.{◌≡◌, refl, sym, ap, ◌∙◌}
use mathlib.Core.Bool.{Bool, true, false}
use mathlib.Core.List.{List}
use Prim.Native.Nat.{ℕ, ◌+◌, ◌<◌}
use native.Mathlib.Omega.{arith}
use borrow.Author.Tests.{eq-eqb, ne_eqb}
use lib.Dec.{eqb}
use lib.ListN.{length, get_or, drop}
use lib.Seq.{get_or-take, get_or-drop}
use mir.Val.{bool_byte}
use Rattle.std.specs.Prelude.{Option, Some, None, MatchOption}
use Rattle.std.specs.Option.{option_eq}
use Rattle.whole.specs.Entry.{nth}
use Rattle.whole.specs.Test.{both}
use Rattle.whole.proofs.Test.{both_not}
use Rattle.records.specs.Cursor.{whole_at, place, size_from, body_at}
use Rattle.records.proofs.Cursor.{length_body}
use Rattle.plan.specs.Held.{flag}
use Rattle.plan.specs.Refusal.{shape_ok}
use Rattle.planfile.specs.contracts.KindPartialEq.TheImpl.{eq-value}
use Rattle.planfile.specs.declared.Kind.{Kind}
use Rattle.planfile.specs.declared.Kind.TheVariants.{Head, Instrument, Outflows, Rollover, Rates, Allocation, Opening, Slope, Cost}
use Rattle.planfile.specs.Kinds.{role_of, kind_number}
use Rattle.planfile.specs.Checks.{has_role, shape_in, first_ok}
use Rattle.reader.specs.declared.Entry.{Entry}
use Rattle.reader.proofs.Walks.{Stands}

-- a kind is that of the head just where its number is 1
head_number : (a : Kind) → eq-value.it a Head ≡ eqb (kind_number a) 1
head_number Head = refl
head_number Instrument = refl
head_number Outflows = refl
head_number Rollover = refl
head_number Rates = refl
head_number Allocation = refl
head_number Opening = refl
head_number Slope = refl
head_number Cost = refl

pub is_head : (number : ℕ) (found : Option Kind) → MatchOption found (role_of number ≡ 0) (λ kind. kind_number kind ≡ number)
    → option_eq eq-value.it found (Some Head) ≡ eqb number 1
unfolding role_of nth
is_head number None e = sym (ne_eqb number 1 (λ i. let z : 1 ≡ 0 = sym (ap role_of i) ∙ e in absurd (omega arith)))
is_head number (Some kind) e = head_number kind ∙ ap (λ (n : ℕ). eqb n 1) e

module _ (s : List ℕ) where
  pub none_first : whole_at s (place s 0) ≡ false → first_ok s ≡ false
  unfolding first_ok place
  none_first w = rw w

  module _ {first : Entry} (f : Stands s 0 first) where
    first_is : first_ok s ≡ both (eqb first.kind 1) (both (eqb (length first.body.now) 4) (shape_ok (shape_in s)))
    unfolding first_ok place
    first_is = rw (f.whole, f.kind, f.body)

    pub other_kind : eqb first.kind 1 ≡ false → first_ok s ≡ false
    other_kind e = first_is ∙ rw e

    pub other_length : (length first.body.now ≡ 4 → ⊥) → first_ok s ≡ false
    other_length n = first_is ∙ rw (ne_eqb _ _ n, both_not)

    pub shape_left : eqb first.kind 1 ≡ true → length first.body.now ≡ 4 → first_ok s ≡ shape_ok (shape_in s)
    shape_left e n = first_is ∙ rw (e, eq-eqb _ _ n)

    -- byte k of its body
    pub byte : length first.body.now ≡ 4 → (k : ℕ) → k < 4 → get_or first.body.now k 0 ≡ get_or s (4 + k) 0
    unfolding body_at place
    byte n k l =
        let size : size_from s 0 ≡ 4 = sym (length_body s 0 f.whole) ∙ ap length (sym f.body) ∙ n in
        ap (λ (l : List ℕ). get_or l k 0) f.body ∙ get_or-take (size_from s 0) (drop 4 s) k 0 (omega (arith, l, size)) ∙ get_or-drop 4 s k 0

-- a flag as a number
flag_byte : (b : Bool) → bool_byte b ≡ flag b
flag_byte true = refl
flag_byte false = refl

-- the shape that is made of the four numbers
pub shape_made : (s : List ℕ) {N n q m e : ℕ} {opened costed : Bool} → N ≡ get_or s 4 0 → n ≡ get_or s 5 0 → q ≡ get_or s 6 0 → m ≡ get_or s 7 0
    → opened ≡ has_role s (2 + n) 7 → e ≡ bool_byte opened → costed ≡ has_role s (2 + n + e) 9
    → record { years = N; instruments = n; terms = q; patterns = m; opened = opened; costed = costed } ≡ shape_in s
unfolding shape_in
shape_made s N n q m o e c = rw (c, e, flag_byte _, o, N, n, q, m)
