-- `becketgrape::numbers_of` takes each word's number.
use mathlib.Core.Path.{◌≡◌, ◌∙◌, sym}
use mathlib.Core.List.{List, map}
use Prim.Native.Nat.{ℕ, ◌<◌}
use native.Mathlib.Omega.{arith}
use denote.Param.Members.{Mut, Called}
use lib.ListN.{length}
use lib.Seq.{ext_get_or}
use Rattle.std.proofs.Common.{rules}
use Rattle.std.proofs.lemmas.List.{length-map, get_or-map}
use Rattle.std.specs.Array.{IsMapOf}
use Rattle.std.specs.Prelude.{None}
use Rattle.planner.specs.Shown.{word_shown}
use Rattle.becketgrape.proofs.numbers_of.Goals as goal

map_of : {F A B : Type 0} {g : Mut F (A × Unit {0}) B} {c : F} {xs : List A} {ys : List B} {n : ℕ} (f : A → B) → length xs ≡ n → IsMapOf g c xs ys n
    → ((x : A) (y : B) (p q : F) → Called g p (x, tt) y q → y ≡ f x) → A → ys ≡ map f xs
map_of {xs = xs} {ys} {n} f long made same d =
    ext_get_or (f d) ys (map f xs) (made.long ∙ sym (length-map xs f ∙ long))
    (λ k l.
    let h : k < n = omega (arith, made.long) in
    let a = made.at k d (f d) h in
    same _ _ a.0 a.1 a.2 ∙ sym (get_or-map f xs k d (f d) (omega (arith, long))))

pub returns : goal.returns
returns c = map_of word_shown (search rules) c.map.ensures.items (λ x y p q k. search rules) None
