-- An answer that a test picks, `Ok` of a value or else an error, and what a `?` passes on of it.
use mathlib.Core.Path.{◌≡◌, refl}
use mathlib.Core.Bool.{Bool, true, false}
use Rattle.std.specs.Prelude.{Result, Ok, Err, IsErrAnd}
use Rattle.std.proofs.lemmas.Result.{err_from_is_err_and}
use Rattle.whole.specs.Test.{pick}

-- which way the test went, and what the answer has
pub answered_ok : {A E : Type 0} (a x : A) (refused : E) (b : Bool) → Ok x ≡ pick b (Ok a) (Err refused) → (b ≡ true) × (x ≡ a)
answered_ok a x refused true e = (refl, cc)
answered_ok a x refused false e = cc

pub answered_err : {A E : Type 0} (a : A) (e refused : E) (b : Bool) → Err e ≡ pick b (Ok a) (Err refused) → (b ≡ false) × (e ≡ refused)
answered_err a e refused true h = cc
answered_err a e refused false h = (refl, cc)

-- the exit of a `?` that changes no error
pub passed_on : {A E : Type 0} {refused : E} (r : Result A E) → IsErrAnd r (λ e. e ≡ refused) → r ≡ Err refused
passed_on r h = let e = err_from_is_err_and r h in cc

-- the exit of a `?` on such an answer: the test failed, and its error is passed on
pub passed_refusal : {A B E : Type 0} (a : A) (e refused : E) (b : Bool) (r : Result B E) → Err e ≡ pick b (Ok a) (Err refused) → IsErrAnd r (λ x. x ≡ e) →
    (b ≡ false) × (r ≡ Err refused)
passed_refusal a e refused b r h k = let f = answered_err a e refused b h in (f.0, rw f.1 at (passed_on r k))
