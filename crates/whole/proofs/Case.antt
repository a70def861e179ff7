-- Document 01's starred cases: the computed test over their list, and what it says of each.
use mathlib.Core.Path.{◌≡◌, refl}
use mathlib.Core.Bool.{true}
use mathlib.Core.List.Memᴰ
use mathlib.Core.List.{List, [], ◌∷◌, ◌++◌, Memᴰ}
use mathlib.Core.Logic.{⊎_elim}
use Rattle.whole.specs.Floor.{floor, share_of}
use Rattle.whole.specs.Test.{is_between, is_same}
use Rattle.whole.specs.Case.{Case, agree, share_cases}
use Rattle.whole.proofs.Test.{both_first, both_second, same_is}

-- in a list that agrees, every case does
pub agree_at : (cs : List Case) (c : Case) → agree cs ≡ true → Memᴰ c cs → c.given ≡ c.stated
unfolding agree
agree_at [] c e m = absurd (Memᴰ.not-nil m)
agree_at (d ∷ cs) c e m = ⊎_elim
    (λ (q : c ≡ d). rw q (same_is d.given d.stated (both_first _ _ e)))
    (λ (q : Memᴰ c cs). agree_at cs c (both_second (is_same d.given d.stated) _ e) q)
    (Memᴰ.cases_cons m)

-- two lists that agree do so as one
pub agree_join : (cs ds : List Case) → agree cs ≡ true → agree ds ≡ true → agree (cs ++ ds) ≡ true
unfolding agree
agree_join [] ds e f = f
agree_join (c ∷ cs) ds e f = rw (both_first (is_same c.given c.stated) _ e) (agree_join cs ds (both_second (is_same c.given c.stated) _ e) f)

pub shares_agree : agree share_cases ≡ true
unfolding agree share_cases is_same is_between share_of floor
shares_agree = refl
