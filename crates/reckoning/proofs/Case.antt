-- The starred cases of the bound and of the gammas, computed.
use mathlib.Core.Path.{◌≡◌, refl}
use mathlib.Core.Bool.{true}
use Rattle.whole.specs.Floor.{floor, share_of}
use Rattle.whole.specs.Sum.{sum, sum_ℕ}
use Rattle.whole.specs.Course.{course, history}
use Rattle.whole.specs.Test.{is_between, is_same}
use Rattle.whole.specs.Entry.{nth}
use Rattle.whole.specs.Case.{agree}
use Rattle.reckoning.specs.Reckoning.{w, sent, alpha_step, alpha}
use Rattle.reckoning.specs.Bound.{ceiling, G, B}
use Rattle.reckoning.specs.Gamma.{unit, gamma}
use Rattle.reckoning.specs.Case.{bound_cases, halves, rising, gamma_cases}

pub bounds_agree : agree bound_cases ≡ true
unfolding agree bound_cases is_same is_between B G ceiling
bounds_agree = refl

pub gammas_agree : agree gamma_cases ≡ true
unfolding agree gamma_cases is_same is_between gamma unit alpha alpha_step sent course history share_of floor w sum sum_ℕ nth halves rising
gammas_agree = refl
