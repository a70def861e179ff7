-- `reckoning::sent`: each share is within the limit that the next one asks, and their sum fits.
use mathlib.Core.Path.{◌≡◌, ap, ap₂, ◌∙◌}
use native.Mathlib.Omega.{arith}
use lib.IntN.{ℤ, ◌+ℤ◌}
use mir.Syntax.{w64}
use mir.Val.{SFits}
use Rattle.whole.specs.Range.{limit, Within}
use Rattle.whole.specs.Floor.{share_of}
use Rattle.whole.proofs.Range.{within_fits, back, ok64}
use Rattle.reckoning.specs.Reckoning.{sent}
use Rattle.reckoning.proofs.Pattern.{invested_within, sent_within}
use Rattle.reckoning.proofs.sent.Goals as goal
use Rattle.reckoning.proofs.sent.Goals.{After-share-invested, After-share-matured, Start}

-- what was invested
module _ (c : After-share-invested) where
  abbrev s : Start
  s = c.before

  invested_is : c.share-invested.result ≡ share_of s.args.x s.args.w
  invested_is = simp (back, s.ranges.x, s.ranges.w) at c.share-invested.ensures

  invested_fits : SFits w64 c.share-invested.result
  invested_fits = ok64 c.share-invested.result c.share-invested.type_inv

  invested_limit : Within limit c.share-invested.result
  invested_limit = rw invested_is (invested_within _ _ _ _ s.requires.within s.requires.within_2 s.requires.within_3 s.requires.within_4)

pub share-interest-requires-clause-within : goal.share-interest-requires-clause-within
share-interest-requires-clause-within c = simp (back, invested_fits c) (invested_limit c)

-- the sum
module _ (c : After-share-matured) where
  abbrev t : Start
  t = c.before.before.before

  matured_fits : SFits w64 c.share-matured.result
  matured_fits = ok64 c.share-matured.result c.share-matured.type_inv

  interest_fits : SFits w64 c.before.share-interest.result
  interest_fits = ok64 c.before.share-interest.result c.before.share-interest.type_inv

  sum_is : c.share-matured.result +ℤ c.before.share-interest.result ≡ sent t.args.x t.args.r t.args.w t.args.i
  unfolding sent
  sum_is =
      let a : c.share-matured.result ≡ share_of t.args.x t.args.r = simp (back, t.ranges.x, t.ranges.r) at c.share-matured.ensures in
      let i : c.before.share-interest.result ≡ share_of c.before.before.share-invested.result t.args.i = simp (back, t.ranges.i, invested_fits c.before.before) at c.before.share-interest.ensures in
      ap₂ ◌+ℤ◌ a (i ∙ ap (λ (z : ℤ). share_of z t.args.i) (invested_is c.before.before))

  sum_fits : SFits w64 (c.share-matured.result +ℤ c.before.share-interest.result)
  sum_fits = rw sum_is (within_fits {b = 2_000_000_000_000} (omega arith) (sent_within _ _ _ _ t.requires.within t.requires.within_2 t.requires.within_3 t.requires.within_4))

pub overflow_add-result : goal.overflow_add-result
overflow_add-result c = simp (back, matured_fits c, interest_fits c) (sum_fits c)

pub returns : goal.returns
returns c = simp (back, matured_fits c, interest_fits c, sum_fits c) (sum_is c)
