-- `patterns::rollover_of` fills in r_1 to r_q (Held).
use mathlib.Core.Path.{◌≡◌, sym, ap, ◌∙◌}
use lib.ListN.{get_or}
use lib.IntN.{pos}
use borrow.Author.Tests.{tests}
use Rattle.std.proofs.Common.{rules}
use Rattle.whole.proofs.Made.{made_table}
use Rattle.whole.proofs.Table.{table_cong}
use Rattle.reckoning.specs.Arrays.{shares_of}
use Rattle.plan.specs.Numbers.{numbers}
use Rattle.plan.proofs.Held.{rollover_is}
use Rattle.patterns.specs.Arrays.{rollover_array}
use Rattle.patterns.proofs.Held.{terms, rollover_held_law}
use Rattle.patterns.proofs.rollover_of.Goals as goal
use Rattle.patterns.proofs.rollover_of.Goals.{After-from_fn-shares}

made : (c : After-from_fn-shares) → c.from_fn-shares.result ≡ rollover_array (numbers c.args.plan.plan.now)
unfolding rollover_array
made c =
    let plan = c.args.plan.plan.now in
    made_table c.from_fn-shares.ensures.items plan.terms (λ d. pos (get_or plan.rollover d 0)) (pos 0) c.args.plan.accepted.head.terms_few
    (λ d y q l called. search (rules, tests)) (λ d y q b l called. search (rules, tests))
    ∙ table_cong 30 plan.terms _ _ (pos 0) (λ d l. ap pos (sym (rollover_is plan d l)))

pub of-requires : goal.of-requires
of-requires c = rw (made c) (terms c.args.plan.plan.now c.args.plan.accepted)

pub returns-clause-shares : goal.returns-clause-shares
returns-clause-shares c = c.of.ensures.same_shares ∙ made c.before

pub returns-clause-held : goal.returns-clause-held
returns-clause-held c = ap shares_of (returns-clause-shares c) ∙ rollover_held_law c.args.plan.plan.now c.args.plan.accepted
