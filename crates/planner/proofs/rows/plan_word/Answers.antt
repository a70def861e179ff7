-- `planner::rows::plan_word`: short if a bit is set, else solvent if every word is.
use Rattle.std.proofs.Common.{◌≡◌, eqb, sym, ◌∙◌, rules, tests}
use Rattle.std.proofs.lemmas.Iterator.{YieldsList-from_slice}
use Rattle.std.proofs.lemmas.Iterator.Adapters.{YieldsList-from_flatten}
use Rattle.std.proofs.lemmas.Iterator.Search.{all_from_yields_List}
use Rattle.std.specs.Option.{option_to_list}
use Rattle.planner.specs.Verdict.{solvent}
use Rattle.planner.specs.Shown.{word_number}
use Rattle.planner.proofs.Words.{option_road, solvents, unshort_word}
use Rattle.planner.proofs.rows.plan_word.Goals as goal
use Rattle.planner.proofs.rows.plan_word.Goals.{After-all}

all_is : (c : After-all) → c.all.result ≡ solvents c.before.before.before.before.args.words.now
all_is c = all_from_yields_List (λ w. eqb (word_number w) solvent) _ _ _ c.all.ensures.ran
    (YieldsList-from_flatten _ _ (λ y. y.now) option_to_list (λ x j k. option_road j _ k.0 k.1) (YieldsList-from_slice c.before.before.before.before.args.words.now (cc)) (cc) (cc) (cc))
    (λ x b q k. search (rules, tests))

pub returns-then-all : goal.returns-then-all
returns-then-all c m w = unshort_word w c.before.before.before.if-short-ne0.false (sym c.if-all.true ∙ all_is c.before)

pub returns-else-all : goal.returns-else-all
returns-else-all c m w = unshort_word w c.before.before.before.if-short-ne0.false (sym c.if-all.false ∙ all_is c.before)
