-- The records of a shape in range are few.
use mathlib.Core.Path.{ap, ◌∙◌}
use Prim.Native.Nat.{◌<◌, ◌^◌}
use native.Mathlib.Omega.{arith}
use Rattle.std.proofs.Common.{rules, tests}
use Rattle.std.specs.List.{sum_by}
use Rattle.std.proofs.lemmas.Iterator.{YieldsList-from_slice, YieldsList-from_map}
use Rattle.std.proofs.lemmas.Iterator.Consumers.{sum_by_from_yields_List, fits_by_from_yields_list}
use Rattle.planfile.specs.Groups.{total}
use Rattle.planfile.proofs.Groups.{total_few, total_shown}
use Rattle.planfile.proofs.shaped.Shaped.count.Goals as goal

pub sum-requires-clause-fits : goal.sum-requires-clause-fits
sum-requires-clause-fits c =
    let gs = c.groups_of.result in
    let few : sum_by (λ g. g.count) gs < 2 ^ 64 = omega (arith, total_shown gs, ap total c.groups_of.ensures, total_few c.args.self.now.shape (search rules)) in
    fits_by_from_yields_list _ _ c.map.result _ (YieldsList-from_map _ (λ g. g.count) (YieldsList-from_slice gs cc) c.map.ensures.closure (λ x r q k. search (rules, tests))) few

pub returns : goal.returns
returns c =
    let gs = c.groups_of.result in
    sum_by_from_yields_List _ gs c.map.result _ c.sum.ensures.ran (YieldsList-from_map _ (λ g. g.count) (YieldsList-from_slice gs cc) c.map.ensures.closure (λ x r q k. search (rules, tests)))
    ∙ total_shown gs
    ∙ ap total c.groups_of.ensures
