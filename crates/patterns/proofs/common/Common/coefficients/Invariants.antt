-- `Common::coefficients` fills in the fund of one row with its cost after the other, until check 11 refuses one (FormLoops, `Funded`).
use mathlib.Core.List.{[]}
use lib.IntN.{pos}
use lib.ListN.{get_or}
use Rattle.reckoning.specs.Arrays.{shares_of, rates_of, amounts_of}
use Rattle.plan.specs.Held.{amounts_in}
use Rattle.patterns.proofs.FormLoops.{Funded}
use Rattle.patterns.proofs.common.Common.coefficients.Given as goal

abbrev pub invariant-loop-j : goal.invariant-loop-j
invariant-loop-j l = Funded (shares_of l.self.rollover.shares) (rates_of l.i.rates) (λ j. amounts_of (get_or l.self.payments j [])) (λ j. get_or (amounts_in l.self.cost) j (pos 0)) l.self.rollover.horizon.years l.self.instruments l.k l.j
