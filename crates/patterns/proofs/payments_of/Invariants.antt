-- `patterns::payments_of` fills in what each instrument pays.
use lib.ListN.{replicate}
use lib.IntN.{pos}
use Rattle.whole.proofs.Filling.{Filling}
use Rattle.plan.specs.Held.{instrument_held, instrument_at}
use Rattle.plan.specs.Numbers.{payments_meant}
use Rattle.patterns.proofs.payments_of.Given as goal

abbrev pub invariant-loop-j : goal.invariant-loop-j
invariant-loop-j l = Filling 16 l.plan.instruments (λ j. payments_meant l.plan.years (instrument_held l.plan.years (instrument_at l.plan j))) (replicate 30 (pos 0)) l.rows l.j
