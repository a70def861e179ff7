-- `finder::put_lines` fills in the line of each pattern.
use mathlib.Core.Path.{◌≡◌}
use mathlib.Core.List.{[]}
use Prim.Native.Nat.{ℕ, ◌<◌}
use lib.ListN.{get_or}
use Rattle.reckoning.specs.Arrays.{rates_of}
use Rattle.reckoning.specs.declared.NewMoney.{NewMoney}
use Rattle.patterns.specs.Arrays.{shared_in}
use Rattle.finder.specs.Lines.{line_of}
use Rattle.finder.specs.Search.{numbers_in}
use Rattle.finder.specs.declared.lines.Line.{Line}
use Rattle.finder.proofs.put_lines.Given as goal

abbrev pub invariant-loop-t : goal.invariant-loop-t
invariant-loop-t l = (k : ℕ) (i : NewMoney) (line : Line) → k < l.t → numbers_in (get_or l.lines k line) ≡ line_of (shared_in l.common []) (rates_of (get_or l.rates k i).rates)
