-- `Walk::next` finds the record at its place, and goes on to its end.
use mathlib.Core.Path.{refl}
use native.Mathlib.Omega.{arith}
use Rattle.std.proofs.Common.{rules}
use Rattle.reader.proofs.Walks.{Found, found, not_found, part_found}
use Rattle.reader.proofs.WalkIterator.next.Goals as goal
use Rattle.reader.proofs.WalkIterator.next.Goals.{In_ok-record}

pub returns-in_err-record-clause-steps : goal.returns-in_err-record-clause-steps
returns-in_err-record-clause-steps c = rw c.from_residual.ensures (not_found _ _ c.next_at.ensures c.in_err-record.ensures.value, refl)

module _ (c : In_ok-record) where
  stands : Found c.args.self.now.file.now c.args.self.now.at c.in_ok-record.record
  stands = found _ _ c.next_at.ensures c.in_ok-record.ensures.value

pub slice_bounds-result-count : goal.slice_bounds-result-count
slice_bounds-result-count c = omega (arith, stands (goal.at.slice_bounds-result-count c).In_ok-record)

pub slice_bounds-result-start : goal.slice_bounds-result-start
slice_bounds-result-start c = let f = stands (goal.at.slice_bounds-result-start c).In_ok-record in search rules

pub slice_bounds-result-end : goal.slice_bounds-result-end
slice_bounds-result-end c = let f = stands (goal.at.slice_bounds-result-end c).In_ok-record in search rules

pub returns-clause-steps : goal.returns-clause-steps
returns-clause-steps c =
    let f = stands (goal.at.returns-clause-steps c).In_ok-record in
    record { whole = f.whole; kind = f.kind; body = part_found f; end = f.end; file = refl; at = f.end }

pub returns-clause-goes : goal.returns-clause-goes
returns-clause-goes c =
    let f = stands (goal.at.returns-clause-goes c).In_ok-record in
    record { on = λ _. (tt, tt, omega (arith, f.end, f.fits)); keeps = tt; rests = λ _. tt }
