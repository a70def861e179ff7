-- `listing::list` puts down a refusal's line, or the text of the plan that was read.
use mathlib.Core.Path.{sym, ap, ◌∙◌}
use native.Mathlib.Omega.{arith}
use borrow.Author.Rules.{rules}
use Rattle.little_endian.proofs.LittleEndian.{bytes_lent}
use Rattle.little_endian.proofs.Wrote.{wrote_as}
use Rattle.listing.specs.Shown.{accepted_shown}
use Rattle.listing.proofs.File.{text_read, text_refused}
use Rattle.listing.proofs.Putting.{listed}
use Rattle.listing.proofs.Demands.{demands}
use Rattle.listing.proofs.list.Goals as goal
use Rattle.listing.proofs.list.Goals.{in-Ok, in-Err}

pub shape_of-out : goal.shape_of-out
shape_of-out c = elim c.match-accepted_in.branch [
  | in-Ok w ↦ sym (ap (λ t. t.buffer.ghost_name) w.text-is ∙ w.plan.ensures.same)
  | in-Err w ↦ sym (ap (λ t. t.buffer.ghost_name) w.text-is ∙ w.refused.ensures.same)
]

pub returns-clause-is : goal.returns-clause-is
returns-clause-is c = elim c.match-accepted_in.branch [
  | in-Ok w ↦ rw w.text-is (listed (omega (arith, w.plan.ensures.few)) (search rules) (wrote_as (text_read _ w.in-Ok.ensures) w.plan.ensures.wrote)).0
  | in-Err w ↦ rw w.text-is (listed (omega (arith, w.refused.ensures.few)) (search rules) (wrote_as (text_refused _ _ w.in-Err.ensures) w.refused.ensures.wrote)).0
]

pub returns-clause-demands : goal.returns-clause-demands
returns-clause-demands c = demands (bytes_lent c.type_inv.file)
