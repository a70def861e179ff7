-- `writer::Pen::file` puts down group after group.
use mathlib.Core.Path.{sym, ap, ◌∙◌}
use borrow.Author.Rules.{rules}
use Rattle.little_endian.specs.TwosComplement.{unsigned_of}
use Rattle.records.specs.Record.{record_bytes, file_bytes}
use Rattle.plan.specs.declared.Shape.{Shape}
use Rattle.planfile.specs.Rows.{head_rec}
use Rattle.writer.proofs.Put.{put_as, free_as}
use Rattle.writer.proofs.Rows.{record_part, instruments_part, patterns_part}
use Rattle.writer.proofs.File.{
  head_is,
  instruments_is,
  outflows_is,
  opening_is,
  cost_is,
  rollover_is,
  patterns_is,
  allocation_is,
  groups_none,
  groups_all,
  group_free,
  group_more,
}
use Rattle.writer.proofs.Pen.file.Goals as goal
use Rattle.writer.proofs.Pen.file.Goals.{in-Head, in-Instrument, in-Outflows, in-Opening, in-Cost, in-Rollover, in-Pattern, in-Allocation}

pub loop-group-init : goal.loop-group-init
loop-group-init c = groups_none c.args.accepted.plan.now c.shape-shape.ensures c.requires

pub head-requires-clause-free : goal.head-requires-clause-free
head-requires-clause-free c =
    let plan = c.args.accepted.plan.now in
    free_as (sym (ap (λ (h : Shape). record_bytes (head_rec h)) c.shape-shape.ensures ∙ head_is plan))
    (group_free plan c.shape-shape.ensures c.loop-group.invariant _ c.groups_of-group-items.ensures c.loop-group-test.true _ c.in-Head.is)

pub instruments-requires-clause-free : goal.instruments-requires-clause-free
instruments-requires-clause-free c =
    let plan = c.args.accepted.plan.now in
    free_as (sym (ap file_bytes (instruments_part plan.years plan.instruments plan.instrument (search rules)) ∙ instruments_is plan))
    (group_free plan c.shape-shape.ensures c.loop-group.invariant _ c.groups_of-group-items.ensures c.loop-group-test.true _ c.in-Instrument.is)

pub record-requires-clause-free : goal.record-requires-clause-free
record-requires-clause-free c =
    let plan = c.args.accepted.plan.now in
    free_as (sym (record_part 3 8 (unsigned_of 8) plan.years plan.outflows (search rules) ∙ outflows_is plan))
    (group_free plan c.shape-shape.ensures c.loop-group.invariant _ c.groups_of-group-items.ensures c.loop-group-test.true _ c.in-Outflows.is)

pub optional-requires : goal.optional-requires
optional-requires c =
    let plan = c.args.accepted.plan.now in (
      search rules,
      (
        search rules,
        (
          search rules,
          free_as (sym (opening_is plan))
              (group_free plan c.shape-shape.ensures c.loop-group.invariant _ c.groups_of-group-items.ensures c.loop-group-test.true _ c.in-Opening.is),
        ),
      ),
    )

pub optional-requires-in-Cost : goal.optional-requires-in-Cost
optional-requires-in-Cost c =
    let plan = c.args.accepted.plan.now in (
      search rules,
      (
        search rules,
        (
          search rules,
          free_as (sym (cost_is plan))
              (group_free plan c.shape-shape.ensures c.loop-group.invariant _ c.groups_of-group-items.ensures c.loop-group-test.true _ c.in-Cost.is),
        ),
      ),
    )

pub record-requires-in-Rollover-clause-free : goal.record-requires-in-Rollover-clause-free
record-requires-in-Rollover-clause-free c =
    let plan = c.args.accepted.plan.now in
    free_as (sym (record_part 4 4 (λ x. x) plan.terms plan.rollover (search rules) ∙ rollover_is plan))
    (group_free plan c.shape-shape.ensures c.loop-group.invariant _ c.groups_of-group-items.ensures c.loop-group-test.true _ c.in-Rollover.is)

pub patterns-requires-clause-free : goal.patterns-requires-clause-free
patterns-requires-clause-free c =
    let plan = c.args.accepted.plan.now in
    free_as (sym (ap file_bytes (patterns_part plan.years plan.patterns plan.pattern (search rules)) ∙ patterns_is plan))
    (group_free plan c.shape-shape.ensures c.loop-group.invariant _ c.groups_of-group-items.ensures c.loop-group-test.true _ c.in-Pattern.is)

pub record-requires-in-Allocation-clause-free : goal.record-requires-in-Allocation-clause-free
record-requires-in-Allocation-clause-free c =
    let plan = c.args.accepted.plan.now in
    free_as (sym (record_part 6 4 (λ x. x) plan.instruments plan.allocation (search rules) ∙ allocation_is plan))
    (group_free plan c.shape-shape.ensures c.loop-group.invariant _ c.groups_of-group-items.ensures c.loop-group-test.true _ c.in-Allocation.is)

pub loop-group-preserved : goal.loop-group-preserved
loop-group-preserved c =
    let plan = c.args.accepted.plan.now in
    elim c.match-group.branch [
      | in-Head w ↦ rw w.self-is
          (group_more plan c.shape-shape.ensures c.loop-group.invariant _ c.groups_of-group-items.ensures c.loop-group-test.true _ w.in-Head.is
          (put_as (ap (λ (h : Shape). record_bytes (head_rec h)) c.shape-shape.ensures ∙ head_is plan) w.head.ensures))
      | in-Instrument w ↦ rw w.self-is
          (group_more plan c.shape-shape.ensures c.loop-group.invariant _ c.groups_of-group-items.ensures c.loop-group-test.true _ w.in-Instrument.is
          (put_as (ap file_bytes (instruments_part plan.years plan.instruments plan.instrument (search rules)) ∙ instruments_is plan) w.instruments.ensures))
      | in-Outflows w ↦ rw w.self-is
          (group_more plan c.shape-shape.ensures c.loop-group.invariant _ c.groups_of-group-items.ensures c.loop-group-test.true _ w.in-Outflows.is
          (put_as (record_part 3 8 (unsigned_of 8) plan.years plan.outflows (search rules) ∙ outflows_is plan) w.record.ensures))
      | in-Opening w ↦ rw w.self-is
          (group_more plan c.shape-shape.ensures c.loop-group.invariant _ c.groups_of-group-items.ensures c.loop-group-test.true _ w.in-Opening.is
          (put_as (opening_is plan) w.optional.ensures))
      | in-Cost w ↦ rw w.self-is
          (group_more plan c.shape-shape.ensures c.loop-group.invariant _ c.groups_of-group-items.ensures c.loop-group-test.true _ w.in-Cost.is
          (put_as (cost_is plan) w.optional-in-Cost.ensures))
      | in-Rollover w ↦ rw w.self-is
          (group_more plan c.shape-shape.ensures c.loop-group.invariant _ c.groups_of-group-items.ensures c.loop-group-test.true _ w.in-Rollover.is
          (put_as (record_part 4 4 (λ x. x) plan.terms plan.rollover (search rules) ∙ rollover_is plan) w.record-in-Rollover.ensures))
      | in-Pattern w ↦ rw w.self-is
          (group_more plan c.shape-shape.ensures c.loop-group.invariant _ c.groups_of-group-items.ensures c.loop-group-test.true _ w.in-Pattern.is
          (put_as (ap file_bytes (patterns_part plan.years plan.patterns plan.pattern (search rules)) ∙ patterns_is plan) w.patterns.ensures))
      | in-Allocation w ↦ rw w.self-is
          (group_more plan c.shape-shape.ensures c.loop-group.invariant _ c.groups_of-group-items.ensures c.loop-group-test.true _ w.in-Allocation.is
          (put_as (record_part 6 4 (λ x. x) plan.instruments plan.allocation (search rules) ∙ allocation_is plan) w.record-in-Allocation.ensures))
    ]

pub returns : goal.returns
returns c = groups_all c.args.accepted.plan.now c.shape-shape.ensures c.loop-group.invariant c.loop-group-test.false
