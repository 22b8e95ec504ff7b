use Rattle.std.proofs.Common.{◌∙◌, Result, ap, sym}
use Rattle.wvalues.specs.Meaning.{Meaning}
use Rattle.wsegment.specs.Judging.{verdict}
use Rattle.wsegment.specs.declared.fault.SegmentFault.{SegmentFault}
use Rattle.wsegment.proofs.CellFacts.{cell-empty, cell-no_text, cell-typed}
use Rattle.wsegment.proofs.judging.judge_field.Goals as goal

pub returns-in_default : goal.returns-in_default
returns-in_default c =
    sym (ap (λ (cell : Result Meaning SegmentFault). verdict cell) (cell-no_text c.args.row c.args.kind c.args.field.now
    c.in_default.ensures))

pub returns-then-is_empty : goal.returns-then-is_empty
returns-then-is_empty c =
    sym (ap (λ (cell : Result Meaning SegmentFault). verdict cell) (cell-empty c.args.row c.args.kind c.args.field.now
    c.in-Some.text.now c.in-Some.ensures.0 c.in-Some.ensures.1 c.if-is_empty.ensures))

pub returns : goal.returns
returns c =
    c.judge_typed.ensures
    ∙ sym (ap (λ (cell : Result Meaning SegmentFault). verdict cell) (cell-typed c.args.row c.args.kind c.args.field.now
    c.in-Some.text.now c.in-Some.ensures.0 c.in-Some.ensures.1 c.if-is_empty.ensures))
