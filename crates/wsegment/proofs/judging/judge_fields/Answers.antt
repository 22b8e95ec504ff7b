use Rattle.std.proofs.Common.{◌∙◌, Result, ap, sym, suc, add-one, drop, map}
use Rattle.std.proofs.lemmas.List.{drop_all}
use Rattle.std.proofs.lemmas.Result.{err_from_is_err_and}
use Rattle.csv.specs.Records.{fields_of}
use Rattle.std.specs.Prelude.{List}
use Rattle.wvalues.specs.Meaning.{Meaning}
use Rattle.wsegment.specs.Header.{kinds_of}
use Rattle.wsegment.specs.Judging.{verdict}
use Rattle.wsegment.specs.declared.fault.SegmentFault.{SegmentFault}
use Rattle.wsegment.proofs.FieldFacts.{ascii-text}
use Rattle.wsegment.proofs.HeaderFacts.{kind-drop, kinds-long}
use Rattle.wsegment.proofs.JudgingFacts.{cells-judged, cells-over, cells-refused}
use Rattle.wsegment.proofs.ListFacts.{field-drop, field-found}
use Rattle.wsegment.proofs.RowFacts.{row-cells, row-refused}
use Rattle.wsegment.proofs.judging.judge_fields.Goals as goal

pub returns-then-len-header : goal.returns-then-len-header
returns-then-len-header c =
    sym (ap (λ (row : Result (List Meaning) SegmentFault). verdict row)
    (row-refused c.args.number (kinds_of (map (λ c. c.now) c.args.header.now)) (fields_of c.args.row.now)
    (λ e. c.if-len-header.true (c.len.ensures ∙ e ∙ kinds-long c.args.header.now))))

pub loop-i-init : goal.loop-i-init
loop-i-init c = record {
  so_far = sym (ap (λ (row : Result (List Meaning) SegmentFault). verdict row)
      (row-cells c.args.number (kinds_of (map (λ c. c.now) c.args.header.now)) (fields_of c.args.row.now) (sym c.len.ensures
      ∙ c.if-len-header.false ∙ sym (kinds-long c.args.header.now))));
}

pub judge_field-requires : goal.judge_field-requires
judge_field-requires c = ascii-text c.args.row.now c.is_ascii-is_ascii.result c.as_slice.result.now c.loop-i.i c.in-Some.field.now
    c.is_ascii-is_ascii.ensures.cases c.as_slice.ensures c.in-Some.ensures.value

pub unreachable-requires : goal.unreachable-requires
unreachable-requires c = field-found (fields_of c.args.row.now) c.loop-i.i (rw (← c.len.ensures, c.if-len-header.false)
    c.loop-i-test.true) (sym c.in_default.ensures.value)

pub returns-in_err-judge_field : goal.returns-in_err-judge_field
returns-in_err-judge_field c =
    let p = err_from_is_err_and c.from_residual.result c.from_residual.ensures.1 in
    let ks = kinds_of (map (λ c. c.now) c.args.header.now) in
    let fs = fields_of c.args.row.now in
    let i = c.loop-i.i in
    rw (p.1, p.2) (cells-refused c.in_err-judge_field.field-0.0 c.args.number (drop i ks) (drop (suc i) ks) (drop i fs)
    (drop (suc i) fs) c.index-header-i.result.now.kind c.in-Some.field.now
    (kind-drop c.args.header.now i c.index-header-i.result c.loop-i-test.true c.index-header-i.is)
    (field-drop fs i c.in-Some.field.now (sym c.in-Some.ensures.value))
    (rw c.kind.ensures at c.in_err-judge_field.ensures) ∙ c.loop-i.invariant.so_far)

pub loop-i-preserved : goal.loop-i-preserved
loop-i-preserved c =
    let ks = kinds_of (map (λ c. c.now) c.args.header.now) in
    let fs = fields_of c.args.row.now in
    let i = c.loop-i.i in
    record {
      so_far = rw (add-one i) (sym (cells-judged c.args.number (drop i ks) (drop (suc i) ks) (drop i fs) (drop (suc i) fs)
          c.index-header-i.result.now.kind c.in-Some.field.now
          (kind-drop c.args.header.now i c.index-header-i.result c.loop-i-test.true c.index-header-i.is)
          (field-drop fs i c.in-Some.field.now (sym c.in-Some.ensures.value))
          (rw c.kind.ensures at c.in_ok-judge_field.ensures)) ∙ c.loop-i.invariant.so_far);
    }

pub returns : goal.returns
returns c =
    let ks = kinds_of (map (λ c. c.now) c.args.header.now) in
    let fs = fields_of c.args.row.now in
    let i = c.loop-i.i in
    sym (cells-over c.args.number (drop i ks) (drop i fs)
    (drop_all i ks (rw (kinds-long c.args.header.now) c.loop-i-test.false))) ∙ c.loop-i.invariant.so_far
