use Rattle.std.proofs.Common.{◌∙◌, inr, map, None, Some, true, false}
use Rattle.wsegment.proofs.HeaderFacts.{named-no_text, named-text, taken}
use Rattle.wsegment.proofs.header.named.Goals as goal

pub returns-in_default : goal.returns-in_default
returns-in_default c = inr (named-no_text c.args.columns.now (map (λ other. other.now) c.args.earlier.now) c.args.field.now
    c.in_default.ensures.cases.0)

pub returns-in_default-column_named : goal.returns-in_default-column_named
returns-in_default-column_named c =
    inr (named-text c.args.columns.now (map (λ other. other.now) c.args.earlier.now) c.args.field.now c.in-Ok.name.now None
    c.in-Ok.ensures.cases.0 c.in-Ok.ensures.cases.1 c.in_default-column_named.ensures)

pub returns-then-is_named : goal.returns-then-is_named
returns-then-is_named c =
    inr (named-text c.args.columns.now (map (λ other. other.now) c.args.earlier.now) c.args.field.now c.in-Ok.name.now
    (Some c.in-Some.column.now) c.in-Ok.ensures.cases.0 c.in-Ok.ensures.cases.1 c.in-Some.ensures
    ∙ taken c.args.earlier.now c.in-Some.column.now c.name.result.now c.is_named.result true c.name.ensures
    c.is_named.ensures c.if-is_named.true)

pub returns : goal.returns
returns c =
    named-text c.args.columns.now (map (λ other. other.now) c.args.earlier.now) c.args.field.now c.in-Ok.name.now
    (Some c.in-Some.column.now) c.in-Ok.ensures.cases.0 c.in-Ok.ensures.cases.1 c.in-Some.ensures
    ∙ taken c.args.earlier.now c.in-Some.column.now c.name.result.now c.is_named.result false c.name.ensures
    c.is_named.ensures c.if-is_named.false
