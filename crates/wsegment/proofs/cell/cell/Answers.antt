use Rattle.std.proofs.Common.{inr, sym, subst}
use Rattle.wvalues.specs.Meaning.{meaning}
use Rattle.wsegment.specs.Outcome.{Gives}
use Rattle.wsegment.proofs.CellFacts.{cell-empty, cell-no_text, cell-typed}
use Rattle.wsegment.proofs.cell.cell.Goals as goal

pub returns-in_default-clause-gives : goal.returns-in_default-clause-gives
returns-in_default-clause-gives c = inr (cell-no_text c.args.row c.args.kind c.args.field.now c.in_default.ensures)

pub returns-then-is_empty-clause-gives : goal.returns-then-is_empty-clause-gives
returns-then-is_empty-clause-gives c = cell-empty c.args.row c.args.kind c.args.field.now c.in-Some.text.now
    c.in-Some.ensures.0 c.in-Some.ensures.1 c.if-is_empty.ensures

pub returns-then-is_empty-clause-refused : goal.returns-then-is_empty-clause-refused
returns-then-is_empty-clause-refused c = λ no_text. absurd (no_text c.in-Some.ensures.1)

pub returns-clause-refused : goal.returns-clause-refused
returns-clause-refused c = λ no_text. absurd (no_text c.in-Some.ensures.1)

pub returns-clause-gives : goal.returns-clause-gives
returns-clause-gives c =
    subst (Gives meaning c.typed.result) (sym (cell-typed c.args.row c.args.kind c.args.field.now c.in-Some.text.now
    c.in-Some.ensures.0 c.in-Some.ensures.1 c.if-is_empty.ensures)) c.typed.ensures
