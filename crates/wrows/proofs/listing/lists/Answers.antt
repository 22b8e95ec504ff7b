use Rattle.std.proofs.Common.{List, Vec, Global, length, subst}
use Rattle.wvalues.specs.declared.value.Value.{Value}
use Rattle.wrows.specs.Outcomes.{Gives}
use Rattle.wrows.specs.Columns.{Row, lists_of}
use Rattle.wsort.specs.LaidRows.{laid}
use Rattle.wrows.specs.Laid.{formulas_seen, rows_seen}
use Rattle.wrows.proofs.PickFacts.{beside_none}
use Rattle.wrows.proofs.listing.lists.Goals as goal

pub returns-clause-gives : goal.returns-clause-gives
returns-clause-gives c =
    let view : Vec Value Global → List Row = λ cells. laid (length c.args.exprs.now) (length c.args.rows.now) cells.items in
    let P : List Row → Type 0 = λ all. Gives view c.evaluated_beside.result (lists_of (formulas_seen c.args.exprs.now) all) in
    subst P (beside_none (rows_seen c.args.rows.now)) c.evaluated_beside.ensures.gives
