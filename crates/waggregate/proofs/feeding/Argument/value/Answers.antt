use Rattle.std.proofs.Common.{◌<◌, get_or, sym, ap, subst, ◌∙◌}
use Rattle.wvalues.specs.Meaning.{Null}
use Rattle.wframe.specs.Places.{places}
use Rattle.waggregate.specs.Feeding.{rows_of, values_of}
use Rattle.waggregate.proofs.ArgumentFacts.{cell_found, null_at}
use Rattle.waggregate.proofs.feeding.Argument.value.Goals as goal

pub returns-in-Null : goal.returns-in-Null
returns-in-Null c = sym (null_at (places c.in-Null.field-0) c.args.row)
    ∙ ap (λ a. get_or (values_of a) c.args.row Null) (sym c.in-Null.is)

pub returns-in-Column : goal.returns-in-Column
returns-in-Column c =
    cell_found c.in-Column.place c.args.row c.in-Column.rows.now c.index-rows-row.result c.cell_at.result
    (subst (λ a. c.args.row < rows_of a) c.in-Column.is c.requires) c.index-rows-row.is c.cell_at.ensures.some c.cell_at.ensures.none
    ∙ ap (λ a. get_or (values_of a) c.args.row Null) (sym c.in-Column.is)
