use Rattle.std.proofs.Common.{map, ap, ◌∙◌}
use Rattle.wprinted.specs.Printing.{table_text, values_at}
use Rattle.wplanner.proofs.printing.print.Goals as goal

pub returns : goal.returns
returns c =
    let table = c.args.table.now in
    c.in_ok-bytes.ensures
    ∙ ap (λ names. table_text names (map (values_at c.deref.result.now) table.rows)) c.names.ensures
    ∙ ap (λ places. table_text table.names (map (values_at places) table.rows)) c.deref.ensures.value
    ∙ ap (table_text table.names) c.in_ok-places.ensures
