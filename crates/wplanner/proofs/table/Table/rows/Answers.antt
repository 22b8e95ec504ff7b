use Rattle.std.proofs.Common.{◌∙◌, length, sym, ap}
use Rattle.wrows.proofs.RowFacts.{length-laid}
use Rattle.wplanner.proofs.table.Table.rows.Goals as goal

pub returns : goal.returns
returns c =
    let a = c.self.inside in
    sym (ap (λ parts. length parts.rows) (sym c.self.view_is) ∙ length-laid (length a.names.items) a.rows a.cells.items)
