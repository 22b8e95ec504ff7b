use Rattle.std.proofs.Common.{length, sym, ap, ◌∙◌}
use Rattle.wrows.proofs.RowFacts.{length-laid}
use Rattle.wcalls.specs.Listed.{lists_in}
use Rattle.wcalls.proofs.row_lists.RowLists.count.Goals as goal

pub returns-in-Evaluated : goal.returns-in-Evaluated
returns-in-Evaluated c =
    let cells = c.in-Evaluated.cells in
    sym (length-laid cells.width cells.count cells.cells.items) ∙ ap (λ l. length (lists_in l)) (sym c.in-Evaluated.is)
