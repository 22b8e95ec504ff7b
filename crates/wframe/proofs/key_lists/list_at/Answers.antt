use Rattle.std.proofs.Common.{sym, ap, ◌∙◌}
use Rattle.wframe.specs.Cells.{meanings}
use Rattle.wframe.specs.KeyLists.{lists_of}
use Rattle.wframe.specs.Peers.{key_at}
use Rattle.wframe.specs.declared.key_lists.KeyLists.{KeyLists}
use Rattle.wframe.proofs.CellFacts.{row_at}
use Rattle.wframe.proofs.key_lists.list_at.Goals as goal

pub returns-in-Laid-clause-list : goal.returns-in-Laid-clause-list
returns-in-Laid-clause-list c =
    ap meanings c.list.ensures.list
    ∙ sym (row_at c.args.width c.args.count c.in-Laid.lists.cells.now c.args.row c.requires.row)
    ∙ sym (ap (λ (l : KeyLists). key_at (lists_of l c.args.width c.args.count) c.args.row) c.in-Laid.is)
