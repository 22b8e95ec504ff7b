use Rattle.std.proofs.Common.{◌*◌, length, sym, ap, ◌∙◌}
use Rattle.std.specs.Ordering.{on}
use Rattle.wvalues.specs.Order.{keys_cmp}
use Rattle.wframe.specs.Peers.{key_at}
use Rattle.wframe.specs.Sorting.{sorted}
use Rattle.wrows.specs.LaidRows.{laid}
use Rattle.wcalls.proofs.row_keys.laid_order.Goals as goal

pub resorted_numbers-requires-clause-laid : goal.resorted_numbers-requires-clause-laid
resorted_numbers-requires-clause-laid c =
    let cells = c.args.cells.now in
    ap length c.deref.ensures.value ∙ cells.laid ∙ ap (λ w. cells.count * w) c.requires.wide

pub returns : goal.returns
returns c =
    let cells = c.args.cells.now in
    let orders = c.args.orders.now in
    let rows = c.args.rows.items in
    c.in_ok-order.ensures.order
    ∙ ap (λ l. sorted (on (key_at (laid (length orders) cells.count l)) (keys_cmp orders)) rows) c.deref.ensures.value
    ∙ ap (λ w. sorted (on (key_at (laid w cells.count cells.cells.items)) (keys_cmp orders)) rows) (sym c.requires.wide)
