use Rattle.std.proofs.Common.{◌*◌, length, sym, ap, ◌∙◌}
use Rattle.std.specs.Ordering.{on}
use Rattle.wvalues.specs.Order.{keys_cmp}
use Rattle.wframe.specs.Peers.{key_at}
use Rattle.wframe.specs.Sorting.{sorted}
use Rattle.wrows.specs.LaidRows.{laid}
use Rattle.wcalls.proofs.row_keys.copied_order.Goals as goal

pub resorted_numbers-requires-clause-laid : goal.resorted_numbers-requires-clause-laid
resorted_numbers-requires-clause-laid c =
    ap length c.deref.ensures.value ∙ c.in_ok-cells.ensures.laid ∙ ap (λ w. length c.args.columns.now.rows.now * w) c.requires.wide

pub returns : goal.returns
returns c =
    let orders = c.args.orders.now in
    let rows = c.args.rows.items in
    let n = length c.args.columns.now.rows.now in
    c.in_ok-order.ensures.order
    ∙ ap (λ l. sorted (on (key_at (laid (length orders) n l)) (keys_cmp orders)) rows) c.deref.ensures.value
    ∙ ap (λ w. sorted (on (key_at (laid w n c.in_ok-cells.cells.items)) (keys_cmp orders)) rows) (sym c.requires.wide)
    ∙ ap (λ lists. sorted (on (key_at lists) (keys_cmp orders)) rows) c.in_ok-cells.ensures.rows
