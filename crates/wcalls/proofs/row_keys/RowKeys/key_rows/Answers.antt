use Rattle.std.proofs.Common.{◌≡◌, ℕ, ◌+◌, ◌*◌, ◌<◌, ◌≤◌, List, length, map, take, drop, sym, ap, subst, ◌∙◌}
use Rattle.std.specs.Prelude.{All}
use Rattle.wvalues.specs.declared.value.Value.{Value}
use Rattle.wvalues.specs.Meaning.{meaning}
use Rattle.wframe.specs.Peers.{key_at}
use Rattle.wrows.specs.declared.cells.Cells.{Cells}
use Rattle.wcalls.specs.declared.row_lists.RowLists.{RowLists}
use Rattle.wcalls.specs.declared.row_lists.RowLists.TheVariants.{Evaluated}
use Rattle.wcalls.specs.Listed.{lists_in, width_of}
use Rattle.wcalls.proofs.ListFacts.{picked_lists, picked_within}
use Rattle.wcalls.proofs.row_keys.RowKeys.key_rows.Goals as goal

-- the cells are of the lists' width
wide_as : (l : RowLists) (cells : Cells) (width keys : ℕ) → l ≡ Evaluated cells → width_of l ≡ width → keys ≡ width → cells.width ≡ keys
wide_as l cells width keys is wide same = sym (ap width_of is) ∙ wide ∙ sym same

pub picked-requires : goal.picked-requires
picked-requires c =
    let keys = c.args.self.now in
    let cells = c.in-Evaluated.cells in
    let orders = c.deref-in-Evaluated.result.now in
    let wide = wide_as keys.lists cells (length keys.orders.items) (length orders) c.in-Evaluated.is keys.wide
    (ap length c.deref-in-Evaluated.ensures.value) in
    let below = subst (λ (l : RowLists). All (λ i. i < length (lists_in l)) c.args.numbers.now) c.in-Evaluated.is c.requires in
    subst (λ (items : List Value). All (λ i. i * length orders + length orders ≤ length items) c.args.numbers.now)
    (sym c.deref.ensures.value) (picked_within cells (length orders) c.args.numbers.now wide below)

pub returns-in-Evaluated-clause-lists : goal.returns-in-Evaluated-clause-lists
returns-in-Evaluated-clause-lists c =
    let keys = c.args.self.now in
    let cells = c.in-Evaluated.cells in
    let orders = c.deref-in-Evaluated.result.now in
    let wide = wide_as keys.lists cells (length keys.orders.items) (length orders) c.in-Evaluated.is keys.wide
    (ap length c.deref-in-Evaluated.ensures.value) in
    let below = subst (λ (l : RowLists). All (λ i. i < length (lists_in l)) c.args.numbers.now) c.in-Evaluated.is c.requires in
    c.picked.ensures.lists
    ∙ ap (λ (items : List Value). map (λ number. map meaning (take (length orders) (drop (number * length orders) items)))
    c.args.numbers.now) c.deref.ensures.value
    ∙ picked_lists cells (length orders) c.args.numbers.now wide below
    ∙ sym (ap (λ (l : RowLists). map (key_at (lists_in l)) c.args.numbers.now) c.in-Evaluated.is)
