use Rattle.std.proofs.Common.{ℕ, ◌-◌, ◌*◌, map, take, drop, sym, ap, ◌∙◌}
use Rattle.wvalues.specs.Meaning.{meaning}
use Rattle.wframe.specs.KeyList.{values_at}
use Rattle.wframe.specs.Peers.{key_at}
use Rattle.wframe.proofs.ListFacts.{map-slice}
use Rattle.std.specs.Prelude.{slice_range}
use Rattle.wframe.specs.Cells.{rows_of}
use Rattle.wframe.specs.KeyLists.{lists_of, rows_seen}
use Rattle.wframe.specs.declared.key_lists.KeyLists.{KeyLists}
use Rattle.wframe.proofs.CellFacts.{part_lists}
use Rattle.wframe.proofs.key_lists.part_of.Goals as goal

pub returns-in-Laid-clause-part : goal.returns-in-Laid-clause-part
returns-in-Laid-clause-part c =
    ap (rows_of c.args.width (c.args.span.to - c.args.span.from)) c.part_slice.ensures.list
    ∙ part_lists c.args.width c.args.count c.args.span.from c.args.span.to c.in-Laid.lists.cells.now c.requires.ordered c.requires.within
    ∙ sym (ap (λ (l : KeyLists). slice_range (lists_of l c.args.width c.args.count) c.args.span.from c.args.span.to) c.in-Laid.is)

pub returns-in-Placed-clause-part : goal.returns-in-Placed-clause-part
returns-in-Placed-clause-part c =
    let l = c.in-Placed.lists in
    let list = λ (number : ℕ). values_at (meaning l.null.now) l.places.now (key_at (rows_seen l.rows.now) number) in
    ap (map list) c.part_numbers.ensures.part ∙ map-slice list l.numbers.now c.args.span.from c.args.span.to
    ∙ sym (ap (λ (l : KeyLists). slice_range (lists_of l c.args.width c.args.count) c.args.span.from c.args.span.to) c.in-Placed.is)

pub returns-in-Picked-clause-part : goal.returns-in-Picked-clause-part
returns-in-Picked-clause-part c =
    let l = c.in-Picked.lists in
    let list = λ (number : ℕ). map meaning (take c.args.width (drop (number * c.args.width) l.cells.now)) in
    ap (map list) c.part_numbers-in-Picked.ensures.part ∙ map-slice list l.numbers.now c.args.span.from c.args.span.to
    ∙ sym (ap (λ (l : KeyLists). slice_range (lists_of l c.args.width c.args.count) c.args.span.from c.args.span.to) c.in-Picked.is)
