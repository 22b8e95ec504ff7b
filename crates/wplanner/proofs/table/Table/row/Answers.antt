use Rattle.std.proofs.Common.{◌≡◌, ◌∙◌, ◌+◌, ◌*◌, ◌<◌, ◌≤◌, drop, length, sym, arith}
use Rattle.std.proofs.lemmas.List.{length-drop, length-map, length-take-le}
use Rattle.std.specs.Rc.{rc_str_bytes}
use Rattle.wrows.proofs.RowFacts.{length-laid, row_at, row_within}
use Rattle.wplanner.proofs.table.Table.row.Goals as goal

pub slice_of-requires : goal.slice_of-requires
slice_of-requires c =
    let a = c.self.inside in
    let width = length a.names.items in
    let row : c.args.row < a.rows = rw (← c.self.view_is, length-laid width a.rows a.cells.items) at c.requires in
    let is : c.len-width.result ≡ width = c.len-width.ensures ∙ a.names.ok.0 in
    rw is (omega (arith, row_within width a.rows c.args.row row, c.self.invariant.filled))

pub returns-clause-values : goal.returns-clause-values
returns-clause-values c =
    let a = c.self.inside in
    let width = length a.names.items in
    let row : c.args.row < a.rows = rw (← c.self.view_is, length-laid width a.rows a.cells.items) at c.requires in
    let is : c.len-width.result ≡ width = c.len-width.ensures ∙ a.names.ok.0 in
    rw (← c.self.view_is, c.slice_of.ensures.list, is, c.deref.ensures.value) (sym (row_at width a.rows a.cells.items c.args.row row))

pub returns-clause-whole : goal.returns-clause-whole
returns-clause-whole c =
    let a = c.self.inside in
    let width = length a.names.items in
    let row : c.args.row < a.rows = rw (← c.self.view_is, length-laid width a.rows a.cells.items) at c.requires in
    let is : c.len-width.result ≡ width = c.len-width.ensures ∙ a.names.ok.0 in
    let inside : c.args.row * width + width ≤ length a.cells.items =
    omega (arith, row_within width a.rows c.args.row row, c.self.invariant.filled) in
    let behind : width ≤ length (drop (c.args.row * width) a.cells.items) =
    omega (arith, inside, length-drop (c.args.row * width) a.cells.items) in
    rw (← c.self.view_is, c.slice_of.ensures.list, is, c.deref.ensures.value)
    (length-take-le width (drop (c.args.row * width) a.cells.items) behind ∙ sym (length-map a.names.items rc_str_bytes))
