use Rattle.std.proofs.Common.{◌≡◌, ◌∙◌, length}
use Rattle.wplanner.proofs.Rows.{laid-values}
use Rattle.wplanner.proofs.table.Table.places.Goals as goal

pub returns : goal.returns
returns c =
    let a = c.self.inside in
    let width = length a.names.items in
    let is : c.len.result ≡ width = c.len.ensures ∙ a.names.ok.0 in
    rw (← c.self.view_is, c.in_ok-places.ensures, is) (laid-values width a.rows a.cells.items c.self.invariant.filled)
