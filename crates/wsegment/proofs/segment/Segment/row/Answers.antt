use Rattle.std.proofs.Common.{◌∙◌, ◌<◌, ◌*◌, ap, arith, drop, get_or, length, map, take, []}
use Rattle.wvalues.specs.Meaning.{meaning}
use Rattle.wsegment.proofs.KeptFacts.{rows-count}
use Rattle.wsegment.proofs.LaidFacts.{row-at, row-within}
use Rattle.wsegment.proofs.segment.Segment.row.Goals as goal

pub part-requires : goal.part-requires
part-requires c =
    let a = c.self.inside in
    let row : c.args.row < a.rows.count = rw (← c.self.view_is, rows-count a) at c.requires in
    rw c.deref.ensures.value (omega (arith, row-within a.rows.width a.rows.count c.args.row row, c.self.invariant.filled))

pub returns-clause-values : goal.returns-clause-values
returns-clause-values c =
    let a = c.self.inside in
    let row : c.args.row < a.rows.count = rw (← c.self.view_is, rows-count a) at c.requires in
    ap (map meaning) (c.part.ensures ∙ ap (λ cells. take a.rows.width (drop (c.args.row * a.rows.width) cells)) c.deref.ensures.value)
    ∙ (row-at a.rows.width a.rows.count a.rows.cells.items c.args.row c.self.invariant.filled row).1
    ∙ ap (λ content. get_or content.rows c.args.row []) c.self.view_is

pub returns-clause-width : goal.returns-clause-width
returns-clause-width c =
    let a = c.self.inside in
    let row : c.args.row < a.rows.count = rw (← c.self.view_is, rows-count a) at c.requires in
    ap length (c.part.ensures ∙ ap (λ cells. take a.rows.width (drop (c.args.row * a.rows.width) cells)) c.deref.ensures.value)
    ∙ (row-at a.rows.width a.rows.count a.rows.cells.items c.args.row c.self.invariant.filled row).0
    ∙ ap (λ content. content.columns) c.self.view_is
