use Rattle.std.proofs.Common.{◌∙◌, ap, arith, get_or, map, sym, []}
use Rattle.std.proofs.lemmas.List.{get_or_past}
use Rattle.wvalues.specs.Meaning.{meaning}
use Rattle.wsegment.specs.Kept.{laid}
use Rattle.wsegment.proofs.LaidFacts.{length-laid, row-at}
use Rattle.wsegment.proofs.segment_rows.SegmentRows.row.Goals as goal

pub returns-then-row-self : goal.returns-then-row-self
returns-then-row-self c =
    let a = c.self.inside in
    ap (map meaning) c.part.ensures ∙ (row-at a.width a.count a.cells.now c.args.row c.self.invariant c.if-row-self.true).1
    ∙ ap (λ rows. get_or rows c.args.row []) c.self.view_is

pub returns-else-row-self : goal.returns-else-row-self
returns-else-row-self c =
    let a = c.self.inside in
    let rows = laid a.width a.count a.cells.now in
    let count = length-laid a.width a.count a.cells.now in
    let past = get_or_past rows c.args.row [] (omega (arith, c.if-row-self.false, count)) in
    sym past ∙ ap (λ rows. get_or rows c.args.row []) c.self.view_is
