use Rattle.std.proofs.Common.{refl}
use Rattle.wframe.proofs.PieceFacts.{pieces_rows}
use Rattle.wframe.proofs.exclusion.pieces.Goals as goal

pub returns-clause-rows : goal.returns-clause-rows
returns-clause-rows c n h =
    let x = c.clip-a.ensures in
    let y = c.clip-b.ensures in
    let z = c.clip-c.ensures in
    let w = c.clip-d.ensures in
    pieces_rows c.args.span.from c.args.span.to c.args.a c.args.b c.args.c c.args.d c.clip-a.result c.clip-b.result
    c.clip-c.result c.clip-d.result n
    c.requires.span c.requires.first c.requires.second c.requires.third
    (record { low = x.low; high = x.high; before = x.before; after = x.after; inside = x.inside })
    (record { low = y.low; high = y.high; before = y.before; after = y.after; inside = y.inside })
    (record { low = z.low; high = z.high; before = z.before; after = z.after; inside = z.inside })
    (record { low = w.low; high = w.high; before = w.before; after = w.after; inside = w.inside })
    h

pub returns-clause-list : goal.returns-clause-list
returns-clause-list c = rw (c.clip-a.ensures.nearest, c.clip-b.ensures.nearest, c.clip-c.ensures.nearest, c.clip-d.ensures.nearest) refl
