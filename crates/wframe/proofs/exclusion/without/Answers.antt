use Rattle.std.proofs.Common.{◌∙◌, ap, arith}
use Rattle.wframe.proofs.PieceFacts.{gap_rows, gap_list_of, pieces_of}
use Rattle.wframe.specs.Exclusion.{gap_of}
use Rattle.wframe.proofs.exclusion.without.Goals as goal

pub returns-clause-rows : goal.returns-clause-rows
returns-clause-rows c n h = gap_rows c.args.exclusion c.args.span c.args.peers c.args.row n c.gap_at-gap.result
    c.pieces.result c.requires.from c.requires.to c.gap_at-gap.ensures.gap (c.pieces.ensures.rows n h)

pub returns-clause-plain : goal.returns-clause-plain
returns-clause-plain c e =
    let s = c.args.span in
    let is = c.gap_at-gap.ensures.gap ∙ ap (λ x. gap_of x s c.args.row c.args.peers) e in
    c.pieces.ensures.plain (let f = ap (λ g. g.from) is in omega (arith, f))

pub returns-clause-list : goal.returns-clause-list
returns-clause-list c = c.pieces.ensures.list ∙ ap (pieces_of c.args.span) c.gap_at-gap.ensures.gap
    ∙ gap_list_of c.args.exclusion c.args.span c.args.peers c.args.row
