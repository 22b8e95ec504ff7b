use Rattle.std.proofs.Common.{◌<◌, ◌+◌, ap, ◌∙◌, arith}
use Rattle.wvalues.specs.OrderLaws.{keys_total}
use Rattle.wframe.specs.KeyRows.{key_lists, sort_keys}
use Rattle.wframe.proofs.NumberFacts.{first_row, peer_before, other_before}
use Rattle.wframe.proofs.groups.next_number.Goals as goal

pub returns-then-row-eq0-clause-number : goal.returns-then-row-eq0-clause-number
returns-then-row-eq0-clause-number c =
    let p = c.args.peers.now in
    first_row (keys_total (sort_keys p.rows)) (key_lists p.rows) p.ordered c.args.row c.if-row-eq0.true c.requires.row

pub returns-then-end-row-clause-number : goal.returns-then-end-row-clause-number
returns-then-end-row-clause-number c =
    let p = c.args.peers.now in
    let row = c.args.row in
    let some : 0 < row = omega arith in
    ap (λ n. n + 1) (c.requires.last some) ∙ other_before (keys_total (sort_keys p.rows)) (key_lists p.rows) p.ordered row
    some c.requires.row (c.end.ensures.others row (omega arith) c.requires.row)

pub returns-clause-number : goal.returns-clause-number
returns-clause-number c =
    let p = c.args.peers.now in
    let row = c.args.row in
    let some : 0 < row = omega arith in
    let more = c.end.ensures.more in
    c.requires.last some ∙ peer_before (keys_total (sort_keys p.rows)) (key_lists p.rows) p.ordered row some
    (c.end.ensures.peers row (omega arith) (omega (arith, more)))
