use Rattle.std.proofs.Common.{◌≡◌, ◌+◌, ◌-◌, ◌<◌, length, get_or, ap, ◌∙◌, arith}
use Rattle.wvalues.specs.OrderLaws.{keys_total}
use Rattle.wframe.specs.KeyRows.{key_lists, sort_keys}
use Rattle.wframe.proofs.FrameFacts.{end_behind, no_peer}
use Rattle.wframe.proofs.peers.PeerEnds.end.Goals as goal

pub returns-clause-more : goal.returns-clause-more
returns-clause-more c =
    let p = c.args.self.now in
    let end = get_or p.ends.now (get_or p.numbers.now (p.first + c.args.row) 0) 0 in
    end_behind (keys_total (sort_keys p.rows)) (key_lists p.rows) (length (key_lists p.rows)) c.args.row (end - p.first)
    c.requires (p.groups.end c.args.row c.requires).at

pub returns-clause-others : goal.returns-clause-others
returns-clause-others c =
    let p = c.args.self.now in
    let end = get_or p.ends.now (get_or p.numbers.now (p.first + c.args.row) 0) 0 in
    no_peer (keys_total (sort_keys p.rows)) (key_lists p.rows) (length (key_lists p.rows)) c.args.row (end - p.first)
    (p.groups.end c.args.row c.requires).at

pub returns-clause-same : goal.returns-clause-same
returns-clause-same c j l h =
    let p = c.args.self.now in
    let from = (p.groups.end c.args.row c.requires).from in
    p.groups.same c.args.row j l c.requires (omega (arith, from))

pub returns-clause-next : goal.returns-clause-next
returns-clause-next c h =
    let p = c.args.self.now in
    let end = get_or p.ends.now (get_or p.numbers.now (p.first + c.args.row) 0) 0 in
    let from = (p.groups.end c.args.row c.requires).from in
    let e : p.first + (end - p.first) ≡ end = omega (arith, from) in
    let l : end < p.first + length (key_lists p.rows) = omega (arith, from, h) in
    ap (λ k. get_or p.numbers.now k 0) e ∙ p.groups.next c.args.row c.requires l

pub returns-clause-last : goal.returns-clause-last
returns-clause-last c h =
    let p = c.args.self.now in
    let end = get_or p.ends.now (get_or p.numbers.now (p.first + c.args.row) 0) 0 in
    let from = (p.groups.end c.args.row c.requires).from in
    let e : end ≡ p.first + length (key_lists p.rows) = omega (arith, from, h) in
    p.groups.done c.args.row c.requires e
