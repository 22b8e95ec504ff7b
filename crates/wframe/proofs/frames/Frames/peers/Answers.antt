use Rattle.std.proofs.Common.{length}
use Rattle.wframe.specs.Peers.{is_before, is_upto}
use Rattle.wframe.specs.Gaps.{peer_span}
use Rattle.wvalues.specs.Order.{keys_cmp}
use Rattle.wvalues.specs.OrderLaws.{keys_total}
use Rattle.wframe.proofs.EndFacts.{smaller_count, span_is}
use Rattle.wframe.proofs.FrameFacts.{cut_count, peers_filter, peers_from, peers_to, in_peers}
use Rattle.wframe.proofs.frames.Frames.peers.Goals as goal

pub returns-clause-peers : goal.returns-clause-peers
returns-clause-peers c =
    let p = c.args.self.now in
    peers_filter (keys_total p.order) p.keys (length p.keys) c.args.row c.found_peers.result.from c.found_peers.result.to
    c.requires c.found_peers.ensures.start c.found_peers.ensures.end

pub returns-clause-each : goal.returns-clause-each
returns-clause-each c =
    let p = c.args.self.now in
    in_peers (keys_total p.order) p.keys (length p.keys) c.args.row c.found_peers.result.from c.found_peers.result.to
    c.requires c.found_peers.ensures.start c.found_peers.ensures.end

pub returns-clause-smaller : goal.returns-clause-smaller
returns-clause-smaller c =
    let p = c.args.self.now in
    smaller_count (keys_cmp p.order) p.keys c.args.row c.found_peers.result.from c.found_peers.ensures.start

pub returns-clause-from : goal.returns-clause-from
returns-clause-from c =
    let p = c.args.self.now in
    peers_from (keys_total p.order) p.keys (length p.keys) c.args.row c.found_peers.result.from c.found_peers.result.to
    c.requires c.found_peers.ensures.start c.found_peers.ensures.end

pub returns-clause-to : goal.returns-clause-to
returns-clause-to c =
    let p = c.args.self.now in
    peers_to (keys_total p.order) p.keys (length p.keys) c.args.row c.found_peers.result.from c.found_peers.result.to
    c.requires c.found_peers.ensures.start c.found_peers.ensures.end

pub returns-clause-within : goal.returns-clause-within
returns-clause-within c = c.found_peers.ensures.end.within

pub returns-clause-span : goal.returns-clause-span
returns-clause-span c =
    let p = c.args.self.now in
    let peers = peer_span p c.args.row in
    span_is c.found_peers.result peers.from peers.to
    (cut_count (length p.keys) (is_before (keys_cmp p.order) p.keys c.args.row) c.found_peers.result.from c.found_peers.ensures.start)
    (cut_count (length p.keys) (is_upto (keys_cmp p.order) p.keys c.args.row) c.found_peers.result.to c.found_peers.ensures.end)
