use Rattle.std.proofs.Common.{◌≡◌, ◌<◌, true, false, subst, sym, ap, ◌∙◌, length}
use Rattle.wvalues.specs.Order.{keys_cmp}
use Rattle.wframe.specs.KeyRows.{key_lists, sort_keys}
use Rattle.wframe.specs.Moves.{move_of, moved_number}
use Rattle.wframe.specs.FrameEnds.{IsFrameOf}
use Rattle.wframe.specs.Offsets.{moves_groups}
use Rattle.wframe.specs.Partition.{Partition}
use Rattle.wframe.specs.Partitions.{IsGroup}
use Rattle.wframe.specs.Ties.{takes_groups}
use Rattle.wframe.proofs.PeerFacts.{frame_by_peers}
use Rattle.wframe.proofs.frames.Frames.peer_extent.Goals as goal

pub returns : goal.returns
returns c =
    let f = c.self.inside in
    let row = c.args.row in
    let n = length (key_lists f.rows) in
    let count = c.count.result in
    let peers = c.found_peers-peers.result in
    let p : Partition = record { order = sort_keys f.rows; keys = key_lists f.rows; frame = f.frame } in
    subst (λ q. IsFrameOf q row c.moved_span.result) c.self.view_is
    (frame_by_peers p row (moved_number f.start count peers.from) (moved_number f.end count peers.to) peers
    c.moved_span.result c.self.invariant.3.ordered
    (subst (λ q. takes_groups q.frame.mode ≡ true) (sym c.self.view_is) c.requires.mode)
    (subst (λ q. moves_groups q.frame ≡ false) (sym c.self.view_is) c.requires.moves)
    (subst (λ q. row < length q.keys) (sym c.self.view_is) c.requires.row)
    (subst (λ q. IsGroup (keys_cmp q.order) q.keys row peers) (sym c.self.view_is) c.found_peers-peers.ensures)
    (ap (λ m. moved_number m count peers.from) c.self.invariant.1
    ∙ ap (λ k. moved_number (move_of f.frame.start n) k peers.from) c.count.ensures)
    (ap (λ m. moved_number m count peers.to) c.self.invariant.2 ∙ ap (λ k. moved_number (move_of f.frame.end n) k peers.to) c.count.ensures)
    c.moved_span.ensures.from c.moved_span.ensures.to)
