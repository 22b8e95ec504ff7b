use Rattle.std.proofs.Common.{subst}
use Rattle.wframe.specs.FrameEnds.{HasFrames}
use Rattle.wframe.proofs.EndFacts.{peers_read}
use Rattle.wframe.proofs.frames.Frames.found_peers.Goals as goal

pub returns : goal.returns
returns c =
    let first = c.self.inside.span.from in
    let stored = c.self.inside.ends.now in
    peers_read c.args.self.now first c.args.row stored c.peers.result c.counted_from.result
    (subst (λ q. HasFrames q first stored) c.self.view_is c.self.invariant.3) c.requires
    c.peers.ensures.from c.peers.ensures.to c.counted_from.ensures.from c.counted_from.ensures.to
