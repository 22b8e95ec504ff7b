use Rattle.std.proofs.Common.{subst}
use Rattle.wframe.specs.FrameEnds.{HasFrames}
use Rattle.wframe.proofs.EndFacts.{frame_read}
use Rattle.wframe.proofs.frames.Frames.kept_extent.Goals as goal

pub returns : goal.returns
returns c =
    let first = c.self.inside.span.from in
    let stored = c.self.inside.ends.now in
    frame_read c.args.self.now first c.args.row stored c.extent.result c.counted_from.result
    (subst (λ q. HasFrames q first stored) c.self.view_is c.self.invariant.3) c.requires.moves c.requires.row
    c.extent.ensures.from c.extent.ensures.to c.counted_from.ensures.from c.counted_from.ensures.to
