use Rattle.std.proofs.Common.{◌≡◌, ◌≤◌, [], ◌∷◌, length, ap, ◌∙◌, arith}
use Rattle.wframe.specs.declared.frame.Span.{Span}
use Rattle.wframe.specs.declared.frame.FrameExclusion.{FrameExclusion}
use Rattle.wframe.specs.Gaps.{peer_span, before_gap, within_gap, behind_gap}
use Rattle.wframe.specs.Frame.{frame_extent}
use Rattle.wframe.proofs.EndFacts.{frame_is, apart_wider}
use Rattle.wframe.proofs.FrameFacts.{frame_left}
use Rattle.wframe.proofs.frames.Frames.frame.Goals as goal

is : (c : goal.After-without) → c.found_extent.result ≡ frame_extent c.args.self.now c.args.row
is c = frame_is c.args.self.now c.args.row c.found_extent.result c.found_extent.ensures.frame

within : (c : goal.After-without) → c.found_extent.result.to ≤ length c.args.self.now.keys
within c =
    let f = c.found_extent.ensures.frame in
    omega (arith, f.start.within, f.end.within, f.to)

pub returns-clause-rows : goal.returns-clause-rows
returns-clause-rows c =
    let p = c.args.self.now in
    frame_left p c.args.row c.found_extent.result c.peers.result c.self.inside.frame.exclusion c.without.result
    c.found_extent.ensures.frame.start c.found_extent.ensures.frame.end (is c)
    (ap (λ q. q.frame.exclusion) c.self.view_is) c.peers.ensures.each (c.without.ensures.rows (length p.keys) (within c))

pub returns-clause-within : goal.returns-clause-within
returns-clause-within c = apart_wider c.found_extent.result.from c.found_extent.result.to 0 (length c.args.self.now.keys)
    c.without.result (omega arith) (within c) c.without.ensures.apart

pub returns-clause-list : goal.returns-clause-list
returns-clause-list c =
    let p = c.args.self.now in
    let row = c.args.row in
    let pieces = λ (x : FrameExclusion) (s peers : Span). before_gap x s row peers ∷ within_gap x s row peers ∷ behind_gap x
    s row peers ∷ [] in
    c.without.ensures.list
    ∙ ap (λ s. pieces c.self.inside.frame.exclusion s c.peers.result) (is c)
    ∙ ap (λ s. pieces c.self.inside.frame.exclusion (frame_extent p row) s) c.peers.ensures.span
    ∙ ap (λ q. pieces q.frame.exclusion (frame_extent p row) (peer_span p row)) c.self.view_is
