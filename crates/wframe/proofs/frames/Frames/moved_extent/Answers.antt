use Rattle.std.proofs.Common.{◌≡◌, ◌+◌, ◌<◌, subst, sym, ap, ◌∙◌, length}
use Rattle.wframe.specs.declared.frame.FrameMode.TheVariants.{Rows}
use Rattle.wframe.specs.KeyRows.{key_lists, sort_keys}
use Rattle.wframe.specs.Moves.{move_of, moved_number}
use Rattle.wframe.specs.FrameEnds.{IsFrameOf}
use Rattle.wframe.specs.Partition.{Partition}
use Rattle.wframe.proofs.EndFacts.{frame_moved}
use Rattle.wframe.proofs.frames.Frames.moved_extent.Goals as goal

pub returns : goal.returns
returns c =
    let f = c.self.inside in
    let row = c.args.row in
    let n = length (key_lists f.rows) in
    let count = c.count-count.result in
    let p : Partition = record { order = sort_keys f.rows; keys = key_lists f.rows; frame = f.frame } in
    subst (λ q. IsFrameOf q row c.moved_span.result) c.self.view_is
    (frame_moved p row (moved_number f.start count row) (moved_number f.end count (row + 1)) c.moved_span.result
    (subst (λ q. q.frame.mode ≡ Rows) (sym c.self.view_is) c.requires.mode)
    (subst (λ q. row < length q.keys) (sym c.self.view_is) c.requires.row)
    (ap (λ m. moved_number m count row) c.self.invariant.1 ∙ ap (λ k. moved_number (move_of f.frame.start n) k row) c.count-count.ensures)
    (ap (λ m. moved_number m count (row + 1)) c.self.invariant.2
    ∙ ap (λ k. moved_number (move_of f.frame.end n) k (row + 1)) c.count-count.ensures)
    c.moved_span.ensures.from c.moved_span.ensures.to)
