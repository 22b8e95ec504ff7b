use Rattle.std.proofs.Common.{length, subst, sym, ap, ◌∙◌, arith}
use Rattle.wframe.specs.Frame.{frame_start, frame_end, frame_extent}
use Rattle.wframe.specs.Places.{IsRisen, span_places}
use Rattle.wframe.proofs.EndFacts.{frame_is}
use Rattle.wframe.proofs.FrameFacts.{plain_rows}
use Rattle.wframe.proofs.LawFacts.{spans_rise}
use Rattle.wframe.proofs.frames.Frames.extent.Goals as goal

pub returns-clause-span : goal.returns-clause-span
returns-clause-span c = frame_is c.args.self.now c.args.row c.found_extent.result c.found_extent.ensures.frame

pub returns-clause-ordered : goal.returns-clause-ordered
returns-clause-ordered c = let f = c.found_extent.ensures.frame.from in let t = c.found_extent.ensures.frame.to in omega (arith, f, t)

pub returns-clause-within : goal.returns-clause-within
returns-clause-within c =
    let f = c.found_extent.ensures.frame.start.within in
    let e = c.found_extent.ensures.frame.end.within in
    let t = c.found_extent.ensures.frame.to in
    omega (arith, f, e, t)

pub returns-clause-risen : goal.returns-clause-risen
returns-clause-risen c before l =
    let p = c.args.self.now in
    subst (IsRisen (length p.keys) (frame_extent p before))
    (sym (frame_is p c.args.row c.found_extent.result c.found_extent.ensures.frame))
    (spans_rise p before c.args.row c.found_extent.ensures.ordered l c.requires)

pub returns-clause-rows : goal.returns-clause-rows
returns-clause-rows c e =
    let p = c.args.self.now in
    ap span_places (frame_is p c.args.row c.found_extent.result c.found_extent.ensures.frame)
    ∙ plain_rows p c.args.row (frame_start p c.args.row) (frame_end p c.args.row) c.found_extent.ensures.frame.start
    c.found_extent.ensures.frame.end e
