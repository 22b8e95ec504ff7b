use Rattle.std.proofs.Common.{◌≡◌, ◌-◌, ◌≤◌, ap, ◌∙◌, arith}
use Rattle.std.proofs.lemmas.Bool.Decides.{nat_tests}
use Rattle.wframe.specs.declared.frame.Span.{Span}
use Rattle.wframe.specs.Frame.{frame_extent, frame_start}
use Rattle.wslide.proofs.running.begin_together.Goals as goal

pub returns-clause-all : goal.returns-clause-all
returns-clause-all c is row below =
    let last : row ≤ c.count-rows.result - 1 = omega (arith, below, c.count-rows.ensures.count) in
    let before : frame_start c.args.frames.now row ≤ c.extent.result.from = (c.extent.ensures.risen row last).from in
    let zero : c.extent.result.from ≡ 0 = grind (arith, nat_tests, is) in
    omega (arith, before, zero)

pub returns-clause-found : goal.returns-clause-found
returns-clause-found c some zero =
    let frames = c.args.frames.now in
    let first : c.extent.result.from ≡ 0 = ap (λ (s : Span). s.from) c.extent.ensures.span
    ∙ ap (λ rows. (frame_extent frames (rows - 1)).from) c.count-rows.ensures.count ∙ zero in
    grind (arith, nat_tests, first)
