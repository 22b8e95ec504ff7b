use Rattle.std.proofs.Common.{◌∙◌, ◌++◌, map, append-nil, ap, sym}
use Rattle.wset.specs.Running.{live_rows}
use Rattle.wtable.proofs.LiveFacts.{lent_rows_are}
use Rattle.wtable.proofs.ReferenceFacts.{segment_more}
use Rattle.wtable.proofs.referenced.live_segments.Goals as goal

pub live-init : goal.live-init
live-init c =
    rw c.new-segments.ensures.items (ap (map (λ e. e.1.rows)) c.into_iter-kept-iterator.ensures.into_iter_gives
    ∙ lent_rows_are c.args.set.now c.lives-kept-items.result c.lives-kept-items.ensures)

pub live-preserved : goal.live-preserved
live-preserved c =
    segment_more c.live.segments.items c.push.new.self.items (live_rows c.args.set.now) _ _ _ _ c.in-Some.ensures.steps
    c.live.invariant c.in_ok-push.ensures.items (c.lent_rows.ensures ∙ ap (λ content. content.rows) c.in_ok-segment.ensures)

pub returns : goal.returns
returns c =
    sym (append-nil c.live.segments.items)
    ∙ ap (λ l. c.live.segments.items ++ map (λ e. e.1.rows) l) (sym c.in-None.ensures.steps.0) ∙ c.live.invariant
