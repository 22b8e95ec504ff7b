use Rattle.std.proofs.Common.{◌≡◌, map, ap, ◌∙◌}
use Rattle.wset.specs.Running.{live_rows}
use Rattle.wrows.specs.Laid.{rows_seen}
use Rattle.wtable.specs.Referenced.{referenced_row}
use Rattle.wtable.proofs.referenced.referenced_rows.Goals as goal

pub returns : goal.returns
returns c =
    let same : rows_seen c.in_ok-rows.rows.items ≡ map (referenced_row (live_rows c.args.set.now)) c.args.refs.now =
    c.in_ok-rows.ensures ∙ ap (λ l. map (referenced_row l) c.args.refs.now) c.deref.ensures.value
    ∙ ap (λ l. map (referenced_row l) c.args.refs.now) c.in_ok-segments.ensures in
    rw (← same) c.not_too_many.ensures
