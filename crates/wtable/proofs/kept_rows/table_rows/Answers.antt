use Rattle.std.proofs.Common.{◌∙◌, ◌++◌, append-nil, ap, sym}
use Rattle.std.specs.List.{flat_map}
use Rattle.wrows.specs.Laid.{rows_seen}
use Rattle.wtable.specs.Tables.{rows_of_set}
use Rattle.wtable.proofs.SourceFacts.{more_rows, set_rows}
use Rattle.wtable.proofs.kept_rows.table_rows.Goals as goal

pub segments-init : goal.segments-init
segments-init c =
    rw c.in_ok-rows.ensures.items (ap (flat_map (λ e. e.1.rows)) c.into_iter-segment-iterator.ensures.into_iter_gives
    ∙ set_rows c.args.set.now c.lives-segment-items.result c.lives-segment-items.ensures)

pub segments-preserved : goal.segments-preserved
segments-preserved c =
    more_rows (rows_seen c.segments.rows.items) (rows_seen c.push_rows.new.rows.items) (rows_of_set c.args.set.now) _ _ _
    c.in-Some.ensures.steps c.segments.invariant c.in_ok-push_rows.ensures

pub returns : goal.returns
returns c =
    sym (append-nil (rows_seen c.segments.rows.items))
    ∙ ap (λ l. rows_seen c.segments.rows.items ++ flat_map (λ e. e.1.rows) l) (sym c.in-None.ensures.steps.0) ∙ c.segments.invariant
