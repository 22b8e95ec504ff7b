use Rattle.std.proofs.Common.{length, take, ap, sym, ◌∙◌, arith}
use Rattle.std.proofs.lemmas.List.{length-map}
use Rattle.wrows.specs.Laid.{row_seen, rows_seen}
use Rattle.wtable.specs.Tables.{rows_of_set}
use Rattle.wtable.proofs.FrontFacts.{front_full, front_more, front_none, front_whole}
use Rattle.wtable.proofs.HeldFacts.{rows_left}
use Rattle.wtable.proofs.SourceFacts.{set_rows}
use Rattle.wtable.proofs.front.front_rows.Goals as goal

pub segments-init : goal.segments-init
segments-init c =
    front_none (rows_seen c.in_ok-rows.rows.items) c.args.most (rows_of_set c.args.set.now) _ (ap rows_seen c.in_ok-rows.ensures.items)
    (ap rows_left c.into_iter-segment-iterator.ensures.into_iter_gives
    ∙ set_rows c.args.set.now c.lives-segment-items.result c.lives-segment-items.ensures)

pub segments-preserved : goal.segments-preserved
segments-preserved c =
    front_more (rows_seen c.segments.rows.items) (rows_seen c.push_front.new.rows.items) c.args.most (length c.segments.rows.items)
    (take c.args.most (rows_of_set c.args.set.now)) _ _ _ (sym (length-map c.segments.rows.items row_seen)) c.in-Some.ensures.steps
    c.segments.invariant c.in_ok-push_front.ensures

pub returns : goal.returns
returns c =
    front_whole (rows_seen c.segments.rows.items) c.args.most (take c.args.most (rows_of_set c.args.set.now))
    (rows_left c.segments.segment-iterator) (ap rows_left c.in-None.ensures.steps.0) c.segments.invariant

pub returns-then-len-most : goal.returns-then-len-most
returns-then-len-most c =
    front_full (rows_seen c.segments.rows.items) c.args.most (length c.segments.rows.items)
    (take c.args.most (rows_of_set c.args.set.now)) (rows_left c.segments.segment-iterator)
    (sym (length-map c.segments.rows.items row_seen)) (omega (arith, c.if-len-most.true, c.len.ensures)) c.segments.invariant
