use Rattle.std.proofs.Common.{◌∙◌, ◌++◌, ◌∷◌, [], length, map, append-nil, ap, sym, arith}
use Rattle.std.specs.List.{flat_map}
use Rattle.std.proofs.lemmas.List.{length-map}
use Rattle.wset.specs.Running.{live_rows}
use Rattle.wrows.specs.Laid.{row_seen, rows_seen}
use Rattle.wtable.specs.TableOrders.{starts_from}
use Rattle.wtable.specs.Tables.{rows_of_set}
use Rattle.wtable.proofs.LiveFacts.{lent_rows_are}
use Rattle.wtable.proofs.NumberFacts.{appended_long, starts_left}
use Rattle.wtable.proofs.SourceFacts.{more_rows, set_rows}
use Rattle.wtable.proofs.numbered_rows.all_rows.Goals as goal

pub segments-init : goal.segments-init
segments-init c = record {
  so_far = rw c.in_ok-rows.ensures.items (ap (flat_map (λ e. e.1.rows)) c.into_iter-segment-iterator.ensures.into_iter_gives
      ∙ set_rows c.args.set.now c.lives-segment-items.result c.lives-segment-items.ensures);
  starts = rw (c.in_ok-rows.ensures.items, c.new-starts.ensures.items) (ap (λ l. starts_from 0 (map (λ e. e.1.rows) l))
      c.into_iter-segment-iterator.ensures.into_iter_gives
      ∙ ap (starts_from 0) (lent_rows_are c.args.set.now c.lives-segment-items.result c.lives-segment-items.ensures));
}

pub segments-preserved : goal.segments-preserved
segments-preserved c =
    let before = c.segments.rows.items in
    let after = c.push_rows.new.rows.items in
    record {
      so_far = more_rows (rows_seen before) (rows_seen after) (rows_of_set c.args.set.now) _ _ _ c.in-Some.ensures.steps
          c.segments.invariant.so_far c.in_ok-push_rows.ensures;
      starts = starts_left (length before) (length after) c.segments.starts.items _
          (starts_from 0 (live_rows c.args.set.now)) _ _ _ c.in-Some.ensures.steps c.segments.invariant.starts
          (c.in_ok-push.ensures.items ∙ ap (λ n. c.segments.starts.items ++ n ∷ []) (c.len.ensures
          ∙ c.segments.rows.ok.0)) (appended_long row_seen before after _ c.in_ok-push_rows.ensures);
    }

pub returns-clause-rows : goal.returns-clause-rows
returns-clause-rows c =
    sym (append-nil (rows_seen c.segments.rows.items))
    ∙ ap (λ l. rows_seen c.segments.rows.items ++ flat_map (λ e. e.1.rows) l) (sym c.in-None.ensures.steps.0)
    ∙ c.segments.invariant.so_far

pub returns-clause-starts : goal.returns-clause-starts
returns-clause-starts c =
    sym (append-nil c.segments.starts.items)
    ∙ ap (λ l. c.segments.starts.items ++ starts_from (length c.segments.rows.items) (map (λ e. e.1.rows) l))
    (sym c.in-None.ensures.steps.0) ∙ c.segments.invariant.starts

pub returns-clause-fit : goal.returns-clause-fit
returns-clause-fit c = omega (
  arith,
  c.segments.rows.small,
  c.segments.rows.ok.0,
  c.segments.rows.ok.1,
  length-map c.segments.rows.items row_seen,
  ap length (returns-clause-rows c),
)
