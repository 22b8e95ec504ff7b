use Rattle.std.proofs.Common.{◌≡◌, ◌++◌, ◌∷◌, [], List, length, map, append-nil, sym, ap, ◌∙◌, arith}
use Rattle.std.specs.List.{flat_map}
use Rattle.std.proofs.lemmas.List.{length-map}
use Rattle.std.proofs.lemmas.Result.{err_from_is_err_and}
use Rattle.wplan.specs.Formula.{formula}
use Rattle.wset.specs.Running.{live_rows}
use Rattle.wrows.specs.Columns.{Row, holds_on}
use Rattle.wrows.specs.Laid.{row_seen, rows_seen}
use Rattle.wrows.proofs.RowFacts.{ok_is_false}
use Rattle.wtable.specs.TableOrders.{numbers_kept, starts_from}
use Rattle.wtable.specs.Tables.{rows_of_set}
use Rattle.wtable.specs.declared.numbered_rows.NumberedRows.{NumberedRows}
use Rattle.wtable.proofs.HeldFacts.{all_held, none_held, segment_held, segment_refused}
use Rattle.wtable.proofs.LiveFacts.{lent_rows_are}
use Rattle.wtable.proofs.NumberFacts.{held_grown, numbered_grown, numbers_left, numbers_long, starts_left}
use Rattle.wtable.proofs.SourceFacts.{set_rows}
use Rattle.wtable.proofs.numbered_rows.rows_where.Goals as goal

pub segments-init : goal.segments-init
segments-init c =
    let t = formula c.args.condition.now.expr.now in
    let all : flat_map (λ e. e.1.rows) c.lives-segment-items.result ≡ rows_of_set c.args.set.now =
    set_rows c.args.set.now c.lives-segment-items.result c.lives-segment-items.ensures in
    record {
      held = none_held t (rows_of_set c.args.set.now) (rows_seen c.new-rows.result.items) c.lives-segment-items.result _
          (ap rows_seen c.new-rows.ensures.items) c.into_iter-segment-iterator.ensures.into_iter_gives all;
      numbers = rw (c.new-rows.ensures.items, c.in_ok-numbers.ensures.items)
          (ap (λ l. numbers_kept (holds_on t) 0 (flat_map (λ e. e.1.rows) l))
          c.into_iter-segment-iterator.ensures.into_iter_gives ∙ ap (numbers_kept (holds_on t) 0) all);
      starts = rw (c.in_ok-numbers.ensures.items, c.new-starts.ensures.items) (ap (λ l. starts_from 0 (map (λ e. e.1.rows) l))
          c.into_iter-segment-iterator.ensures.into_iter_gives
          ∙ ap (starts_from 0) (lent_rows_are c.args.set.now c.lives-segment-items.result c.lives-segment-items.ensures));
    }

pub returns-in_err-push_rows_numbered-clause-rows : goal.returns-in_err-push_rows_numbered-clause-rows
returns-in_err-push_rows_numbered-clause-rows c =
    let p = err_from_is_err_and c.from_residual-in_err-push_rows_numbered.result c.from_residual-in_err-push_rows_numbered.ensures.1 in
    let t = formula c.args.condition.now.expr.now in
    let view : NumberedRows → List Row = λ kept. rows_seen kept.rows.items in
    rw (p.1, p.2) (segment_refused t (rows_of_set c.args.set.now) (rows_seen c.segments.rows.items) _ _ _ c.in-Some.ensures.steps
    c.segments.invariant.held view c.in_err-push_rows_numbered.field-0.0 c.in_err-push_rows_numbered.ensures.gives)

pub segments-preserved : goal.segments-preserved
segments-preserved c =
    let t = formula c.args.condition.now.expr.now in
    let all = rows_of_set c.args.set.now in
    let before = c.segments.rows.items in
    let after = c.push_rows_numbered.new.held.items in
    let pushed = c.in_ok-push_rows_numbered.ensures in
    record {
      held = segment_held t all (rows_seen before) _ _ _ c.in-Some.ensures.steps c.segments.invariant.held (rows_seen after)
          (ok_is_false _ _ _ pushed.gives) pushed.added;
      numbers = numbers_left (holds_on t) (length before) (length after) c.segments.numbers.items
          c.push_rows_numbered.new.numbers.items all _ _ _ c.in-Some.ensures.steps c.segments.invariant.numbers pushed.numbered
          (held_grown (holds_on t) (rows_seen before) (rows_seen after) _ (length before) (length after)
          (sym (length-map before row_seen)) (sym (length-map after row_seen)) pushed.added);
      starts = starts_left (length c.segments.numbers.items) (length c.push_rows_numbered.new.numbers.items)
          c.segments.starts.items _ (starts_from 0 (live_rows c.args.set.now)) _ _ _ c.in-Some.ensures.steps
          c.segments.invariant.starts (c.in_ok-push.ensures.items ∙ ap (λ n. c.segments.starts.items ++ n ∷ [])
          (c.len.ensures ∙ c.segments.numbers.ok.0))
          (numbered_grown (holds_on t) c.segments.numbers.items c.push_rows_numbered.new.numbers.items (length before) _ pushed.numbered);
    }

pub returns-clause-rows : goal.returns-clause-rows
returns-clause-rows c =
    all_held (formula c.args.condition.now.expr.now) (rows_of_set c.args.set.now) (rows_seen c.segments.rows.items) _
    c.in-None.ensures.steps.0 c.segments.invariant.held

pub returns-clause-starts : goal.returns-clause-starts
returns-clause-starts c =
    sym (append-nil c.segments.starts.items)
    ∙ ap (λ l. c.segments.starts.items ++ starts_from (length c.segments.numbers.items) (map (λ e. e.1.rows) l))
    (sym c.in-None.ensures.steps.0) ∙ c.segments.invariant.starts

pub returns-clause-numbers : goal.returns-clause-numbers
returns-clause-numbers c =
    let t = formula c.args.condition.now.expr.now in
    sym (append-nil c.segments.numbers.items) ∙ ap (λ l. c.segments.numbers.items ++ numbers_kept (holds_on t)
    (length c.segments.rows.items) (flat_map (λ e. e.1.rows) l)) (sym c.in-None.ensures.steps.0) ∙ c.segments.invariant.numbers

pub returns-clause-fit : goal.returns-clause-fit
returns-clause-fit c =
    let numbers = c.segments.numbers in
    omega (
      arith,
      numbers.small,
      numbers.ok.0,
      numbers.ok.1,
      ap length (returns-clause-numbers c),
      numbers_long (holds_on (formula c.args.condition.now.expr.now)) 0 (rows_of_set c.args.set.now),
    )
