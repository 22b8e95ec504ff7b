use Rattle.std.proofs.Common.{◌≡◌, ap, ◌∙◌, length, map, Vec, Global, List, [], ◌∷◌}
use Rattle.std.proofs.lemmas.List.{map-append}
use Rattle.std.proofs.lemmas.Result.{err_from_is_err_and}
use Rattle.wvalues.specs.declared.value.Value.{Value}
use Rattle.wvalues.specs.Meaning.{Meaning, meaning}
use Rattle.wrows.specs.Laid.{rows_seen}
use Rattle.wgroup.specs.Held.{all_groups, column_over, columns_in}
use Rattle.wplan.specs.Plans.{group_call_plan}
use Rattle.wgroup.proofs.ColumnFacts.{all_pushed, columns_end, columns_fault, columns_next, count_pushed}
use Rattle.wgroup.proofs.call_columns.call_columns.Goals as goal

pub share-requires : goal.share-requires
share-requires c = record { shared = c.loop-call.invariant.shared; made = c.requires.made }

pub returns-in_err-column-clause-gives : goal.returns-in_err-column-clause-gives
returns-in_err-column-clause-gives c =
    let p = err_from_is_err_and c.from_residual-in_err-column.result c.from_residual-in_err-column.ensures.1 in
    let f = column_over (rows_seen c.args.rows.now) c.args.sets.now in
    let view : Vec (Vec Value Global) Global → List (List Meaning) = λ columns. columns_in columns.items in
    let inner : Vec Value Global → List Meaning = λ column. map meaning column.items in
    rw (p.1, p.2) (columns_fault f group_call_plan (columns_in c.loop-call.columns.items) c.args.calls.now
    c.loop-call.call-index c.call-item.result c.loop-call-test.true c.call-item.is _ c.loop-call.invariant.so_far
    c.in_err-column.field-0.0 view inner c.in_err-column.ensures.gives)

pub loop-call-preserved : goal.loop-call-preserved
loop-call-preserved c =
    let f = column_over (rows_seen c.args.rows.now) c.args.sets.now in
    let made = c.loop-call.columns.items in
    let one : Vec Value Global → List Meaning = λ column. map meaning column.items in
    record {
      so_far = columns_next f group_call_plan (columns_in made) c.args.calls.now c.loop-call.call-index c.call-item.result
          c.loop-call-test.true c.call-item.is _ c.loop-call.invariant.so_far _ _ c.in_ok-column.ensures.gives
          (ap columns_in c.in_ok-push.ensures.items ∙ map-append one made (_ ∷ []));
      len = all_pushed (λ (column : Vec Value Global). length column.items ≡ length (all_groups c.args.sets.now)) made _ _
          c.loop-call.invariant.len c.in_ok-column.ensures.len c.in_ok-push.ensures.items;
      count = count_pushed made _ _ c.loop-call.call-index c.loop-call.invariant.count c.in_ok-push.ensures.items;
      shared = c.share.ensures;
    }

pub returns-clause-gives : goal.returns-clause-gives
returns-clause-gives c =
    let f = column_over (rows_seen c.args.rows.now) c.args.sets.now in
    columns_end f group_call_plan (columns_in c.loop-call.columns.items) c.args.calls.now c.loop-call.call-index _
    c.loop-call-test.false c.loop-call.invariant.so_far
