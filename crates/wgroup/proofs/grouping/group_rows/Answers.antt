use Rattle.std.proofs.Common.{◌≡◌, ◌<◌, ◌^◌, All, List, Vec, Global, Ok, Err, length, map, subst, sym, ap, ◌∙◌, arith}
use Rattle.std.proofs.lemmas.Result.{err_from_is_err_and}
use Rattle.wvalues.specs.Meaning.{Meaning}
use Rattle.wvalues.specs.declared.value.Value.{Value}
use Rattle.wrows.specs.Columns.{beside, held_rows, not_too_many}
use Rattle.wrows.specs.Laid.{rows_in, rows_seen}
use Rattle.wrows.specs.Outcomes.{◌>>=◌, Gives, each}
use Rattle.wrows.proofs.RowFacts.{then_ok, then_refused}
use Rattle.wgroupby.specs.Held.{lists_in}
use Rattle.wgroup.specs.declared.found.Groups as memory
use Rattle.wplan.specs.Plans.{group_call_plan, grouping_plan}
use Rattle.wgroup.specs.Grouping.{Group, call_column, group_rows, groups_of}
use Rattle.wgroup.specs.Held.{all_groups, column_over, columns_in}
use Rattle.wgroup.proofs.TellFacts.{few_from_ok, grouped}
use Rattle.wgroup.proofs.grouping.group_rows.Goals as goal

pub returns-in_err-sets-clause-rows : goal.returns-in_err-sets-clause-rows
returns-in_err-sets-clause-rows c =
    let p = err_from_is_err_and c.from_residual.result c.from_residual.ensures.1 in
    let view : Vec memory.Groups Global → List Group = λ found. all_groups found.items in
    let fault = c.in_err-sets.field-0.0 in
    let plan = grouping_plan c.args.grouping.now in
    let rows = rows_seen c.args.rows.now in
    let same : not_too_many (groups_of c.deref.result.now (lists_in c.deref-2.result.now) rows)
    ≡ not_too_many (groups_of plan.columns plan.sets rows)
    = ap (λ cs. not_too_many (groups_of cs (lists_in c.deref-2.result.now) rows)) c.deref.ensures.value
    ∙ ap (λ ss. not_too_many (groups_of plan.columns (lists_in ss) rows)) c.deref-2.ensures.value in
    rw (p.1, p.2) (then_refused view rows_in fault (not_too_many (groups_of plan.columns plan.sets rows))
    (λ groups. each (call_column rows groups) plan.calls >>= λ columns. held_rows plan.having
    (beside (map (λ (group : Group). group.key) groups) columns))
    (subst (λ m. Gives view (Err fault) m) same c.in_err-sets.ensures.groups))

pub returns-in_err-columns-clause-rows : goal.returns-in_err-columns-clause-rows
returns-in_err-columns-clause-rows c =
    let p = err_from_is_err_and c.from_residual-in_err-columns.result c.from_residual-in_err-columns.ensures.1 in
    let view : Vec (Vec Value Global) Global → List (List Meaning) = λ columns. columns_in columns.items in
    let fault = c.in_err-columns.field-0.0 in
    let plan = grouping_plan c.args.grouping.now in
    let rows = rows_seen c.args.rows.now in
    let sets = c.in_ok-sets.sets.items in
    let are : not_too_many (groups_of plan.columns plan.sets rows) ≡ Ok (all_groups sets)
    = sym (ap (λ cs. not_too_many (groups_of cs (lists_in c.deref-2.result.now) rows)) c.deref.ensures.value
    ∙ ap (λ ss. not_too_many (groups_of plan.columns (lists_in ss) rows)) c.deref-2.ensures.value) ∙ c.in_ok-sets.ensures.groups in
    let same : each (column_over rows c.deref-4.result.now) (map group_call_plan c.deref-3.result.now)
    ≡ each (column_over rows sets) plan.calls
    = ap (λ ss. each (column_over rows ss) (map group_call_plan c.deref-3.result.now)) c.deref-4.ensures.value
    ∙ ap (λ calls. each (column_over rows sets) (map group_call_plan calls)) c.deref-3.ensures.value in
    rw (p.1, p.2) (subst (λ m. Gives rows_in (Err fault) m) (sym (grouped plan rows sets are))
    (then_refused view rows_in fault (each (column_over rows sets) plan.calls)
    (λ columns. held_rows plan.having (beside (map (λ (group : Group). group.key) (all_groups sets)) columns))
    (subst (λ m. Gives view (Err fault) m) same c.in_err-columns.ensures.gives)))

pub group_cells-requires : goal.group_cells-requires
group_cells-requires c =
    let g = c.args.grouping.now in
    let sets = c.in_ok-sets.sets.items in
    let rows = rows_seen c.args.rows.now in
    let few : length (all_groups sets) < 2 ^ 31 =
    few_from_ok (groups_of c.deref.result.now (lists_in c.deref-2.result.now) rows) (all_groups sets) c.in_ok-sets.ensures.groups in
    let width : length c.deref.result.now ≡ c.len.result = ap length c.deref.ensures.value ∙ sym (c.len.ensures ∙ g.columns.ok.0) in
    record {
      wide = subst (λ w. All (λ (groups : memory.Groups). groups.width ≡ w) c.deref-5.result.now) width
          (subst (λ ss. All (λ (groups : memory.Groups). groups.width ≡ length c.deref.result.now) ss)
          (sym c.deref-5.ensures.value) c.in_ok-sets.ensures.width);
      len = subst (λ ss. All (λ (column : Vec Value Global). length column.items ≡ length (all_groups ss))
          c.deref-6.result.now) (sym c.deref-5.ensures.value)
          (subst (λ xs. All (λ (column : Vec Value Global). length column.items ≡ length (all_groups sets)) xs)
          (sym c.deref-6.ensures.value)
          (subst (λ ss. All (λ (column : Vec Value Global). length column.items ≡ length (all_groups ss))
          c.in_ok-columns.columns.items) c.deref-4.ensures.value c.in_ok-columns.ensures.len));
      few = subst (λ ss. length (all_groups ss) < 2 ^ 31) (sym c.deref-5.ensures.value) few;
      narrow = omega (arith, width, c.deref.type_inv);
    }

pub rows_held-requires : goal.rows_held-requires
rows_held-requires c =
    let sets = c.in_ok-sets.sets.items in
    let rows = rows_seen c.args.rows.now in
    let few : length (all_groups sets) < 2 ^ 31 =
    few_from_ok (groups_of c.deref.result.now (lists_in c.deref-2.result.now) rows) (all_groups sets) c.in_ok-sets.ensures.groups in
    omega (arith, few, c.in_ok-cells.ensures.count, ap (λ ss. length (all_groups ss)) c.deref-5.ensures.value)

pub returns-clause-rows : goal.returns-clause-rows
returns-clause-rows c =
    let plan = grouping_plan c.args.grouping.now in
    let rows = rows_seen c.args.rows.now in
    let sets = c.in_ok-sets.sets.items in
    let keys = map (λ (group : Group). group.key) (all_groups sets) in
    let are : not_too_many (groups_of plan.columns plan.sets rows) ≡ Ok (all_groups sets)
    = sym (ap (λ cs. not_too_many (groups_of cs (lists_in c.deref-2.result.now) rows)) c.deref.ensures.value
    ∙ ap (λ ss. not_too_many (groups_of plan.columns (lists_in ss) rows)) c.deref-2.ensures.value) ∙ c.in_ok-sets.ensures.groups in
    let same : each (column_over rows c.deref-4.result.now) (map group_call_plan c.deref-3.result.now)
    ≡ each (column_over rows sets) plan.calls
    = ap (λ ss. each (column_over rows ss) (map group_call_plan c.deref-3.result.now)) c.deref-4.ensures.value
    ∙ ap (λ calls. each (column_over rows sets) (map group_call_plan calls)) c.deref-3.ensures.value in
    let whole : group_rows plan rows ≡ held_rows plan.having (rows_in c.in_ok-cells.cells)
    = grouped plan rows sets are
    ∙ then_ok (columns_in c.in_ok-columns.columns.items) (each (column_over rows sets) plan.calls)
    (λ columns. held_rows plan.having (beside keys columns)) (sym same ∙ c.in_ok-columns.ensures.gives)
    ∙ ap (held_rows plan.having) (sym (c.in_ok-cells.ensures.rows
    ∙ ap (λ ss. beside (map (λ (group : Group). group.key) (all_groups ss)) (columns_in c.deref-6.result.now))
    c.deref-5.ensures.value ∙ ap (λ xs. beside keys (columns_in xs)) c.deref-6.ensures.value)) in
    subst (Gives rows_in c.rows_held.result) (sym whole) c.rows_held.ensures.rows
