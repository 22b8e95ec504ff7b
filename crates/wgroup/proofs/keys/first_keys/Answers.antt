use Rattle.std.proofs.Common.{◌++◌, length, map, get_or, take_all, sym, ap, ◌∙◌}
use Rattle.std.specs.List.{flat_map}
use Rattle.std.proofs.lemmas.List.{length-map}
use Rattle.wvalues.specs.Meaning.{meaning}
use Rattle.wrows.specs.Laid.{rows_seen}
use Rattle.wrows.proofs.RowFacts.{flat_next, laid_rows, laid_length, same_at}
use Rattle.wgroup.specs.Grouping.{group_key}
use Rattle.wgroup.specs.Sight.{key_in}
use Rattle.wgroup.proofs.GroupFacts.{group_keys_wide}
use Rattle.wgroup.proofs.keys.first_keys.Goals as goal

pub loop-row-preserved : goal.loop-row-preserved
loop-row-preserved c =
    let columns = c.args.columns.now in
    let firsts = c.args.firsts.now in
    let i = c.loop-row.row-index in
    flat_next (group_key columns (rows_seen c.args.rows.now)) firsts i (get_or firsts i 0)
    (map meaning c.loop-row.cells.items) (map meaning c.push_key.new.cells.items) c.loop-row-test.true
    (same_at firsts i 0 (get_or firsts i 0) c.loop-row-test.true) c.loop-row.invariant
    (c.in_ok-push_key.ensures ∙ ap (λ r. map meaning c.loop-row.cells.items ++ key_in columns r) c.cells_at.ensures)

pub returns-clause-keys : goal.returns-clause-keys
returns-clause-keys c =
    let columns = c.args.columns.now in
    let key = group_key columns (rows_seen c.args.rows.now) in
    let firsts = c.args.firsts.now in
    laid_rows (length columns) key firsts (group_keys_wide columns (rows_seen c.args.rows.now) firsts)
    c.loop-row.cells.items (c.loop-row.invariant ∙ ap (flat_map key) (take_all c.loop-row.row-index firsts c.loop-row-test.false))

pub returns-clause-laid : goal.returns-clause-laid
returns-clause-laid c =
    let columns = c.args.columns.now in
    let key = group_key columns (rows_seen c.args.rows.now) in
    let firsts = c.args.firsts.now in
    sym (length-map c.loop-row.cells.items meaning) ∙ ap length c.loop-row.invariant ∙ ap (λ l. length (flat_map key l))
    (take_all c.loop-row.row-index firsts c.loop-row-test.false)
    ∙ laid_length (length columns) key firsts (group_keys_wide columns (rows_seen c.args.rows.now) firsts)
