use Rattle.std.proofs.Common.{◌≡◌, ◌∙◌, ◌-◌, List, ℕ, Vec, Global, length, map, min, ap, sym}
use Rattle.std.specs.Rc.{rc_str_bytes}
use Rattle.std.proofs.lemmas.List.{length-map}
use Rattle.std.proofs.lemmas.Result.{IfOk-weaker}
use Rattle.wcolumns.specs.Columns.{columns_seen}
use Rattle.wplan.specs.Plans.{output_plan, select_plan}
use Rattle.wprinted.specs.Beside.{rows_from}
use Rattle.wprinted.specs.Printing.{table_text, values_at}
use Rattle.wrows.specs.Columns.{beside}
use Rattle.wrows.specs.Laid.{row_seen, rows_seen}
use Rattle.wrows.specs.Plain.{at_most_limit, cut}
use Rattle.wplanner.proofs.BesideFacts.{standing_are}
use Rattle.wplanner.proofs.beside.standing_text.Goals as goal

pub returns : goal.returns
returns c =
    let select = c.args.placed.now.select.now in
    let ps = c.args.placed.now.places.now in
    let rows = rows_seen c.args.rows.now in
    let columns = columns_seen c.args.columns.now in
    let from = c.asked_for-from.result.0 in
    let count = c.asked_for-from.result.1 in
    let named : List (List ℕ) = map (λ o. o.name) (select_plan select).items in
    let names : map rc_str_bytes c.deref-2.result.now ≡ named = ap (map rc_str_bytes) c.deref-2.ensures.value
    ∙ c.in_ok-names.ensures.names ∙ ap (λ xs. map (λ o. o.name) (map output_plan xs)) c.deref.ensures.value in
    let asked : rows_from rows columns from count ≡ cut select.offset select.limit (beside rows columns) =
    standing_are rows columns select.offset select.limit (length c.args.rows.now) from count
    (sym (length-map c.args.rows.now row_seen))
    (c.asked_for-from.ensures.first ∙ ap (λ n. min n (length c.args.rows.now)) c.asked_of.ensures.offset)
    (c.asked_for-from.ensures.count ∙ ap (λ limit. at_most_limit limit (length c.args.rows.now - from)) c.asked_of.ensures.limit) in
    IfOk-weaker c.print_rows.result (λ (bytes : Vec ℕ Global). bytes.items
    ≡ table_text (map rc_str_bytes c.deref-2.result.now) (map (values_at ps) (rows_from rows columns from count)))
    (λ (bytes : Vec ℕ Global). bytes.items ≡ table_text named (map (values_at ps) (cut select.offset select.limit (beside rows columns))))
    (λ bytes h. h ∙ ap (λ n. table_text n (map (values_at ps) (rows_from rows columns from count))) names
    ∙ ap (λ l. table_text named (map (values_at ps) l)) asked) c.print_rows.ensures
