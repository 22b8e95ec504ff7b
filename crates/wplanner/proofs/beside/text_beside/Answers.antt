use Rattle.std.proofs.Common.{◌≡◌, ◌∙◌, ℕ, Ok, Vec, Global, map, ap}
use Rattle.std.proofs.lemmas.Result.{IfOk-weaker}
use Rattle.wcolumns.specs.Columns.{columns_seen}
use Rattle.wplan.specs.Plans.{select_plan}
use Rattle.wprinted.specs.Printing.{table_text, values_at}
use Rattle.wrows.specs.Columns.{beside}
use Rattle.wrows.specs.Laid.{rows_seen}
use Rattle.wrows.specs.Picked.{row_beside}
use Rattle.wrows.specs.Plain.{cut}
use Rattle.wplanner.specs.Answers.{items_of}
use Rattle.wplanner.specs.Lent.{text_in}
use Rattle.wtable.specs.TableOrders.{by_keys}
use Rattle.wplanner.proofs.BesideFacts.{standing_is, presorted_is}
use Rattle.wtable.proofs.ColumnFacts.{some_presorted}
use Rattle.wplanner.proofs.beside.text_beside.Goals as goal

pub returns-in-None : goal.returns-in-None
returns-in-None c =
    let select = c.args.placed.now.select.now in
    let s = select_plan select in
    let ps = c.args.placed.now.places.now in
    let rows = rows_seen c.args.rows.now in
    let columns = columns_seen c.args.columns.now in
    IfOk-weaker c.standing_text.result (λ (bytes : Vec ℕ Global). bytes.items ≡ table_text (map (λ o. o.name) s.items)
    (map (values_at ps) (cut select.offset select.limit (beside rows columns))))
    (λ (bytes : Vec ℕ Global). text_in s (items_of s (beside rows columns)) ≡ Ok bytes.items)
    (λ bytes h. standing_is s ps c.requires.reads rows columns bytes.items (c.requires.standing c.in-None.is) h) c.standing_text.ensures

pub returns-in-Some : goal.returns-in-Some
returns-in-Some c =
    let select = c.args.placed.now.select.now in
    let s = select_plan select in
    let ps = c.args.placed.now.places.now in
    let rows = rows_seen c.args.rows.now in
    let columns = columns_seen c.args.columns.now in
    let presorted = some_presorted (λ (numbers : Vec ℕ Global). by_keys s.keys columns rows ≡ Ok numbers.items)
    c.args.presorted.now c.in-Some.numbers c.in-Some.is c.requires.presorted in
    IfOk-weaker c.picked_text.result (λ (bytes : Vec ℕ Global). bytes.items ≡ table_text (map (λ o. o.name) s.items)
    (map (values_at ps) (map (row_beside rows columns) (cut select.offset select.limit c.deref.result.now))))
    (λ (bytes : Vec ℕ Global). text_in s (items_of s (beside rows columns)) ≡ Ok bytes.items)
    (λ bytes h. presorted_is s ps c.requires.reads rows columns c.in-Some.numbers.items bytes.items presorted
    (h ∙ ap (λ l. table_text (map (λ o. o.name) s.items)
    (map (values_at ps) (map (row_beside rows columns) (cut select.offset select.limit l)))) c.deref.ensures.value))
    c.picked_text.ensures
