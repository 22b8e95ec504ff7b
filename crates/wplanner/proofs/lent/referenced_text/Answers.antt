use Rattle.std.proofs.Common.{List, [], Vec, Bor, Global, Err, ℕ, map, ap, sym, subst, ◌∙◌}
use Rattle.std.proofs.lemmas.Result.{err_from_is_err_and}
use Rattle.wvalues.specs.declared.value.Value.{Value}
use Rattle.wplan.specs.Plans.{select_plan}
use Rattle.wprinted.specs.Printing.{table_text, values_at}
use Rattle.wrows.specs.Columns.{beside}
use Rattle.wrows.specs.Laid.{rows_seen}
use Rattle.wrows.specs.Outcomes.{Gives}
use Rattle.wrows.specs.Plain.{cut}
use Rattle.wset.specs.Running.{live_rows}
use Rattle.wplanner.specs.Answers.{select_of}
use Rattle.wplanner.specs.Lent.{text_in}
use Rattle.wtable.proofs.LiveFacts.{live_joined}
use Rattle.wplanner.proofs.ReferenceFacts.{referenced_fails, referenced_is}
use Rattle.wplanner.proofs.lent.referenced_text.Goals as goal

pub returns-in_err-rows : goal.returns-in_err-rows
returns-in_err-rows c =
    let p = err_from_is_err_and c.from_residual.result c.from_residual.ensures.1 in
    let s = select_plan c.args.placed.now.select.now in
    let fault = c.in_err-rows.field-0.0 in
    let fails = referenced_fails s c.args.placed.now.places.now c.requires.reads c.requires.sound c.requires.unwindowed c.requires.all
    (live_rows c.args.set.now) c.args.refs.now c.requires.order (λ (rows : Vec (Bor (List Value)) Global). rows_seen
    rows.items) (λ (bytes : Vec ℕ Global). bytes.items) fault c.in_err-rows.ensures in
    rw (p.1, p.2) (subst (λ rows. Gives (λ (bytes : Vec ℕ Global). bytes.items) (Err fault) (text_in s (select_of s rows)))
    (live_joined c.args.set.now) fails)

pub returns : goal.returns
returns c =
    let select = c.args.placed.now.select.now in
    let s = select_plan select in
    let ps = c.args.placed.now.places.now in
    let printed = c.in_ok-bytes.ensures ∙ ap (λ l. table_text (map (λ o. o.name) s.items)
    (map (values_at ps) (cut select.offset select.limit (beside (rows_seen l) [])))) c.deref.ensures.value in
    ap (λ rows. text_in s (select_of s rows)) (sym (live_joined c.args.set.now))
    ∙ referenced_is s ps c.requires.reads c.requires.sound c.requires.unwindowed c.requires.all (live_rows c.args.set.now)
    c.args.refs.now c.requires.order (rows_seen c.in_ok-rows.rows.items) c.in_ok-bytes.bytes.items c.in_ok-rows.ensures printed
