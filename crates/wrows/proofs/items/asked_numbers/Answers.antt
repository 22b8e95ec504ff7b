use Rattle.std.proofs.Common.{◌<◌, Ok, length, sym, ap, ◌∙◌}
use Rattle.std.proofs.lemmas.List.Elements.{All-same}
use Rattle.wrows.specs.Extended.{extended_rows}
use Rattle.wrows.specs.Laid.{formulas_seen}
use Rattle.wrows.specs.Plain.{cut}
use Rattle.wrows.proofs.FirstFacts.{asked_below, asked_of_first}
use Rattle.wrows.proofs.PickFacts.{beside_long}
use Rattle.wrows.proofs.items.asked_numbers.Goals as goal

pub returns-clause-gives : goal.returns-clause-gives
returns-clause-gives c =
    let n = length c.args.extended.now.rows.now in
    let all = extended_rows c.args.extended.now in
    let asked = c.asked_for-from in
    asked_of_first c.args.keys.now c.args.asked.offset c.args.asked.limit n asked.result.0 asked.result.1
    asked.ensures.first asked.ensures.count asked.ensures.within
    (formulas_seen c.args.key_exprs.now) all (beside_long c.args.extended.now.rows.now c.args.extended.now.columns.now)
    c.in_ok-first.first.items c.in_ok-first.ensures
    ∙ ap Ok (sym c.in_ok-numbers.ensures)

pub returns-clause-below : goal.returns-clause-below
returns-clause-below c =
    let n = length c.args.extended.now.rows.now in
    let all = extended_rows c.args.extended.now in
    let asked = c.asked_for-from in
    All-same (λ i. i < n) c.in_ok-numbers.numbers.items (cut c.args.asked.offset c.args.asked.limit
    c.in_ok-first.first.items) c.in_ok-numbers.ensures
    (asked_below c.args.keys.now c.args.asked.offset c.args.asked.limit n asked.result.0 asked.result.1 asked.ensures.first
    asked.ensures.count asked.ensures.within
    (formulas_seen c.args.key_exprs.now) all (beside_long c.args.extended.now.rows.now c.args.extended.now.columns.now)
    c.in_ok-first.first.items c.in_ok-first.ensures)
