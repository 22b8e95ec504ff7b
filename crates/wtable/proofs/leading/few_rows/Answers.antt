use Rattle.std.proofs.Common.{length, true≢false, sym, ◌∙◌, arith}
use Rattle.wtable.specs.Tables.{rows_of_set}
use Rattle.wtable.proofs.FrontFacts.{front_leads, front_short, some_asked}
use Rattle.wtable.proofs.LeadingFacts.{leads_alone}
use Rattle.wtable.proofs.leading.few_rows.Goals as goal

pub returns-then-stand_first-clause-leads : goal.returns-then-stand_first-clause-leads
returns-then-stand_first-clause-leads c =
    front_leads c.args.keys.now c.args.most _ (rows_of_set c.args.set.now) (sym c.stand_first.ensures ∙ c.if-stand_first.true)
    c.in_ok-rows.ensures

pub returns-then-stand_first-clause-few : goal.returns-then-stand_first-clause-few
returns-then-stand_first-clause-few c =
    omega (arith, front_short c.in_ok-rows.rows.items c.args.most (rows_of_set c.args.set.now) c.in_ok-rows.ensures)

pub returns-then-stand_first-clause-least : goal.returns-then-stand_first-clause-least
returns-then-stand_first-clause-least c = λ any.
    front_short c.in_ok-rows.rows.items c.args.most (rows_of_set c.args.set.now) c.in_ok-rows.ensures

pub first_rows-requires-clause-some : goal.first_rows-requires-clause-some
first_rows-requires-clause-some c =
    some_asked c.args.most (length c.args.keys.now) (sym c.stand_first.ensures ∙ c.if-stand_first.false)

pub returns-clause-leads : goal.returns-clause-leads
returns-clause-leads c =
    leads_alone c.args.keys.now c.args.most (rows_of_set c.args.set.now) c.in_ok-found.found c.in_ok-found.ensures.leads

pub returns-clause-least : goal.returns-clause-least
returns-clause-least c = λ any. absurd (true≢false (sym any ∙ (sym c.stand_first.ensures ∙ c.if-stand_first.false)))
