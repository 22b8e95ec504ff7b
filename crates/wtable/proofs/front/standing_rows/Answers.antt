use Rattle.std.proofs.Common.{Vec, Bor, Global, List}
use Rattle.std.proofs.lemmas.Result.{err_from_is_err_and}
use Rattle.wvalues.specs.declared.value.Value.{Value}
use Rattle.wrows.specs.Laid.{rows_seen}
use Rattle.wtable.specs.Tables.{rows_of_set}
use Rattle.wtable.proofs.FrontFacts.{standing_given, standing_refused}
use Rattle.wtable.proofs.front.standing_rows.Goals as goal

pub returns-in_err-total : goal.returns-in_err-total
returns-in_err-total c =
    let p = err_from_is_err_and c.from_residual.result c.from_residual.ensures.1 in
    rw (p.1, p.2) (standing_refused (λ (rows : Vec (Bor (List Value)) Global). rows_seen rows.items) c.args.select.now.offset
    c.args.select.now.limit (rows_of_set c.args.set.now) c.in_err-total.field-0.0 c.in_err-total.ensures.refused)

pub returns : goal.returns
returns c =
    standing_given c.args.select.now.offset c.args.select.now.limit (rows_of_set c.args.set.now) (rows_seen c.in_ok-rows.rows.items)
    c.in_ok-total.total c.needed_of-needed.result c.in_ok-total.ensures.kept c.in_ok-total.ensures.count c.needed_of-needed.ensures
    c.in_ok-rows.ensures
