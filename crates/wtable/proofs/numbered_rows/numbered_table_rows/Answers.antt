use Rattle.std.proofs.Common.{◌≡◌, length, filter, sym, ap, ◌∙◌, arith}
use Rattle.std.proofs.lemmas.List.{length-map}
use Rattle.wplan.specs.Plans.{optional_formula}
use Rattle.wset.specs.Running.{live_rows}
use Rattle.wruns.specs.Runs.{joined}
use Rattle.wrows.specs.Laid.{row_seen, rows_seen}
use Rattle.wtable.specs.TableOrders.{holds_by}
use Rattle.wtable.specs.Tables.{rows_of_set}
use Rattle.wtable.proofs.LiveFacts.{live_joined}
use Rattle.wtable.proofs.NumberFacts.{few_is, held_is}
use Rattle.wtable.proofs.numbered_rows.numbered_table_rows.Goals as goal

pub returns-clause-numbered : goal.returns-clause-numbered
returns-clause-numbered c =
    let s = c.args.set.now in
    let condition = optional_formula c.args.condition.now in
    let same : rows_of_set s ≡ joined (live_rows s) = sym (live_joined s) in
    let held = held_is condition (rows_of_set s) (rows_seen c.in_ok-rows.field-0.rows.items) c.in_ok-rows.ensures.rows in
    let few = few_is (rows_seen c.in_ok-rows.field-0.rows.items) (rows_seen c.in_ok-rows-2.rows.items) c.in_ok-rows-2.ensures in
    record {
      rows = few.0 ∙ held ∙ ap (filter (holds_by condition)) same;
      few = omega (arith, few.1, length-map c.in_ok-rows-2.rows.items row_seen);
      fit = omega (arith, c.in_ok-rows.ensures.fit, ap length same);
      starts = c.in_ok-rows.ensures.starts;
      numbers = rw same at c.in_ok-rows.ensures.numbers;
    }
