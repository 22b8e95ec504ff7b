use Rattle.std.proofs.Common.{List, [], Vec, Global, map, sym, subst}
use Rattle.wvalues.specs.Meaning.{Meaning}
use Rattle.wplan.specs.Plans.{key_plan}
use Rattle.wruns.specs.declared.refs.RowRef.{RowRef}
use Rattle.wset.specs.Running.{live_rows}
use Rattle.wtable.specs.TableOrders.{IsOrderFor, by_keys}
use Rattle.wtable.proofs.ColumnFacts.{some_presorted}
use Rattle.wplanner.proofs.lent.all_text.Goals as goal

pub referenced_text-requires-clause-order : goal.referenced_text-requires-clause-order
referenced_text-requires-clause-order c =
    let segments = live_rows c.args.set.now in
    let plans = map key_plan c.args.placed.now.select.now.keys.items in
    let ordered = some_presorted (λ (refs : Vec RowRef Global). (columns : List (List Meaning))
    → IsOrderFor segments (by_keys plans columns) refs.items) c.args.orders.now.keys c.in-Some.refs c.in-Some.is
    c.requires.orders.keys in
    subst (IsOrderFor segments (by_keys plans [])) (sym c.deref.ensures.value) (ordered [])
