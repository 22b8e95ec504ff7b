use Rattle.std.proofs.Common.{map, sym, subst}
use Rattle.wplan.specs.Plans.{key_plan, optional_formula}
use Rattle.wset.specs.Running.{live_rows}
use Rattle.wrows.specs.Laid.{rows_seen}
use Rattle.wtable.specs.TableOrders.{ArePresorted}
use Rattle.wplanner.proofs.selecting.select_ordered.Goals as goal

pub kept_items-requires-clause-presorted : goal.kept_items-requires-clause-presorted
kept_items-requires-clause-presorted c =
    let plans = map key_plan c.args.select.now.keys.items in
    subst (λ l. ArePresorted (rows_seen l) plans c.in_ok-presorted.presorted) (sym c.deref.ensures.value)
    (c.in_ok-presorted.ensures.orders (optional_formula c.args.select.now.condition) (live_rows c.args.set.now) plans
    c.in_ok-kept.ensures.numbered c.requires.orders)
