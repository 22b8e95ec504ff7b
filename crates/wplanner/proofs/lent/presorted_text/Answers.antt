use Rattle.std.proofs.Common.{map}
use Rattle.wplan.specs.Plans.{key_plan, optional_formula}
use Rattle.wset.specs.Running.{live_rows}
use Rattle.wplanner.proofs.lent.presorted_text.Goals as goal

pub rows_text-requires-clause-presorted : goal.rows_text-requires-clause-presorted
rows_text-requires-clause-presorted c =
    c.in_ok-presorted.ensures.orders (optional_formula c.args.placed.now.select.now.condition) (live_rows c.args.set.now)
    (map key_plan c.args.placed.now.select.now.keys.items) c.in_ok-kept.ensures.numbered c.requires.orders
