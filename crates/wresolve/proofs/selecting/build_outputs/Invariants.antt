use Rattle.std.proofs.Common.{◌≡◌, ◌++◌, drop, map}
use Rattle.wplan.specs.Plans.{output_plan}
use Rattle.wresolve.specs.Shown.{shown_items}
use Rattle.wbinding.specs.Resolving.{layout_of}
use Rattle.wresolve.specs.Selecting.{output_made}
use Rattle.wresolve.proofs.selecting.build_outputs.Given as goal

abbrev pub invariant-shown : goal.invariant-shown
invariant-shown l = map output_plan l.made.items ++ map (output_made (layout_of l.layout))
    (shown_items (drop l.item-index l.shown)) ≡ map (output_made (layout_of l.layout)) (shown_items l.shown)
