use Rattle.std.proofs.Common.{◌≡◌, ◌++◌, drop, map}
use Rattle.wplan.specs.Plans.{window_plan}
use Rattle.wscope.specs.Windows.{named_windows}
use Rattle.wbinding.specs.Resolving.{layout_of}
use Rattle.wresolve.specs.Selecting.{entries_made}
use Rattle.wresolve.proofs.windows.build_entries.Given as goal

abbrev pub invariant-entries : goal.invariant-entries
invariant-entries l = map window_plan l.made.items ++ entries_made (layout_of l.layout)
    (named_windows (drop l.entry-index l.entries)) ≡ entries_made (layout_of l.layout) (named_windows l.entries)
