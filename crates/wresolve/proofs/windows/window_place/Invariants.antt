use Rattle.std.proofs.Common.{◌≡◌, ◌+◌, drop}
use Rattle.wscope.specs.Windows.{named_windows}
use Rattle.wresolve.specs.Selecting.{window_place}
use Rattle.wresolve.proofs.windows.window_place.Given as goal

abbrev pub invariant-entries : goal.invariant-entries
invariant-entries l = (l.place ≡ l.entry-index)
    × (window_place (named_windows l.entries) l.name ≡ l.place + window_place (named_windows (drop l.entry-index l.entries)) l.name)
