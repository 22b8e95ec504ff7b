use Rattle.std.proofs.Common.{◌≡◌, drop}
use Rattle.std.specs.List.{list_any}
use Rattle.wscope.specs.Windows.{named_windows}
use Rattle.wwindows.specs.Windows.{entry_is}
use Rattle.wwindows.proofs.windows.any_listed.Given as goal

abbrev pub invariant-entries : goal.invariant-entries
invariant-entries g l = list_any (entry_is (g.T.WindowTest.holds l.test)) (named_windows l.entries)
    ≡ list_any (entry_is (g.T.WindowTest.holds l.test)) (named_windows (drop l.entry-index l.entries))
