use Rattle.std.proofs.Common.{◌≡◌, [], take, drop}
use Rattle.wscope.specs.Windows.{named_windows}
use Rattle.wscope.specs.Indexes.{repeats}
use Rattle.wwindows.proofs.windows.repeats_names.Given as goal

abbrev pub invariant-entries : goal.invariant-entries
invariant-entries l = (l.place ≡ l.entry-index)
    × (repeats [] (named_windows l.entries) ≡ repeats (named_windows (take l.entry-index l.entries))
    (named_windows (drop l.entry-index l.entries)))
