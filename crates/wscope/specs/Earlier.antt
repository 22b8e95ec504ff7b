-- The WINDOW entries that a window may copy.
use Rattle.std.specs.Prelude.{List}
use Rattle.wscope.specs.Windows.{NamedWindow, named_windows}
use Rattle.wscope.specs.declared.earlier.Earlier.{Earlier}
use Rattle.wscope.specs.declared.window_index.WindowIndex.{WindowIndex}
use Rattle.wscope.specs.Indexes.{up_to}

-- all of them
abbrev pub windows_in : WindowIndex → List NamedWindow
windows_in i = named_windows i.entries.items

-- those before a place, or all
abbrev pub seen : Earlier → List NamedWindow
seen e = up_to e.before (windows_in e.index.now)
