use Rattle.std.proofs.Common.{◌≡◌, ◌++◌, drop}
use Rattle.wscope.specs.Sources.{all_titled, columns_from}
use Rattle.wresolve.specs.Shown.{shown_items}
use Rattle.wresolve.proofs.shown.push_columns.Given as goal

abbrev pub invariant-columns : goal.invariant-columns
invariant-columns l = (l.place ≡ l.column-index)
    × (shown_items l.shown.items ++ columns_from l.place (all_titled (drop l.column-index l.columns))
    ≡ shown_items l.fn.shown.items ++ columns_from 0 (all_titled l.columns))
