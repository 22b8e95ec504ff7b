use Rattle.std.proofs.Common.{◌≡◌, drop}
use Rattle.wquery.specs.Tree.{view}
use Rattle.wscope.specs.Sources.{Spelled}
use Rattle.wresolve.specs.Shown.{shown_items}
use Rattle.wresolve.specs.Selecting.{called_or}
use Rattle.wresolve.proofs.shown.called_or.Given as goal

abbrev pub invariant-shown : goal.invariant-shown
invariant-shown l = called_or (Spelled (view l.otherwise)) l.name (shown_items l.shown)
    ≡ called_or (Spelled (view l.otherwise)) l.name (shown_items (drop l.item-index l.shown))
