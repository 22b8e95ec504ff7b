use Rattle.std.proofs.Common.{◌≡◌, drop}
use Rattle.wspots.specs.Items.{count_behind}
use Rattle.wspots.proofs.outputs.count_items.Given as goal

abbrev pub invariant-items : goal.invariant-items
invariant-items l = count_behind l.columns l.count (drop l.item-index l.items) ≡ count_behind l.columns 0 l.items
