use Rattle.std.proofs.Common.{◌≡◌, map, take}
use Rattle.wrows.specs.Laid.{rows_seen}
use Rattle.wcalls.specs.ListedValues.{listed_seen}
use Rattle.wcalls.proofs.listing.lent_columns.Given as goal

abbrev pub invariant-loop-list : goal.invariant-loop-list
invariant-loop-list l = rows_seen l.columns.items ≡ map listed_seen (take l.list-index l.lists)
