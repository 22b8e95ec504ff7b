use Rattle.std.proofs.Common.{◌≡◌, map, take}
use Rattle.wvalues.specs.Meaning.{meaning}
use Rattle.wcolumns.specs.Columns.{counted}
use Rattle.wcalls.proofs.listing.count_values.Given as goal

abbrev pub invariant-loop-count : goal.invariant-loop-count
invariant-loop-count l = map meaning l.values.items ≡ map counted (take l.count-index l.counts)
