use Rattle.std.proofs.Common.{◌≡◌, map, take}
use Rattle.std.specs.List.{flat_map}
use Rattle.wvalues.specs.Meaning.{meaning}
use Rattle.wcalls.proofs.PlainFacts.{list_seen}
use Rattle.wcalls.proofs.plain_lists.PlainLists.copied.Given as goal

abbrev pub invariant-loop-row : goal.invariant-loop-row
invariant-loop-row l = map meaning l.cells.items ≡ flat_map (list_seen l.self.places.items) (take l.row-index l.self.rows.now)
