use Rattle.std.proofs.Common.{◌≡◌, ◌++◌, map, take}
use Rattle.wvalues.specs.Meaning.{meaning}
use Rattle.wrows.specs.Columns.{value_at}
use Rattle.wcalls.proofs.plain_lists.PlainLists.push_copies.Given as goal

abbrev pub invariant-loop-place : goal.invariant-loop-place
invariant-loop-place l = map meaning l.cells.items ≡ map meaning l.fn.cells.items ++ map (value_at (map meaning l.row))
    (take l.place-index l.self.places.items)
