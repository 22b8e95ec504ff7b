use Rattle.std.proofs.Common.{◌≡◌, ◌++◌, map}
use Rattle.std.specs.List.{flat_map}
use Rattle.wvalues.specs.Meaning.{meaning}
use Rattle.waggregate.proofs.grouped.joined_lists.Given as goal

abbrev pub invariant-loop-list : goal.invariant-loop-list
invariant-loop-list l = flat_map (λ list. map meaning list.items) l.fn.lists.items ≡ map meaning l.column.items ++ flat_map
    (λ list. map meaning list.items) l.list-iterator.rest.items
