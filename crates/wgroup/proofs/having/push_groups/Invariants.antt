use Rattle.std.proofs.Common.{◌≡◌, ◌++◌, map}
use Rattle.std.specs.List.{flat_map}
use Rattle.wvalues.specs.Meaning.{meaning}
use Rattle.wframe.specs.Places.{places}
use Rattle.wgroup.specs.Held.{columns_in, group_row}
use Rattle.wgroup.proofs.having.push_groups.Given as goal

abbrev pub invariant-loop-place : goal.invariant-loop-place
invariant-loop-place l = map meaning l.out.items ≡ map meaning l.fn.out.items ++ flat_map
    (group_row l.groups (columns_in l.columns) l.from) (places l.place)
