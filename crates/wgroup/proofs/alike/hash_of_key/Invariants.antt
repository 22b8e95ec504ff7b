use Rattle.std.proofs.Common.{◌≡◌, map, drop}
use Rattle.std.specs.Hash.FoldHasher as folding
use Rattle.std.specs.List.{flat_map, fold}
use Rattle.wvalues.specs.Meaning.{meaning}
use Rattle.wgroup.specs.Sight.{key_in}
use Rattle.wgroup.specs.Table.{key_input}
use Rattle.wgroup.proofs.alike.hash_of_key.Given as goal

abbrev pub invariant-loop-column : goal.invariant-loop-column
invariant-loop-column l =
    fold folding.write folding.initial (flat_map key_input (key_in l.columns (map meaning l.row)))
    ≡ fold folding.write l.hasher (flat_map key_input (key_in (drop l.column-index l.columns) (map meaning l.row)))
