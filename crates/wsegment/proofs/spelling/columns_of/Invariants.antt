use Rattle.std.proofs.Common.{◌≡◌, ◌++◌, length}
use Rattle.std.specs.List.{AllByRecursion, flat_map}
use Rattle.wsegment.specs.Declaration.{column_text}
use Rattle.wsegment.specs.Spelling.{HasName}
use Rattle.wsegment.proofs.spelling.columns_of.Given as goal

abbrev pub invariant-loop-rest : goal.invariant-loop-rest
invariant-loop-rest l = record {
  named : AllByRecursion HasName l.columns.items;
  text : l.bytes ≡ flat_map column_text l.columns.items ++ l.rest;
}

abbrev pub decreases-loop-rest : goal.decreases-loop-rest
decreases-loop-rest l = length l.rest
