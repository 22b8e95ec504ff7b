use Rattle.std.proofs.Common.{◌≡◌, ◌++◌, map, take, get_or}
use Rattle.wvalues.specs.Meaning.{Null, meaning}
use Rattle.waggregate.specs.Feeding.{values_of}
use Rattle.waggregate.proofs.picking.push_without_texts.Given as goal

abbrev pub invariant-loop-row : goal.invariant-loop-row
invariant-loop-row l = map meaning l.copied.items
    ≡ map meaning l.fn.copied.items ++ map (λ i. get_or (values_of l.argument) i Null) (take l.row-index l.rows)
