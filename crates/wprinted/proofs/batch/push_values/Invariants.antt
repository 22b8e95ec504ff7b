use Rattle.std.proofs.Common.{◌≡◌, ◌++◌, map, take}
use Rattle.std.specs.List.{join_with_byte}
use Rattle.std.specs.Prelude.{slice_index_or}
use Rattle.wvalues.specs.Meaning.{Null}
use Rattle.wprinted.specs.Beside.{values_of}
use Rattle.wprinted.specs.Printing.{comma, field_text}
use Rattle.wprinted.proofs.batch.push_values.Given as goal

abbrev pub invariant-loop-i : goal.invariant-loop-i
invariant-loop-i l = l.bytes.items ≡ l.fn.bytes.items ++ join_with_byte comma
    (map (λ place. field_text (slice_index_or (values_of l.row) place Null)) (take l.i l.places))
