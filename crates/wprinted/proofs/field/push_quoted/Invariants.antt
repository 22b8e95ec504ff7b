use Rattle.std.proofs.Common.{◌≡◌, ◌++◌, ◌∷◌, take}
use Rattle.std.specs.List.{flat_map}
use Rattle.wprinted.specs.Printing.{doubled, quote}
use Rattle.wprinted.proofs.field.push_quoted.Given as goal

abbrev pub invariant-loop-byte : goal.invariant-loop-byte
invariant-loop-byte l = l.bytes.items ≡ l.fn.bytes.items ++ (quote ∷ flat_map doubled (take l.byte-index l.text))
