use Rattle.std.proofs.Common.{◌≡◌, [], drop, map}
use Rattle.csv.specs.Records.{fields_of}
use Rattle.wsegment.specs.Header.{named_each}
use Rattle.wsegment.proofs.Fronts.{with_front}
use Rattle.wsegment.proofs.header.header_columns.Given as goal

abbrev pub invariant-loop-i : goal.invariant-loop-i
invariant-loop-i l = with_front (map (λ c. c.now) l.found.items) (named_each l.columns (map (λ c. c.now) l.found.items)
    (drop l.i (fields_of l.header))) ≡ named_each l.columns [] (fields_of l.header)
