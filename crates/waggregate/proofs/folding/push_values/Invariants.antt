use Rattle.std.proofs.Common.{◌≡◌, ◌++◌, false, map, take}
use Rattle.std.specs.Prelude.{unwrap_or}
use Rattle.std.specs.List.{list_any}
use Rattle.std.specs.Option.{is_none}
use Rattle.wvalues.specs.Meaning.{Null, meaning}
use Rattle.waggregate.proofs.folding.push_values.Given as goal

abbrev pub invariant-loop-part : goal.invariant-loop-part
invariant-loop-part g l =
    let answer = g.F.AnsweringFold.answer l.fold in
    record {
      in_range : list_any (λ part. is_none (answer part)) (take l.part-index l.parts) ≡ false;
      so_far : map meaning l.column.items ≡ map meaning l.fn.column.items ++ map (λ part. unwrap_or (answer part) Null)
          (take l.part-index l.parts);
    }
