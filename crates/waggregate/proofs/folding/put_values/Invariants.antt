use Rattle.std.proofs.Common.{◌≡◌, false, map, take, drop, length}
use Rattle.std.specs.List.{list_any}
use Rattle.std.specs.Option.{is_none}
use Rattle.wvalues.specs.Meaning.{meaning}
use Rattle.waggregate.specs.FrameAnswers.{values_or_null}
use Rattle.waggregate.specs.Put.{put_all}
use Rattle.waggregate.proofs.folding.put_values.Given as goal

abbrev pub invariant-loop-place : goal.invariant-loop-place
invariant-loop-place g l =
    let answer = g.F.AnsweringFold.answer l.fold in
    record {
      long : length l.column ≡ length l.fn.column;
      in_range : list_any (λ part. is_none (answer part)) (take l.place l.parts) ≡ false;
      put : put_all (map meaning l.column) (drop l.place l.rows) (drop l.place (values_or_null (map answer l.parts)))
          ≡ put_all (map meaning l.fn.column) l.rows (values_or_null (map answer l.parts));
    }
