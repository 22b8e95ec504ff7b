use Rattle.std.proofs.Common.{◌≡◌, ◌+◌, ◌-◌, ◌≤◌, false, map, take, drop, length}
use Rattle.std.specs.List.{flat_map, list_any}
use Rattle.std.specs.Option.{is_none}
use Rattle.wvalues.specs.Meaning.{meaning}
use Rattle.wslide.specs.Frames.{most_by_queues}
use Rattle.wslide.proofs.Windows.{reached}
use Rattle.waggregate.specs.Feeding.{fed_by}
use Rattle.waggregate.specs.FrameAnswers.{values_or_null}
use Rattle.waggregate.specs.Put.{put_all}
use Rattle.waggregate.proofs.NextBatch.{answers_in}
use Rattle.waggregate.proofs.folding.put_frame_aggregates.Given as goal

abbrev pub invariant-loop-done : goal.invariant-loop-done
invariant-loop-done l =
    let all = l.partitions in
    let answers = flat_map (answers_in l.function (fed_by l.fed.argument l.fed.filter.now) all l.rows) in
    let place = reached 0 all.spans l.done in
    record {
      within : l.done ≤ length all.spans;
      long : length l.column ≡ length l.fn.column;
      in_range : list_any is_none (answers (take l.done all.spans)) ≡ false;
      put : put_all (map meaning l.column) (drop place l.rows) (values_or_null (answers (drop l.done all.spans)))
          ≡ put_all (map meaning l.fn.column) l.rows (values_or_null (answers all.spans));
      joins : l.tally ≤ l.fn.tally + most_by_queues all.frame.exclusion place;
      not_less : l.fn.tally ≤ l.tally;
    }

abbrev pub decreases-loop-done : goal.decreases-loop-done
decreases-loop-done l = length l.partitions.spans - l.done
