use Rattle.std.proofs.Common.{◌≡◌, ◌+◌, map, drop, length}
use Rattle.std.specs.List.{flat_map}
use Rattle.wvalues.specs.Meaning.{meaning}
use Rattle.wrows.specs.Columns.{in_range}
use Rattle.wgroup.specs.Finer.{AreAnswered}
use Rattle.wgroup.specs.Held.{all_groups}
use Rattle.wgroup.specs.Shared.{fed_answers}
use Rattle.waggregate.specs.Feeding.{fed_by}
use Rattle.wgroup.proofs.ColumnFacts.{answers_behind}
use Rattle.wgroup.proofs.call_columns.aggregate_answers.Given as goal

abbrev pub invariant-loop-groups : goal.invariant-loop-groups
invariant-loop-groups l =
    let column = flat_map (λ list. map meaning list.items) l.answered.items in
    record {
      so_far : in_range (flat_map (fed_answers l.fed) l.sets) ≡ answers_behind (fed_answers l.fed)
          column (drop l.groups-index l.sets);
      known : AreAnswered l.fed.function (fed_by l.fed.argument l.fed.filter) l.sets l.answered.items;
      as_many : length l.answered.items ≡ l.groups-index;
      len : length column + length (all_groups (drop l.groups-index l.sets)) ≡ length (all_groups l.sets);
    }
