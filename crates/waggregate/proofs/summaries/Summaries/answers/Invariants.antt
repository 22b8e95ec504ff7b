use Rattle.std.proofs.Common.{◌≡◌, false, map, take}
use Rattle.std.specs.Prelude.{unwrap_or}
use Rattle.std.specs.List.{list_any}
use Rattle.std.specs.Option.{is_none}
use Rattle.wvalues.specs.Meaning.{Null, meaning}
use Rattle.waggregate.specs.Summaries.{answer_at}
use Rattle.waggregate.proofs.SummaryFacts.{nothing}
use Rattle.waggregate.proofs.summaries.Summaries.answers.Given as goal

abbrev pub invariant-loop-group : goal.invariant-loop-group
invariant-loop-group l = record {
  in_range : list_any (λ g. is_none (answer_at l.function l.self.groups.items g nothing)) (take l.group-index l.order) ≡ false;
  so_far : map meaning l.column.items
      ≡ map (λ g. unwrap_or (answer_at l.function l.self.groups.items g nothing) Null) (take l.group-index l.order);
}
