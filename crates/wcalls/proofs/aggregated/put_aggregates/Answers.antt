use Rattle.std.proofs.Common.{map, ◌∙◌}
use Rattle.std.proofs.lemmas.List.{length-map}
use Rattle.wvalues.specs.Meaning.{meaning}
use Rattle.waggregate.specs.Aggregating.{aggregate_of}
use Rattle.waggregate.specs.Feeding.{fed_by}
use Rattle.waggregate.specs.FrameAnswers.{frame_numbers}
use Rattle.wcalls.specs.Arranged.{Answer}
use Rattle.wcalls.proofs.PartitionFacts.{answers_given}
use Rattle.wcalls.proofs.aggregated.put_aggregates.Goals as goal

pub returns-clause-column : goal.returns-clause-column
returns-clause-column c w arranged =
    let feed = fed_by c.args.fed.now.argument c.args.fed.now.filter.now in
    let answer : Answer = λ p rows place. aggregate_of c.args.function feed (frame_numbers p rows place) in
    let puts = c.put_frame_aggregates.ensures.answers in
    answers_given w c.args.arranged.now.order.now c.args.arranged.now.partitions.now arranged answer
    (map meaning c.args.column.now) (map meaning c.put_frame_aggregates.new.column)
    (length-map c.args.column.now meaning ∙ c.requires.room) c.put_frame_aggregates.result puts.gives puts.put
