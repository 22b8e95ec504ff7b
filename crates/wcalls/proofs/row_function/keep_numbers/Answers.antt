use Rattle.std.proofs.Common.{◌≡◌, ℕ, List, length, map, sym, ap, ◌∙◌, arith}
use Rattle.std.specs.List.{slice_range}
use Rattle.std.proofs.Math.ListN.{drop_of_length-le}
use Rattle.std.proofs.lemmas.List.{length-map}
use Rattle.wvalues.specs.Meaning.{Meaning, Null}
use Rattle.wframe.specs.declared.frame.Span.{Span}
use Rattle.wframe.specs.Partition.{Partition, partition_of}
use Rattle.wframe.specs.Places.{places, span_at}
use Rattle.waggregate.specs.Put.{put_all}
use Rattle.waggregate.proofs.PutFacts.{put_long}
use Rattle.wcalls.proofs.ArrangedFacts.{sliced_alike}
use Rattle.wcalls.proofs.PartitionFacts.{all_put, put_in, put_more}
use Rattle.wcalls.proofs.row_function.keep_numbers.Goals as goal

pub loop-number-preserved : goal.loop-number-preserved
loop-number-preserved g c =
    let order = c.args.arranged.now.order.now in
    let all = c.args.arranged.now.partitions.now in
    let number = g.T.RowFunction.number_for c.args.call.now in
    let kept = c.loop-number.kept in
    let k = c.loop-number.number in
    let span = span_at all.spans k in
    let own : List ℕ = slice_range order c.span-span.result.from c.span-span.result.to in
    let wide : length (slice_range order span.from span.to) ≡ length (partition_of all span).keys =
    sliced_alike order all.keys span.from span.to c.args.arranged.now.dealt in
    record {
      long = put_long (λ n. Null) kept c.keep.new.kept own (map (λ place. Null) (places (length own))) (c.keep.ensures (λ n. Null))
          ∙ c.loop-number.invariant.long;
      put = λ meant. put_more (λ p rows place. meant (number p rows place)) all order k (omega arith) (map meant kept)
          (map meant c.keep.new.kept) _
          (c.keep.ensures meant
          ∙ ap (λ (s : Span). put_all (map meant kept) (slice_range order s.from s.to)
          (map (λ place. meant (number c.partition-frames.result (slice_range order s.from s.to) place))
          (places (length (slice_range order s.from s.to))))) c.span-span.ensures.span
          ∙ ap (λ p. put_all (map meant kept) (slice_range order span.from span.to)
          (map (λ place. meant (number p (slice_range order span.from span.to) place))
          (places (length (slice_range order span.from span.to))))) c.partition-frames.ensures
          ∙ ap (λ n. put_all (map meant kept) (slice_range order span.from span.to)
          (map (λ place. meant (number (partition_of all span) (slice_range order span.from span.to) place)) (places n))) wide)
          (c.loop-number.invariant.put meant);
    }

pub returns : goal.returns
returns g c w arranged meant =
    let order = c.args.arranged.now.order.now in
    let all = c.args.arranged.now.partitions.now in
    let answer : Partition → List ℕ → ℕ → Meaning = λ p rows place. meant (g.T.RowFunction.number_for c.args.call.now p rows place) in
    let new = map meant c.loop-number.kept in
    all_put w order all answer (map meant c.args.kept.now) new arranged (length-map c.args.kept.now meant ∙ c.requires)
    c.args.arranged.now.dealt
    (sym (ap (put_in answer all order new)
    (drop_of_length-le all.spans (omega (arith, c.loop-number-test.false, c.count-number-end.ensures.count))))
    ∙ c.loop-number.invariant.put meant)
