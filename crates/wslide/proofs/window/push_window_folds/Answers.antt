use Rattle.std.proofs.Common.{◌≡◌, ◌++◌, ◌+◌, ◌-◌, ◌<◌, ◌≤◌, ◌^◌, List, length, slice_range, sym, ap, ◌∙◌, arith, subst}
use Rattle.std.proofs.Common.{append_assoc}
use Rattle.std.specs.List.{flat_map}
use Rattle.std.proofs.lemmas.List.Elements.{All-same, All-append}
use Rattle.wframe.specs.Places.{span_at}
use Rattle.wframe.specs.Partition.{Partition, partition_of}
use Rattle.wframe.specs.declared.frame.Span.{Span}
use Rattle.wslide.specs.Frames.{folds_of_frames, most_by_queues}
use Rattle.wslide.proofs.Windows.{rows_up_to, among, rows_until, one_more, partition_long, few_joins, joins_more, joins_within}
use Rattle.wslide.proofs.window.push_window_folds.Goals as goal

pub overflow_sub-span : goal.overflow_sub-span
overflow_sub-span g c =
    let own = among c.args.partitions.now.spans (length c.args.partitions.now.keys) c.args.numbers.from c.args.numbers.to
    c.loop-number.number c.first_row-first.result c.span-rows.result c.first_row-first.ensures.tiles c.loop-number.invariant.ordered
    c.loop-number-test.true c.requires.within c.first_row-first.ensures.first c.span-rows.ensures.span in
    own.begins

pub overflow_sub-span-in-loop-number : goal.overflow_sub-span-in-loop-number
overflow_sub-span-in-loop-number g c =
    let own = among c.args.partitions.now.spans (length c.args.partitions.now.keys) c.args.numbers.from c.args.numbers.to
    c.loop-number.number c.first_row-first.result c.span-rows.result c.first_row-first.ensures.tiles c.loop-number.invariant.ordered
    c.loop-number-test.true c.requires.within c.first_row-first.ensures.first c.span-rows.ensures.span in
    omega (arith, own.begins, c.span-rows.ensures.some)

pub invariant_of-own-clause-within : goal.invariant_of-own-clause-within
invariant_of-own-clause-within g c =
    let own = among c.args.partitions.now.spans (length c.args.partitions.now.keys) c.args.numbers.from c.args.numbers.to
    c.loop-number.number c.first_row-first.result c.span-rows.result c.first_row-first.ensures.tiles c.loop-number.invariant.ordered
    c.loop-number-test.true c.requires.within c.first_row-first.ensures.first c.span-rows.ensures.span in
    let rows = c.requires.rows (omega (arith, c.loop-number-test.true, c.loop-number.invariant.ordered)) in
    omega (arith, own.ends, rows)

pub push_frame_folds-requires-clause-rows : goal.push_frame_folds-requires-clause-rows
push_frame_folds-requires-clause-rows g c =
    let all = c.args.partitions.now in
    let s = span_at all.spans c.loop-number.number in
    let own = among c.args.partitions.now.spans (length c.args.partitions.now.keys) c.args.numbers.from c.args.numbers.to
    c.loop-number.number c.first_row-first.result c.span-rows.result c.first_row-first.ensures.tiles c.loop-number.invariant.ordered
    c.loop-number-test.true c.requires.within c.first_row-first.ensures.first c.span-rows.ensures.span in
    let same = ap (λ (p : Partition). length p.keys) c.partition-frames.ensures in
    let from = ap (λ (s : Span). s.from) c.span-rows.ensures.span in
    let to = ap (λ (s : Span). s.to) c.span-rows.ensures.span in
    let long = partition_long all s (omega (arith, to, c.span-rows.ensures.within)) in
    omega (arith, same, from, to, long, own.begins, c.span-rows.ensures.some)

pub push_frame_folds-requires-clause-room : goal.push_frame_folds-requires-clause-room
push_frame_folds-requires-clause-room g c =
    let all = c.args.partitions.now in
    let first = c.first_row-first.result in
    let s = c.span-rows.result in
    let n = s.to - first - (s.from - first) in
    let own = among c.args.partitions.now.spans (length c.args.partitions.now.keys) c.args.numbers.from c.args.numbers.to
    c.loop-number.number c.first_row-first.result c.span-rows.result c.first_row-first.ensures.tiles c.loop-number.invariant.ordered
    c.loop-number-test.true c.requires.within c.first_row-first.ensures.first c.span-rows.ensures.span in
    let rows = c.requires.rows (omega (arith, c.loop-number-test.true, c.loop-number.invariant.ordered)) in
    let small : n < 2 ^ 31 = omega (arith, own.ends, rows, c.requires.few) in
    let fits = c.most_is_small.ensures c.partition-frames.result.frame.exclusion n small in
    let few = few_joins all.frame.exclusion (rows_up_to all.spans c.args.numbers.from c.loop-number.number) in
    omega (
      arith,
      fits,
      few,
      rows,
      own.before,
      own.ends,
      c.loop-number.invariant.joins,
      c.span-rows.ensures.some,
      c.requires.few,
      c.requires.room,
    )

pub returns-in_err-push_frame_folds-clause-joins : goal.returns-in_err-push_frame_folds-clause-joins
returns-in_err-push_frame_folds-clause-joins g c =
    let all = c.args.partitions.now in
    let e = all.frame.exclusion in
    let k = c.loop-number.number in
    let s = c.span-rows.result in
    let start = g.F.Fold.count c.args.meter.now in
    let before = g.F.Fold.count c.loop-number.meter in
    let after = g.F.Fold.count c.push_frame_folds.new.meter in
    let own = among c.args.partitions.now.spans (length c.args.partitions.now.keys) c.args.numbers.from c.args.numbers.to
    c.loop-number.number c.first_row-first.result c.span-rows.result c.first_row-first.ensures.tiles c.loop-number.invariant.ordered
    c.loop-number-test.true c.requires.within c.first_row-first.ensures.first c.span-rows.ensures.span in
    let rows = c.requires.rows (omega (arith, c.loop-number-test.true, c.loop-number.invariant.ordered)) in
    joins_within e start after (s.to - c.first_row-first.result) (g.F.Fold.rows c.args.fold.now)
    (omega (arith, own.ends, rows))
    (joins_more e c.partition-frames.result.frame.exclusion start before after (s.from - c.first_row-first.result)
    (s.to - c.first_row-first.result) (ap (λ (p : Partition). p.frame.exclusion) c.partition-frames.ensures)
    (omega (arith, c.span-rows.ensures.some))
    (subst (λ n. before ≤ start + most_by_queues e n) own.before c.loop-number.invariant.joins)
    c.push_frame_folds.ensures.joins c.push_frame_folds.ensures.few)

pub loop-number-preserved : goal.loop-number-preserved
loop-number-preserved g c =
    let f = c.args.fold.now in
    let neutral = g.F.Fold.neutral f in
    let joined = g.F.Fold.joined f in
    let at = g.F.Fold.part_at f in
    let all = c.args.partitions.now in
    let e = all.frame.exclusion in
    let inv = c.loop-number.invariant in
    let k = c.loop-number.number in
    let begin = c.args.numbers.from in
    let s = c.span-rows.result in
    let first = c.first_row-first.result in
    let low = (span_at all.spans begin).from in
    let start = c.args.folds.now.items in
    let counted = g.F.Fold.count c.args.meter.now in
    let before = g.F.Fold.count c.loop-number.meter in
    let after = g.F.Fold.count c.push_frame_folds.new.meter in
    let own = folds_of_frames neutral joined (λ row. at (s.from - first + row)) c.partition-frames.result in
    let folds_in : Span → List (g.row.F-Part.Denot) =
    λ s. folds_of_frames neutral joined (λ row. at (s.from - low + row)) (partition_of all s) in
    let made = flat_map folds_in (slice_range all.spans begin k) in
    let below : k < length all.spans = omega (arith, c.loop-number-test.true, c.requires.within) in
    let among_them = among c.args.partitions.now.spans (length c.args.partitions.now.keys) c.args.numbers.from c.args.numbers.to
    c.loop-number.number c.first_row-first.result c.span-rows.result c.first_row-first.ensures.tiles c.loop-number.invariant.ordered
    c.loop-number-test.true c.requires.within c.first_row-first.ensures.first c.span-rows.ensures.span in
    let same : own ≡ folds_in (span_at all.spans k) =
    ap (folds_of_frames neutral joined (λ row. at (s.from - first + row))) c.partition-frames.ensures
    ∙ ap (λ n. folds_of_frames neutral joined (λ row. at (s.from - n + row)) (partition_of all (span_at all.spans k)))
    c.first_row-first.ensures.first
    ∙ ap (λ (t : Span). folds_of_frames neutral joined (λ row. at (t.from - low + row)) (partition_of all (span_at all.spans k)))
    c.span-rows.ensures.span in
    let more : flat_map folds_in (slice_range all.spans begin (k + 1)) ≡ made ++ own =
    one_more folds_in all.spans begin k inv.ordered below ∙ ap (λ x. made ++ x) (sym same) in
    record {
      ordered = omega (arith, inv.ordered);
      folds =
          c.in_ok-push_frame_folds.ensures.folds
          ∙ ap (λ x. x ++ own) inv.folds
          ∙ append_assoc start made own
          ∙ ap (λ x. start ++ x) (sym more);
      parts = All-same (g.F.Fold.is_part f) (flat_map folds_in (slice_range all.spans begin (k + 1))) (made ++ own) more
          (All-append (g.F.Fold.is_part f) made own inv.parts c.in_ok-push_frame_folds.ensures.parts);
      room = λ i h j. c.push_frame_folds.ensures.space ((span_at all.spans i).to - (span_at all.spans i).from) (inv.room i h j);
      not_less = omega (arith, inv.not_less, c.push_frame_folds.ensures.not_less);
      joins =
          subst (λ n. after ≤ counted + most_by_queues e n) among_them.with_it
          (joins_more e c.partition-frames.result.frame.exclusion counted before after (s.from - first) (s.to - first)
          (ap (λ (p : Partition). p.frame.exclusion) c.partition-frames.ensures) (omega (arith, c.span-rows.ensures.some))
          (subst (λ n. before ≤ counted + most_by_queues e n) among_them.before inv.joins)
          c.push_frame_folds.ensures.joins c.push_frame_folds.ensures.few);
    }

pub returns-clause-joins : goal.returns-clause-joins
returns-clause-joins g c =
    let all = c.args.partitions.now in
    let begin = c.args.numbers.from in
    let k = c.loop-number.number in
    let end : k ≡ c.args.numbers.to = omega (arith, c.loop-number-test.false, c.loop-number.invariant) in
    let few = rows_until all.spans (length all.keys) begin c.args.numbers.to (g.F.Fold.rows c.args.fold.now)
    c.first_row-first.ensures.tiles c.requires.within c.requires.rows in
    joins_within all.frame.exclusion (g.F.Fold.count c.args.meter.now) (g.F.Fold.count c.loop-number.meter)
    (rows_up_to all.spans begin k) (g.F.Fold.rows c.args.fold.now)
    (subst (λ n. rows_up_to all.spans begin n ≤ g.F.Fold.rows c.args.fold.now) (sym end) few)
    c.loop-number.invariant.joins
