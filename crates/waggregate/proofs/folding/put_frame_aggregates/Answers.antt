use Rattle.std.proofs.Common.{◌≡◌, false, ◌<◌, ◌≤◌, length, map, drop, Ok, Err, ap, sym, ◌∙◌, arith, rules, subst, take_all}
use Rattle.std.specs.Prelude.{All, slice_range}
use Rattle.std.specs.List.{flat_map, list_any}
use Rattle.std.specs.Option.{is_none}
use Rattle.std.proofs.Math.ListN.{drop_of_length-le}
use Rattle.std.proofs.lemmas.Result.{err_from_is_err_and}
use Rattle.wvalues.specs.Meaning.{meaning}
use Rattle.wslide.proofs.Windows.{joins_within, reached}
use Rattle.wrows.specs.declared.fault.AnswerFault.TheVariants.{OutOfRange}
use Rattle.wrows.specs.Outcomes.{unless}
use Rattle.wrows.proofs.RowFacts.{refused}
use Rattle.waggregate.specs.Feeding.{fed_by, rows_of}
use Rattle.waggregate.specs.FrameAnswers.{batch_answers, values_or_null, window_answers}
use Rattle.waggregate.specs.Put.{put_all}
use Rattle.waggregate.proofs.BatchFacts.{reached_within}
use Rattle.waggregate.proofs.NextBatch.{all_next, answers_in, any_of_batch, few_next, in_range_more, is_next, is_some, is_within}
use Rattle.waggregate.proofs.NextBatch.{joins_next, no_fault, put_more, puts_next}
use Rattle.waggregate.proofs.PutFacts.{none_put, put_long}
use Rattle.waggregate.proofs.folding.put_frame_aggregates.Goals as goal

pub put_batch-requires-clause-few : goal.put_batch-requires-clause-few
put_batch-requires-clause-few c =
    let all = c.args.partitions.now in
    let rows = c.args.rows.now in
    let done = c.loop-done.done in
    let b = c.batch_from-batch.result in
    let next = is_next all rows done b c.batch_from-batch.ensures.from c.batch_from-batch.ensures.partitions
    c.batch_from-batch.ensures.rows in
    let tiles = c.count-count.ensures.tiles in
    omega (arith, few_next all rows tiles done b next, c.requires.few)

pub put_batch-requires-clause-fed : goal.put_batch-requires-clause-fed
put_batch-requires-clause-fed c =
    let all = c.args.partitions.now in
    let rows = c.args.rows.now in
    let done = c.loop-done.done in
    let b = c.batch_from-batch.result in
    let next = is_next all rows done b c.batch_from-batch.ensures.from c.batch_from-batch.ensures.partitions
    c.batch_from-batch.ensures.rows in
    let tiles = c.count-count.ensures.tiles in
    all_next all rows tiles done b next (λ i. i < rows_of c.args.fed.now.argument) c.requires.fed

pub put_batch-requires-clause-below : goal.put_batch-requires-clause-below
put_batch-requires-clause-below c =
    let all = c.args.partitions.now in
    let rows = c.args.rows.now in
    let done = c.loop-done.done in
    let b = c.batch_from-batch.result in
    let next = is_next all rows done b c.batch_from-batch.ensures.from c.batch_from-batch.ensures.partitions
    c.batch_from-batch.ensures.rows in
    let tiles = c.count-count.ensures.tiles in
    subst (λ n. All (λ i. i < n) b.rows.now) (sym c.loop-done.invariant.long)
    (all_next all rows tiles done b next (λ i. i < length c.args.column.now) c.requires.below)

pub returns-in_err-put_batch-clause-answers : goal.returns-in_err-put_batch-clause-answers
returns-in_err-put_batch-clause-answers c =
    let p = err_from_is_err_and c.from_residual.result c.from_residual.ensures.1 in
    let all = c.args.partitions.now in
    let rows = c.args.rows.now in
    let done = c.loop-done.done in
    let b = c.batch_from-batch.result in
    let next = is_next all rows done b c.batch_from-batch.ensures.from c.batch_from-batch.ensures.partitions
    c.batch_from-batch.ensures.rows in
    let tiles = c.count-count.ensures.tiles in
    let to = b.numbers.to in
    let function = c.args.function in
    let feed = fed_by c.args.fed.now.argument c.args.fed.now.filter.now in
    let some = is_some all rows tiles done b next in
    let start = reached 0 all.spans done in
    let end = reached 0 all.spans to in
    let puts = puts_next all rows tiles done b next function feed (Err c.in_err-put_batch.field-0.0) c.loop-done.column
    c.put_batch.new.column c.in_err-put_batch.ensures.answers in
    record {
      gives = rw (p.1, p.2) (refused (λ u. u) c.in_err-put_batch.field-0.0
          (list_any is_none (batch_answers function feed all start (slice_range all.spans done to) (slice_range rows start end)))
          (list_any is_none (window_answers function feed all rows)) (tt {0}) puts.gives
          (any_of_batch function feed all rows c.requires.rows tiles done to some));
      put = search rules;
    }

pub returns-in_err-put_batch-clause-joins : goal.returns-in_err-put_batch-clause-joins
returns-in_err-put_batch-clause-joins c =
    let all = c.args.partitions.now in
    let rows = c.args.rows.now in
    let done = c.loop-done.done in
    let b = c.batch_from-batch.result in
    let next = is_next all rows done b c.batch_from-batch.ensures.from c.batch_from-batch.ensures.partitions
    c.batch_from-batch.ensures.rows in
    let tiles = c.count-count.ensures.tiles in
    let function = c.args.function in
    let feed = fed_by c.args.fed.now.argument c.args.fed.now.filter.now in
    let end = reached 0 all.spans b.numbers.to in
    joins_within all.frame.exclusion c.args.tally.now c.put_batch.new.tally end (length rows)
    (omega (arith, reached_within 0 all.spans (length all.keys) b.numbers.to tiles, c.requires.rows))
    (joins_next all rows tiles done b next function feed c.requires.rows c.args.tally.now c.loop-done.tally c.put_batch.new.tally
    c.loop-done.invariant.joins c.put_batch.ensures.joins)

pub loop-done-preserved : goal.loop-done-preserved
loop-done-preserved c =
    let all = c.args.partitions.now in
    let rows = c.args.rows.now in
    let done = c.loop-done.done in
    let b = c.batch_from-batch.result in
    let next = is_next all rows done b c.batch_from-batch.ensures.from c.batch_from-batch.ensures.partitions
    c.batch_from-batch.ensures.rows in
    let tiles = c.count-count.ensures.tiles in
    let to = b.numbers.to in
    let function = c.args.function in
    let feed = fed_by c.args.fed.now.argument c.args.fed.now.filter.now in
    let some = is_some all rows tiles done b next in
    let start = reached 0 all.spans done in
    let end = reached 0 all.spans to in
    let answers = batch_answers function feed all start (slice_range all.spans done to) (slice_range rows start end) in
    let puts = puts_next all rows tiles done b next function feed (Ok (tt {0})) c.loop-done.column c.put_batch.new.column
    c.in_ok-put_batch.ensures.answers in
    record {
      within = is_within all rows tiles done b next;
      long = put_long meaning c.loop-done.column c.put_batch.new.column (slice_range rows start end) (values_or_null answers) puts.put
          ∙ c.loop-done.invariant.long;
      in_range = in_range_more function feed all rows c.requires.rows tiles done to some c.loop-done.invariant.in_range
          (no_fault (list_any is_none answers) puts.gives);
      put = put_more function feed all rows c.requires.rows tiles done to some (map meaning c.loop-done.column)
          (map meaning c.put_batch.new.column) (put_all (map meaning c.args.column.now) rows
          (values_or_null (window_answers function feed all rows))) puts.put c.loop-done.invariant.put;
      joins = joins_next all rows tiles done b next function feed c.requires.rows c.args.tally.now c.loop-done.tally
          c.put_batch.new.tally c.loop-done.invariant.joins c.in_ok-put_batch.ensures.joins;
      not_less = omega (arith, c.loop-done.invariant.not_less, c.in_ok-put_batch.ensures.not_less);
    }

pub returns-clause-answers : goal.returns-clause-answers
returns-clause-answers c =
    let all = c.args.partitions.now in
    let rows = c.args.rows.now in
    let done = c.loop-done.done in
    let feed = fed_by c.args.fed.now.argument c.args.fed.now.filter.now in
    let answers = flat_map (answers_in c.args.function feed all rows) in
    let whole : length all.spans ≤ done = omega (arith, c.count-count.ensures.count, c.loop-done-test.false) in
    let none : list_any is_none (answers all.spans) ≡ false =
    ap (λ ss. list_any is_none (answers ss)) (sym (take_all done all.spans whole)) ∙ c.loop-done.invariant.in_range in
    record {
      gives = ap (λ b. unless b OutOfRange (tt {0})) none;
      put = sym (none_put (map meaning c.loop-done.column) (drop (reached 0 all.spans done) rows))
          ∙ ap (λ ss. put_all (map meaning c.loop-done.column) (drop (reached 0 all.spans done) rows) (values_or_null (answers ss)))
          (sym (drop_of_length-le all.spans whole)) ∙ c.loop-done.invariant.put;
    }

pub returns-clause-joins : goal.returns-clause-joins
returns-clause-joins c =
    let all = c.args.partitions.now in
    let place = reached 0 all.spans c.loop-done.done in
    joins_within all.frame.exclusion c.args.tally.now c.loop-done.tally place (length c.args.rows.now)
    (omega (arith, reached_within 0 all.spans (length all.keys) c.loop-done.done c.count-count.ensures.tiles, c.requires.rows))
    c.loop-done.invariant.joins
