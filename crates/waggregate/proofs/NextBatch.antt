-- One batch after another.
use Rattle.std.proofs.Common.{◌≡◌, ℕ, ◌+◌, ◌-◌, ◌<◌, ◌≤◌, ◌||◌, Bool, true, false, List, [], ◌∷◌, ◌++◌}
use Rattle.std.proofs.Common.{length, take, drop, Option, Ok, refl, sym, ap, ◌∙◌, arith, length-take-le, subst}
use Rattle.std.proofs.Common.{length-append, length-drop, take-append-drop}
use Rattle.std.specs.Prelude.{All, Result, slice_range, unwrap_or}
use Rattle.std.specs.List.{flat_map, list_any}
use Rattle.std.specs.Option.{is_none}
use Rattle.std.proofs.lemmas.List.{length-map, length-take, map-append}
use Rattle.std.proofs.lemmas.List.Concat.{flat_map-append}
use Rattle.std.proofs.lemmas.List.Folds.{drop_split, list_any-append}
use Rattle.std.proofs.lemmas.List.Elements.{All-same}
use Rattle.wvalues.specs.declared.value.Value.{Value}
use Rattle.wvalues.specs.Meaning.{Meaning, Null}
use Rattle.wframe.specs.declared.frame.FrameExclusion.{FrameExclusion}
use Rattle.wframe.specs.declared.frame.FrameExclusion.TheVariants.{CurrentRow, Group, Ties, NoOthers}
use Rattle.wframe.specs.declared.frame.Span.{Span}
use Rattle.wframe.specs.Partition.{Partitioned, partition_of}
use Rattle.wframe.specs.Places.{Tiles, places, span_at}
use Rattle.wslide.specs.Frames.{most_by_queues}
use Rattle.wslide.proofs.Windows.{reached, reached_from, partition_long}
use Rattle.wplan.specs.declared.resolved.AggregateFunction.{AggregateFunction}
use Rattle.wrows.specs.declared.fault.AnswerFault.{AnswerFault}
use Rattle.wrows.specs.declared.fault.AnswerFault.TheVariants.{OutOfRange}
use Rattle.wrows.specs.Outcomes.{unless}
use Rattle.wrows.proofs.RowFacts.{length-places}
use Rattle.waggregate.specs.Aggregating.{Feed, aggregate_of}
use Rattle.waggregate.specs.Batches.{batch_spans, batch_start}
use Rattle.waggregate.specs.declared.batch.Batch.{Batch}
use Rattle.waggregate.specs.FrameAnswers.{Puts, frame_numbers, frame_answers, batch_answers, values_or_null}
use Rattle.waggregate.specs.Put.{put_all}
use Rattle.waggregate.proofs.BatchFacts.{IsInside, reached_last, reached_rises, reached_within, slice_inside, tiles_inside, tiles_sliced}
use Rattle.waggregate.proofs.CopyFacts.{all_among, front_more}
use Rattle.waggregate.proofs.PutFacts.{put_append}
use Rattle.waggregate.proofs.WindowFacts.{flat_alike}

-- the answers of a partition
abbrev pub answers_in : AggregateFunction → Feed → Partitioned → List ℕ → Span → List (Option Meaning)
answers_in function feed all rows s = frame_answers function feed (partition_of all s) (slice_range rows s.from s.to)

-- an outcome that is no fault
pub no_fault : (b : Bool) → unless b OutOfRange (tt {0}) ≡ Ok (tt {0}) → b ≡ false
no_fault true e = absurd (cc)
no_fault false e = refl

any_middle : (a b c : Bool) → b ≡ true → (a || (b || c)) ≡ true
any_middle true b c e = refl
any_middle false true c e = refl
any_middle false false c e = absurd (cc)

neither_more : (a b : Bool) → a ≡ false → b ≡ false → (a || b) ≡ false
neither_more true b e f = absurd (cc)
neither_more false b e f = f

-- the joins of some rows and of some more
pub joins_more : (e : FrameExclusion) (start before after m n k : ℕ) → m + n ≡ k → before ≤ start + most_by_queues e m
    → after ≤ before + most_by_queues e n → after ≤ start + most_by_queues e k
joins_more NoOthers start before after m n k sum so_far more = omega (arith, sum, so_far, more)
joins_more CurrentRow start before after m n k sum so_far more = omega (arith, sum, so_far, more)
joins_more Group start before after m n k sum so_far more = omega (arith, sum, so_far, more)
joins_more Ties start before after m n k sum so_far more = omega (arith, sum, so_far, more)

module _ (function : AggregateFunction) (feed : Feed) (all : Partitioned) (rows : List ℕ) (long : length rows ≡ length all.keys)
    (tiles : Tiles 0 all.spans (length all.keys)) where
  answers_long : (low : ℕ) (ss : List Span) (high : ℕ) → Tiles low ss high → high ≤ length all.keys
      → low + length (flat_map (answers_in function feed all rows) ss) ≡ high
  answers_long low [] high t h = omega (arith, t)
  answers_long low (s ∷ ss) high t h =
      let p = partition_of all s in
      let here = answers_in function feed all rows s in
      let first : s.from ≡ low = t.0 in
      let some : s.from < s.to = t.1 in
      let within : s.to ≤ high = reached_within s.to ss high 0 t.2 in
      let others : s.to + length (flat_map (answers_in function feed all rows) ss) ≡ high = answers_long s.to ss high t.2 h in
      let wide : length here ≡ s.to - s.from = length-map (places (length p.keys)) (λ place. aggregate_of function feed
      (frame_numbers p (slice_range rows s.from s.to) place))
      ∙ length-places 0 (length p.keys) ∙ partition_long all s (omega arith) in
      omega (arith, length-append here (flat_map (answers_in function feed all rows) ss))

  module _ (from to : ℕ) (some : from < to) where
    abbrev first : ℕ
    first = reached 0 all.spans from

    abbrev last : ℕ
    last = reached 0 all.spans to

    abbrev some_spans : List Span
    some_spans = slice_range all.spans from to

    rises : first ≤ last
    rises = reached_rises all.spans (length all.keys) from to tiles (omega (arith, some))

    high : last ≤ length all.keys
    high = reached_within 0 all.spans (length all.keys) to tiles

    sliced : Tiles first some_spans last
    sliced = tiles_sliced all.spans (length all.keys) from to tiles (omega (arith, some))

    abbrev of_batch : List (Option Meaning)
    of_batch = batch_answers function feed all first some_spans (slice_range rows first last)

    -- the answers of a batch are those of its partitions
    alike : of_batch ≡ flat_map (answers_in function feed all rows) some_spans
    alike = flat_alike (IsInside first last)
        (λ s. frame_answers function feed (partition_of all s) (slice_range (slice_range rows first last) (s.from - first) (s.to - first)))
        (answers_in function feed all rows) some_spans (tiles_inside first first some_spans last (omega arith) sliced)
        (λ s h. ap (frame_answers function feed (partition_of all s)) (slice_inside rows first last s.from s.to h.0 h.1 h.2))

    -- how many rows a batch has
    pub rows_more : first + length (slice_range rows first last) ≡ last
    rows_more =
        let fits : last - first ≤ length (drop first rows) = omega (arith, length-drop first rows, long, high) in
        omega (arith, length-take-le (last - first) (drop first rows) fits, rises)

    as_many : length (slice_range rows first last) ≡ length (values_or_null (flat_map (answers_in function feed all rows) some_spans))
    as_many =
        let results = flat_map (answers_in function feed all rows) some_spans in
        omega (arith, rows_more, answers_long first some_spans last sliced high, length-map results (λ r. unwrap_or r Null))

    -- no answer is out of range so far
    pub in_range_more : list_any is_none (flat_map (answers_in function feed all rows) (take from all.spans)) ≡ false
        → list_any is_none of_batch ≡ false
        → list_any is_none (flat_map (answers_in function feed all rows) (take to all.spans)) ≡ false
    in_range_more so_far more =
        let answers = flat_map (answers_in function feed all rows) in
        let e : from + (to - from) ≡ to = omega (arith, some) in
        ap (λ n. list_any is_none (answers (take n all.spans))) (sym e)
        ∙ ap (λ ss. list_any is_none (answers ss)) (sym (front_more from (to - from) all.spans))
        ∙ ap (list_any is_none) (flat_map-append (answers_in function feed all rows) (take from all.spans) some_spans)
        ∙ list_any-append is_none (answers (take from all.spans)) (answers some_spans)
        ∙ neither_more (list_any is_none (answers (take from all.spans))) (list_any is_none (answers some_spans)) so_far
        (ap (list_any is_none) (sym alike) ∙ more)

    -- an answer of a batch that is out of range is one of the window
    pub any_of_batch : list_any is_none of_batch ≡ true → list_any is_none (flat_map (answers_in function feed all rows) all.spans) ≡ true
    any_of_batch h =
        let answers = flat_map (answers_in function feed all rows) in
        let before = take from all.spans in
        let behind = drop to all.spans in
        ap (λ ss. list_any is_none (answers ss)) (sym (take-append-drop from all.spans)
        ∙ ap (λ ss. before ++ ss) (drop_split all.spans from to (omega (arith, some))))
        ∙ ap (list_any is_none) (flat_map-append (answers_in function feed all rows) before (some_spans ++ behind)
        ∙ ap (λ l. answers before ++ l) (flat_map-append (answers_in function feed all rows) some_spans behind))
        ∙ list_any-append is_none (answers before) (answers some_spans ++ answers behind)
        ∙ ap (λ b. list_any is_none (answers before) || b) (list_any-append is_none (answers some_spans) (answers behind))
        ∙ any_middle (list_any is_none (answers before)) (list_any is_none (answers some_spans)) (list_any is_none (answers behind))
        (ap (list_any is_none) (sym alike) ∙ h)

    -- the values of one batch more are put
    pub put_more : (cells new end : List Meaning) → new ≡ put_all cells (slice_range rows first last) (values_or_null of_batch)
        → put_all cells (drop first rows) (values_or_null (flat_map (answers_in function feed all rows) (drop from all.spans))) ≡ end
        → put_all new (drop last rows) (values_or_null (flat_map (answers_in function feed all rows) (drop to all.spans))) ≡ end
    put_more cells new end is so_far =
        let answers = flat_map (answers_in function feed all rows) in
        let here = slice_range rows first last in
        let results = values_or_null (answers some_spans) in
        let left = values_or_null (answers (drop to all.spans)) in
        ap (λ c. put_all c (drop last rows) left) (is ∙ ap (λ a. put_all cells here (values_or_null a)) alike)
        ∙ sym (put_append cells here (drop last rows) results left as_many)
        ∙ ap (λ l. put_all cells l (results ++ left)) (sym (drop_split rows first last rises))
        ∙ ap (put_all cells (drop first rows)) (sym (map-append (λ r. unwrap_or r Null) (answers some_spans) (answers (drop to all.spans))))
        ∙ ap (λ a. put_all cells (drop first rows) (values_or_null a))
        (sym (flat_map-append (answers_in function feed all rows) some_spans (drop to all.spans))
        ∙ ap answers (sym (drop_split all.spans from to (omega (arith, some)))))
        ∙ so_far

-- a batch of the partitions of a window, from the one of a number on
pub record IsNext (all : Partitioned) (order : List ℕ) (number : ℕ) (b : Batch) : Type 0 where
  pub from : b.numbers.from ≡ number
  pub partitions : b.partitions.now ≡ all
  pub rows : b.rows.now ≡ slice_range order (span_at all.spans number).from (span_at all.spans (b.numbers.to - 1)).to

pub is_next : (all : Partitioned) (order : List ℕ) (number : ℕ) (b : Batch) → b.numbers.from ≡ number → b.partitions.now ≡ all
    → b.rows.now ≡ slice_range order (span_at all.spans number).from (span_at all.spans (b.numbers.to - 1)).to
    → IsNext all order number b
is_next all order number b from partitions rows = record { from = from; partitions = partitions; rows = rows }

module _ (all : Partitioned) (rows : List ℕ) (tiles : Tiles 0 all.spans (length all.keys)) (from : ℕ) (b : Batch)
    (next : IsNext all rows from b) where
  pub is_some : from < b.numbers.to
  is_some = omega (arith, b.some, next.from)

  pub is_within : b.numbers.to ≤ length all.spans
  is_within = subst (λ (p : Partitioned). b.numbers.to ≤ length p.spans) next.partitions b.within

  begins : (span_at all.spans from).from ≡ reached 0 all.spans from
  begins = sym (reached_from 0 all.spans (length all.keys) from tiles (omega (arith, is_some, is_within)))

  ends : (span_at all.spans (b.numbers.to - 1)).to ≡ reached 0 all.spans b.numbers.to
  ends = sym (reached_last all.spans b.numbers.to (omega (arith, is_some)) is_within)

  -- its rows
  pub rows_next : b.rows.now ≡ slice_range rows (reached 0 all.spans from) (reached 0 all.spans b.numbers.to)
  rows_next =
      next.rows
      ∙ ap (λ n. slice_range rows n (span_at all.spans (b.numbers.to - 1)).to) begins
      ∙ ap (slice_range rows (reached 0 all.spans from)) ends

  pub few_next : length b.rows.now ≤ length rows
  few_next =
      let start = reached 0 all.spans from in
      let end = reached 0 all.spans b.numbers.to in
      omega (arith, ap length rows_next, length-take (end - start) (drop start rows), length-drop start rows)

  -- what holds of all rows holds of its rows
  pub all_next : (P : ℕ → Type 0) → All P rows → All P b.rows.now
  all_next P h =
      let start = reached 0 all.spans from in
      let end = reached 0 all.spans b.numbers.to in
      All-same P b.rows.now (slice_range rows start end) rows_next (all_among P start end rows h)

  module _ (function : AggregateFunction) (feed : Feed) where
    answers_next : batch_answers function feed b.partitions.now (batch_start b) (batch_spans b) b.rows.now
        ≡ batch_answers function feed all (reached 0 all.spans from) (slice_range all.spans from b.numbers.to)
        (slice_range rows (reached 0 all.spans from) (reached 0 all.spans b.numbers.to))
    answers_next =
        let to = b.numbers.to in
        ap (λ (p : Partitioned). batch_answers function feed p (span_at p.spans b.numbers.from).from
        (slice_range p.spans b.numbers.from to) b.rows.now) next.partitions
        ∙ ap (λ k. batch_answers function feed all (span_at all.spans k).from (slice_range all.spans k to) b.rows.now) next.from
        ∙ ap (λ n. batch_answers function feed all n (slice_range all.spans from to) b.rows.now) begins
        ∙ ap (batch_answers function feed all (reached 0 all.spans from) (slice_range all.spans from to)) rows_next

    -- what is put for it
    pub puts_next : (outcome : Result (Unit {0}) AnswerFault) (old new : List Value)
        → Puts (batch_answers function feed b.partitions.now (batch_start b) (batch_spans b) b.rows.now) b.rows.now outcome old new
        → Puts (batch_answers function feed all (reached 0 all.spans from) (slice_range all.spans from b.numbers.to)
        (slice_range rows (reached 0 all.spans from) (reached 0 all.spans b.numbers.to)))
        (slice_range rows (reached 0 all.spans from) (reached 0 all.spans b.numbers.to)) outcome old new
    puts_next outcome old new puts =
        let answers = batch_answers function feed all (reached 0 all.spans from) (slice_range all.spans from b.numbers.to)
        (slice_range rows (reached 0 all.spans from) (reached 0 all.spans b.numbers.to)) in
        subst (λ l. Puts answers l outcome old new) rows_next (subst (λ a. Puts a b.rows.now outcome old new) answers_next puts)

    -- the joins that it takes
    pub joins_next : length rows ≡ length all.keys → (start before after : ℕ)
        → before ≤ start + most_by_queues all.frame.exclusion (reached 0 all.spans from)
        → after ≤ before + most_by_queues b.partitions.now.frame.exclusion (length b.rows.now)
        → after ≤ start + most_by_queues all.frame.exclusion (reached 0 all.spans b.numbers.to)
    joins_next long start before after so_far more =
        let sum : reached 0 all.spans from + length b.rows.now ≡ reached 0 all.spans b.numbers.to =
        ap (λ l. reached 0 all.spans from + length l) rows_next
        ∙ rows_more function feed all rows long tiles from b.numbers.to is_some in
        joins_more all.frame.exclusion start before after (reached 0 all.spans from) (length b.rows.now)
        (reached 0 all.spans b.numbers.to) sum so_far
        (subst (λ (p : Partitioned). after ≤ before + most_by_queues p.frame.exclusion (length b.rows.now)) next.partitions more)
