-- Calls that tell a value for each row of each partition, and answers that are put by number.
use Rattle.std.proofs.Common.{◌≡◌, ℕ, ◌+◌, ◌<◌, List, [], ◌∷◌, ◌++◌, length, map, drop, Some, Ok, refl, sym, ap, ◌∙◌, arith, subst}
use Rattle.std.specs.Prelude.{OnOk, Result, Err, slice_range, unwrap_or}
use Rattle.std.specs.List.{flat_map, list_any}
use Rattle.std.specs.Option.{is_none}
use Rattle.std.proofs.Math.ListN.{drop_of_length-le}
use Rattle.std.proofs.lemmas.List.{map-append, length-map, at_drop_more}
use Rattle.wvalues.specs.Meaning.{Meaning, Null}
use Rattle.wframe.specs.declared.frame.Span.{Span}
use Rattle.wframe.specs.Partition.{Partition, Partitioned, partition_of}
use Rattle.wframe.specs.Places.{places, span_at, Tiles}
use Rattle.wrows.specs.declared.fault.AnswerFault.{AnswerFault}
use Rattle.wrows.specs.declared.fault.AnswerFault.TheVariants.{OutOfRange}
use Rattle.wrows.specs.Outcomes.{Gives, unless}
use Rattle.wrows.proofs.RowFacts.{map-map, length-places}
use Rattle.wcalls.specs.Windows.{Windowed, partition_at, partition_rows, place_at}
use Rattle.wcalls.specs.Calls.{each_row}
use Rattle.wcalls.specs.Arranged.{IsArranged, Answer, answer_on, answered}
use Rattle.wcalls.proofs.Answering.{answer_values, window_answers, HasEachOnce}
use Rattle.waggregate.specs.Put.{put_all}
use Rattle.wcalls.proofs.ArrangedFacts.{all_answers, any_of_rows, each_once, refused_answers, rows_long, slice_on, sliced_alike, window_is}
use Rattle.wcalls.proofs.CallFacts.{all_there}
use Rattle.wcalls.proofs.PutFacts.{put_append, put_each}

-- the answers for the rows of a window, put by number, are those for each row
pub put_on : (w : Windowed) (rows : List ℕ) (all : Partitioned) → IsArranged w rows all
    → (answer : Answer) (cells : List Meaning) → length cells ≡ length rows
    → put_all cells rows (answer_values (window_answers answer all rows)) ≡ each_row w (λ i. unwrap_or (answer_on w answer i) Null)
put_on w rows all arranged answer cells long =
    let of : ℕ → Meaning = λ i. unwrap_or (answer_on w answer i) Null in
    let same : length rows ≡ length w.values = rows_long w rows all arranged answer in
    let P : ℕ → Type 0 = λ n. HasEachOnce n rows in
    ap (λ r. put_all cells rows (answer_values r)) (window_is w rows all arranged answer)
    ∙ ap (put_all cells rows) (map-map (λ r. unwrap_or r Null) (answer_on w answer) rows)
    ∙ put_each of rows cells (subst P (sym same) (each_once w rows all arranged answer)) long
    ∙ ap (λ n. map of (places n)) same

-- a column of answers that were put by number, where none is out of range
pub answers_put : (w : Windowed) (rows : List ℕ) (all : Partitioned) → IsArranged w rows all
    → (answer : Answer) (cells values new : List Meaning) → length cells ≡ length rows
    → unless (list_any is_none (window_answers answer all rows)) OutOfRange (tt {0}) ≡ Ok (tt {0})
    → values ≡ answer_values (window_answers answer all rows) → new ≡ put_all cells rows values → answered w answer ≡ Ok new
answers_put w rows all arranged answer cells values new long h same is =
    let of = answer_on w answer in
    all_answers (each_row w of) new (list_any is_none (window_answers answer all rows))
    (sym (any_of_rows w rows all of arranged) ∙ ap (list_any is_none) (sym (window_is w rows all arranged answer))) h
    (is ∙ ap (put_all cells rows) same ∙ put_on w rows all arranged answer cells long
    ∙ sym (map-map (λ r. unwrap_or r Null) of (places (length w.values))))

-- a column of answers that are put by number, or a refusal
pub answers_given : (w : Windowed) (rows : List ℕ) (all : Partitioned) → IsArranged w rows all
    → (answer : Answer) (cells new : List Meaning) → length cells ≡ length rows
    → (outcome : Result (Unit {0}) AnswerFault)
    → Gives {X = Unit {0}} {Y = Unit {0}} (λ u. u) outcome (unless (list_any is_none (window_answers answer all rows))
    OutOfRange (tt {0}))
    → OnOk outcome (new ≡ put_all cells rows (answer_values (window_answers answer all rows)))
    → Gives {X = Unit {0}} (λ u. new) outcome (answered w answer)
answers_given w rows all arranged answer cells new long (Ok u) h put =
    answers_put w rows all arranged answer cells (answer_values (window_answers answer all rows)) new long h refl put
answers_given w rows all arranged answer cells new long (Err fault) h put =
    refused_answers (λ (u : Unit {0}). new) fault w rows all arranged answer h

module _ (answer : Partition → List ℕ → ℕ → Meaning) (all : Partitioned) (rows : List ℕ) where
  -- what is answered for the rows of a partition
  abbrev pub answers_in : Span → List Meaning
  answers_in s = map (answer (partition_of all s) (slice_range rows s.from s.to)) (places (length (partition_of all s).keys))

  values_of : (ss : List Span) → answer_values
      (flat_map (λ s. map (λ place. Some (answer (partition_of all s) (slice_range rows s.from s.to) place))
      (places (length (partition_of all s).keys))) ss) ≡ flat_map answers_in ss
  values_of [] = refl
  values_of (s ∷ ss) =
      let f = answer (partition_of all s) (slice_range rows s.from s.to) in
      let n = places (length (partition_of all s).keys) in
      let others = flat_map (λ s. map (λ place. Some (answer (partition_of all s) (slice_range rows s.from s.to) place))
      (places (length (partition_of all s).keys))) ss in
      map-append (λ r. Rattle.std.specs.Prelude.unwrap_or r Rattle.wvalues.specs.Meaning.Null) (map (λ place. Some (f place)) n) others
      ∙ ap (λ l. l ++ answer_values others) (all_there f n)
      ∙ ap (λ l. map f n ++ l) (values_of ss)

  -- what is answered for the rows of partitions is put, one partition after another
  abbrev pub put_in : List Meaning → List Span → List Meaning
  put_in cells [] = cells
  put_in cells (s ∷ ss) = put_in (put_all cells (slice_range rows s.from s.to) (answers_in s)) ss

  -- a partition more
  pub put_more : (k : ℕ) → k < length all.spans → (cells new end : List Meaning)
      → new ≡ put_all cells (slice_range rows (span_at all.spans k).from (span_at all.spans k).to) (answers_in (span_at all.spans k))
      → put_in cells (drop k all.spans) ≡ end → put_in new (drop (k + 1) all.spans) ≡ end
  put_more k h cells new end is so_far =
      ap (λ c. put_in c (drop (k + 1) all.spans)) is
      ∙ sym (at_drop_more (put_in cells) all.spans k (record { from = 0; to = 0 }) h) ∙ so_far

  put_from : (cells : List Meaning) (low : ℕ) (ss : List Span) → Tiles low ss (length rows) → length rows ≡ length all.keys
      → put_in cells ss ≡ put_all cells (drop low rows) (flat_map answers_in ss)
  put_from cells low [] tiles e = sym (ap (λ r. put_all cells r []) (drop_of_length-le rows (omega (arith, tiles))))
  put_from cells low (s ∷ ss) tiles e =
      let first : s.from ≡ low = tiles.0 in
      let some : s.from < s.to = tiles.1 in
      let own = slice_range rows s.from s.to in
      let part = partition_of all s in
      let wide : length own ≡ length (answers_in s) = sliced_alike rows all.keys s.from s.to e
      ∙ sym (length-map (places (length part.keys)) (answer part own) ∙ length-places 0 (length part.keys)) in
      put_from (put_all cells own (answers_in s)) s.to ss tiles.2 e
      ∙ sym (put_append cells own (drop s.to rows) (answers_in s) (flat_map answers_in ss) wide)
      ∙ ap (λ r. put_all cells r (answers_in s ++ flat_map answers_in ss)) (slice_on rows s.from s.to (omega arith)
      ∙ ap (λ n. drop n rows) first)

-- where the rows are those of a window, each row has what is answered for it
pub all_put : (w : Windowed) (rows : List ℕ) (all : Partitioned) (answer : Partition → List ℕ → ℕ
    → Meaning) (cells new : List Meaning) → IsArranged w rows all → length cells ≡ length rows → length rows ≡ length all.keys
    → new ≡ put_in answer all rows cells all.spans → new ≡ each_row w (λ i. answer (partition_at w i) (partition_rows w i) (place_at w i))
all_put w rows all answer cells new arranged long e is =
    is
    ∙ put_from answer all rows cells 0 all.spans (subst (Tiles 0 all.spans) (sym e) arranged.tiles) e
    ∙ ap (put_all cells rows) (sym (values_of answer all rows all.spans))
    ∙ put_on w rows all arranged (λ p rs place. Some (answer p rs place)) cells long
