-- The answers to the fold of each frame of a batch are the answers of its partitions.
use Rattle.std.proofs.Common.{◌≡◌, ℕ, ◌+◌, ◌-◌, ◌<◌, ◌≤◌, List, [], ◌∷◌, ◌++◌, length, map}
use Rattle.std.proofs.Common.{take, drop, get_or, Option, refl, sym, ap, ◌∙◌, arith}
use Rattle.std.specs.Prelude.{All, slice_range}
use Rattle.std.specs.List.{AllByRecursion, flat_map}
use Rattle.std.proofs.lemmas.List.{map-append, length-map, length-take, get_or-take, get_or-drop}
use Rattle.std.proofs.lemmas.List.Elements.{recursion_from_All, All-from_recursion}
use Rattle.wvalues.specs.Meaning.{Meaning}
use Rattle.wframe.specs.declared.frame.Span.{Span}
use Rattle.wframe.specs.Partition.{Partition, Partitioned, partition_of}
use Rattle.wframe.specs.Places.{places}
use Rattle.wframe.specs.Frame.{frame_rows}
use Rattle.wslide.specs.Frames.{folds_of_frames, folds_of_spans}
use Rattle.wslide.specs.Laws.{rows_fold, total}
use Rattle.wplan.specs.declared.resolved.AggregateFunction.{AggregateFunction}
use Rattle.waggregate.specs.Aggregating.{Feed, aggregate_of}
use Rattle.waggregate.specs.FrameAnswers.{frame_numbers, frame_answers, batch_answers}
use Rattle.waggregate.proofs.BatchFacts.{IsInside}
use Rattle.waggregate.proofs.FoldFacts.{mapped_alike}
use Rattle.waggregate.proofs.FrameFacts.{numbers_at}

-- frames are rows, as a law has it
abbrev pub BelowLaw : Type 0
BelowLaw = (p : Partition) (i : ℕ) → All (λ j. j < length p.keys) (frame_rows p i)

abbrev pub FewLaw : Type 0
FewLaw = (p : Partition) (i : ℕ) → length (frame_rows p i) ≤ length p.keys

pub flat_alike : {X : Type 0} (P : Span → Type 0) (f g : Span → List X) (ss : List Span) → AllByRecursion P ss
    → ((s : Span) → P s → f s ≡ g s) → flat_map f ss ≡ flat_map g ss
flat_alike P f g [] all same = refl
flat_alike P f g (s ∷ ss) all same = ap (λ l. l ++ flat_map f ss) (same s all.0)
    ∙ ap (λ l. g s ++ l) (flat_alike P f g ss all.1 same)

flat_mapped : {X Y : Type 0} (h : X → Y) (f : Span → List X) (ss : List Span) → map h (flat_map f ss) ≡ flat_map (λ s. map h (f s)) ss
flat_mapped h f [] = refl
flat_mapped h f (s ∷ ss) = map-append h (f s) (flat_map f ss) ∙ ap (λ l. map h (f s) ++ l) (flat_mapped h f ss)

slice_few : {X : Type 0} (xs : List X) (from to : ℕ) → length (slice_range xs from to) ≤ to - from
slice_few xs from to = omega (arith, length-take (to - from) (drop from xs))

-- the parts of rows that are counted from a place on
moved : {P : Type 0} (part_at : ℕ → P) (from : ℕ) (rows : List ℕ)
    → map (λ row. part_at (from + row)) rows ≡ map part_at (map (λ j. from + j) rows)
moved part_at from [] = refl
moved part_at from (row ∷ rows) = ap (λ ps. part_at (from + row) ∷ ps) (moved part_at from rows)

shifted : (from k n : ℕ) (js : List ℕ) → k ≤ n - from → AllByRecursion (λ j. j < k) js
    → AllByRecursion (λ j. j < n) (map (λ j. from + j) js)
shifted from k n [] few below = tt
shifted from k n (j ∷ js) few below =
    let here : j < k = below.0 in
    let moved : from + j < n = omega arith in
    (moved, shifted from k n js few below.1)

numbered : (rows : List ℕ) (from n k : ℕ) (js : List ℕ) → k ≤ n → AllByRecursion (λ j. j < k) js
    → map (λ j. get_or (take n (drop from rows)) j 0) js ≡ numbers_at rows (map (λ j. from + j) js)
numbered rows from n k [] few below = refl
numbered rows from n k (j ∷ js) few below =
    let here : j < k = below.0 in
    ap (λ i. i ∷ map (λ j. get_or (take n (drop from rows)) j 0) js) (get_or-take n (drop from rows) j 0 (omega arith)
    ∙ get_or-drop from rows j 0)
    ∙ ap (λ l. get_or rows (from + j) 0 ∷ l) (numbered rows from n k js few below.1)

module _ {P : Type 0} (all : Partitioned) (start : ℕ) (spans : List Span) (rows : List ℕ)
    (inside : AllByRecursion (IsInside start (start + length rows)) spans) (below : BelowLaw) (few : FewLaw)
    (neutral : P) (joined : P → P → P) (part_at : ℕ → P) (answer : P → Option Meaning) (function : AggregateFunction) (feed : Feed)
    (same : (ps : List ℕ) → All (λ j. j < length rows) ps → length ps ≤ length rows
    → answer (rows_fold neutral joined part_at ps) ≡ aggregate_of function feed (numbers_at rows ps)) where
  abbrev of_rows : Span → ℕ → P
  of_rows s row = rows_fold neutral joined (λ row. part_at (s.from - start + row)) (frame_rows (partition_of all s) row)

  abbrev of_numbers : Span → ℕ → Option Meaning
  of_numbers s row = aggregate_of function feed (frame_numbers (partition_of all s)
      (slice_range rows (s.from - start) (s.to - start)) row)

  of_frame : (s : Span) → IsInside start (start + length rows) s → (row : ℕ) → answer (of_rows s row) ≡ of_numbers s row
  of_frame s within row =
      let p = partition_of all s in
      let js = frame_rows p row in
      let from = s.from - start in
      let ps = map (λ j. from + j) js in
      let kept = recursion_from_All (λ j. j < length p.keys) js (below p row) in
      let first : start ≤ s.from = within.0 in
      let last : s.to ≤ start + length rows = within.2 in
      let wide : length p.keys ≤ s.to - s.from = slice_few all.keys s.from s.to in
      let fits : length p.keys ≤ length rows - from = omega arith in
      let short : length ps ≤ length rows = omega (arith, length-map js (λ j. from + j), few p row, fits) in
      let near : length p.keys ≤ s.to - start - from = omega arith in
      ap (λ parts. answer (total neutral joined parts)) (moved part_at from js)
      ∙ same ps (All-from_recursion (λ j. j < length rows) ps (shifted from (length p.keys) (length rows) js fits kept)) short
      ∙ ap (aggregate_of function feed) (sym (numbered rows from (s.to - start - from) (length p.keys) js near kept))

  of_partition : (s : Span) → IsInside start (start + length rows) s
      → map answer (folds_of_frames neutral joined (λ row. part_at (s.from - start + row)) (partition_of all s))
      ≡ frame_answers function feed (partition_of all s) (slice_range rows (s.from - start) (s.to - start))
  of_partition s within =
      mapped_alike answer (of_rows s) (of_numbers s) (places (length (partition_of all s).keys)) (of_frame s within)

  -- the answer to each frame is the aggregate of its rows by number, if it is so for any rows
  pub answers_alike : map answer (folds_of_spans neutral joined part_at all start spans) ≡ batch_answers function feed all start spans rows
  answers_alike =
      flat_mapped answer (λ s. folds_of_frames neutral joined (λ row. part_at (s.from - start + row)) (partition_of all s)) spans
      ∙ flat_alike (IsInside start (start + length rows))
      (λ s. map answer (folds_of_frames neutral joined (λ row. part_at (s.from - start + row)) (partition_of all s)))
      (λ s. frame_answers function feed (partition_of all s) (slice_range rows (s.from - start) (s.to - start))) spans inside of_partition
