use Rattle.std.proofs.Common.{◌≡◌, ℕ, ◌+◌, ◌*◌, ◌≤◌, ◌<◌, ◌++◌, ◌∷◌, [], map, length, sym, ap, ◌∙◌, arith, subst}
use Rattle.std.proofs.Math.Nat.{mul-le-mul_right}
use Rattle.std.proofs.lemmas.List.{map-append}
use Rattle.std.proofs.lemmas.List.Elements.{All-same, All-push}
use Rattle.wframe.specs.Places.{places, AreApart, spans_places}
use Rattle.wframe.specs.Frame.{frame_rows}
use Rattle.wslide.specs.Laws.{total, rows_fold}
use Rattle.wslide.proofs.Spans.{places_next, apart_few}
use Rattle.wslide.proofs.plain.plain_folds.Goals as goal

-- the joins of one row more
joins_more : (start count next rows row walked : ℕ) → count ≤ start + row * rows → next ≡ count + walked → 0 + walked ≤ rows
    → next ≤ start + (row + 1) * rows
joins_more start count next rows row walked was more few = omega arith

all_joins : (start next rows row : ℕ) → row < rows → next ≤ start + (row + 1) * rows → next ≤ start + rows * rows
all_joins start next rows row h k =
    let m : (row + 1) * rows ≤ rows * rows = mul-le-mul_right rows (omega arith) in
    omega arith

pub returns-in_err-push-clause-joins : goal.returns-in_err-push-clause-joins
returns-in_err-push-clause-joins g c =
    let rows = g.F.Fold.rows c.args.fold.now in
    let spans = c.frame-spans.result in
    let row = c.loop-row.row in
    let start = g.F.Fold.count c.args.meter.now in
    let next = g.F.Fold.count c.rows_of_spans.new.meter in
    let few = apart_few 0 rows spans (subst (AreApart 0 spans) c.requires.rows c.frame-spans.ensures.within) in
    all_joins start next rows row (omega arith) (joins_more start (g.F.Fold.count c.loop-row.meter) next rows row
    (length (spans_places spans)) c.loop-row.invariant.joins c.rows_of_spans.ensures.joins few)

pub loop-row-preserved : goal.loop-row-preserved
loop-row-preserved g c =
    let f = c.args.fold.now in
    let p = c.args.frames.now in
    let at = g.F.Fold.part_at f in
    let neutral = g.F.Fold.neutral f in
    let joined = g.F.Fold.joined f in
    let rows = g.F.Fold.rows f in
    let row = c.loop-row.row in
    let spans = c.frame-spans.result in
    let few = apart_few 0 rows spans (subst (AreApart 0 spans) c.requires.rows c.frame-spans.ensures.within) in
    let fold_of = λ (r : ℕ). rows_fold neutral joined at (frame_rows p r) in
    record {
      folds =
          c.in_ok-push.ensures.items
          ∙ ap (λ ps. ps ++ c.rows_of_spans.result ∷ []) c.loop-row.invariant.folds
          ∙ ap (λ part. map fold_of (places row) ++ part ∷ []) (c.rows_of_spans.ensures.value
          ∙ ap (λ rs. total neutral joined (map at rs)) c.frame-spans.ensures.rows)
          ∙ sym (ap (map fold_of) (places_next row) ∙ map-append fold_of (places row) (row ∷ []));
      parts = All-same (g.F.Fold.is_part f) c.push.new.self.items (c.loop-row.folds.items ++ c.rows_of_spans.result ∷ [])
          c.in_ok-push.ensures.items (All-push (g.F.Fold.is_part f) c.loop-row.folds.items c.rows_of_spans.result
          c.loop-row.invariant.parts c.rows_of_spans.ensures.part);
      not_less = omega arith;
      joins = joins_more (g.F.Fold.count c.args.meter.now) (g.F.Fold.count c.loop-row.meter)
          (g.F.Fold.count c.rows_of_spans.new.meter) rows row (length (spans_places spans)) c.loop-row.invariant.joins
          c.rows_of_spans.ensures.joins few;
    }
