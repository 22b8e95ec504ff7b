use Rattle.std.proofs.Common.{◌≡◌, ℕ, ◌+◌, ◌++◌, ◌∷◌, [], map, length, sym, ap, ◌∙◌, arith, subst, append_assoc}
use Rattle.std.specs.Prelude.{All}
use Rattle.std.proofs.lemmas.List.{map-append}
use Rattle.std.proofs.lemmas.List.Elements.{All-same, All-push}
use Rattle.wframe.specs.Places.{places, IsRisen}
use Rattle.wframe.specs.Frame.{frame_rows}
use Rattle.wslide.specs.Laws.{total, rows_fold}
use Rattle.wslide.proofs.Spans.{places_next}
use Rattle.wslide.proofs.sliding.push_sliding_folds.Goals as goal

pub push_running_folds-requires-clause-begin : goal.push_running_folds-requires-clause-begin
push_running_folds-requires-clause-begin g c = c.begin_together.ensures.all c.if-begin_together.true

pub moved_fold-part-requires-clause-rises : goal.moved_fold-part-requires-clause-rises
moved_fold-part-requires-clause-rises g c =
    let held = c.loop-row.held in
    let span = c.extent-span.result in
    subst (λ n. IsRisen n held span) c.requires.rows (c.loop-row.invariant.rises span c.extent-span.ensures.risen)

pub loop-row-preserved : goal.loop-row-preserved
loop-row-preserved g c =
    let f = c.args.fold.now in
    let p = c.args.frames.now in
    let at = g.F.Fold.part_at f in
    let neutral = g.F.Fold.neutral f in
    let joined = g.F.Fold.joined f in
    let inv = c.loop-row.invariant in
    let row = c.loop-row.row in
    let span = c.extent-span.result in
    let rises = inv.rises span c.extent-span.ensures.risen in
    let fold_of = λ (r : ℕ). rows_fold neutral joined at (frame_rows p r) in
    let part = c.moved_fold-part.result in
    let value = (c.moved_fold-part.ensures.value ∙ ap (λ rows. total neutral joined (map at rows))
    (c.extent-span.ensures.rows c.requires.single)) in
    let more = ap (map fold_of) (places_next row) ∙ map-append fold_of (places row) (row ∷ [])
    ∙ ap (λ x. map fold_of (places row) ++ x ∷ []) (sym value) in
    record {
      filled = c.moved_fold-part.ensures.filled;
      capacity = c.moved_fold-part.ensures.capacity ∙ inv.capacity;
      value = c.moved_fold-part.ensures.value;
      part = c.moved_fold-part.ensures.part;
      ordered = c.extent-span.ensures.ordered;
      within = omega (arith, c.extent-span.ensures.within, c.count-rows.ensures.count);
      rises = λ s h. subst (λ low. IsRisen (length p.keys) low s) (sym c.extent-span.ensures.span) (h row (omega arith));
      folds =
          c.in_ok-push.ensures.items
          ∙ ap (λ ps. ps ++ part ∷ []) inv.folds
          ∙ append_assoc c.args.folds.now.items (map fold_of (places row)) (part ∷ [])
          ∙ ap (λ ps. c.args.folds.now.items ++ ps) (sym more);
      parts = All-same (g.F.Fold.is_part f) (map fold_of (places (row + 1))) (map fold_of (places row) ++ part ∷ []) more
          (All-push (g.F.Fold.is_part f) (map fold_of (places row)) part inv.parts c.moved_fold-part.ensures.part);
      not_less = omega arith;
      joins = omega arith;
    }

pub returns-clause-parts : goal.returns-clause-parts
returns-clause-parts g c =
    let f = c.args.fold.now in
    let p = c.args.frames.now in
    let at = g.F.Fold.part_at f in
    let neutral = g.F.Fold.neutral f in
    let joined = g.F.Fold.joined f in
    let fold_of = λ (r : ℕ). rows_fold neutral joined at (frame_rows p r) in
    let all : c.loop-row.row ≡ length p.keys = omega (arith, c.count-rows.ensures.count) in
    subst (λ n. All (g.F.Fold.is_part f) (map fold_of (places n))) all c.loop-row.invariant.parts
