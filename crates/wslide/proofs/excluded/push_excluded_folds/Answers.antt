use Rattle.std.proofs.Common.{◌≡◌, ℕ, ◌+◌, ◌<◌, ◌++◌, ◌∷◌, [], map, length, sym, ap, ◌∙◌, arith, subst, append_assoc}
use Rattle.std.specs.Prelude.{All, slice_index_or}
use Rattle.std.proofs.lemmas.List.{map-append}
use Rattle.std.proofs.lemmas.List.Elements.{All-same, All-push}
use Rattle.wframe.specs.Places.{places, spans_places, IsRisen}
use Rattle.wframe.specs.Frame.{frame_rows}
use Rattle.wframe.specs.Gaps.{before_span, behind_span}
use Rattle.wslide.specs.Laws.{total, rows_fold}
use Rattle.wslide.proofs.Around.{none, three_spans}
use Rattle.wslide.proofs.Spans.{places_next}
use Rattle.wslide.proofs.excluded.push_excluded_folds.Goals as goal

pub loop-row-preserved : goal.loop-row-preserved
loop-row-preserved g c =
    let f = c.args.fold.now in
    let p = c.args.frames.now in
    let at = g.F.Fold.part_at f in
    let neutral = g.F.Fold.neutral f in
    let joined = g.F.Fold.joined f in
    let inv = c.loop-row.invariant in
    let row = c.loop-row.row in
    let spans = c.frame.result in
    let n = length p.keys in
    let ordered = c.count-rows.ensures.ordered in
    let small : row < n = omega arith in
    let left : slice_index_or spans 0 none ≡ before_span p row = ap (λ ss. slice_index_or ss 0 none) c.frame.ensures.list in
    let right : slice_index_or spans 2 none ≡ behind_span p row = ap (λ ss. slice_index_or ss 2 none) c.frame.ensures.list in
    let before = c.gaps_slide.ensures.before p row row ordered (omega arith) small in
    let behind = c.gaps_slide.ensures.behind p row row ordered (omega arith) small in
    let before_to = subst (λ s. IsRisen n c.loop-row.held.before s) (sym left) (inv.before_rises row (omega arith) small) in
    let behind_to = subst (λ s. IsRisen n c.loop-row.held.behind s) (sym right) (inv.behind_rises row (omega arith) small) in
    let fold_of = λ (r : ℕ). rows_fold neutral joined at (frame_rows p r) in
    let part = c.fold_around.result in
    let value = (c.fold_around.ensures.value ∙ ap (λ ss. total neutral joined (map at (spans_places ss)))
    (three_spans spans _ _ _ c.frame.ensures.list) ∙ ap (λ rows. total neutral joined (map at rows)) c.frame.ensures.rows) in
    let more = ap (map fold_of) (places_next row) ∙ map-append fold_of (places row) (row ∷ [])
    ∙ ap (λ x. map fold_of (places row) ++ x ∷ []) (sym value) in
    record {
      before_filled = c.advance_both.ensures.before_filled;
      before_capacity = c.advance_both.ensures.before_capacity ∙ inv.before_capacity;
      before_ordered = before_to.ordered;
      before_within = omega (arith, before_to.within, c.count-rows.ensures.count);
      before_rises = λ k a b. subst (λ s. IsRisen n s (before_span p k)) (sym left) (c.gaps_slide.ensures.before p row k
          ordered (omega arith) b);
      behind_filled = c.advance_both.ensures.behind_filled;
      behind_capacity = c.advance_both.ensures.behind_capacity ∙ inv.behind_capacity;
      behind_ordered = behind_to.ordered;
      behind_within = omega (arith, behind_to.within, c.count-rows.ensures.count);
      behind_rises = λ k a b. subst (λ s. IsRisen n s (behind_span p k)) (sym right) (c.gaps_slide.ensures.behind p row k
          ordered (omega arith) b);
      folds =
          c.in_ok-push.ensures.items
          ∙ ap (λ ps. ps ++ part ∷ []) inv.folds
          ∙ append_assoc c.args.folds.now.items (map fold_of (places row)) (part ∷ [])
          ∙ ap (λ ps. c.args.folds.now.items ++ ps) (sym more);
      parts = All-same (g.F.Fold.is_part f) (map fold_of (places (row + 1))) (map fold_of (places row) ++ part ∷ []) more
          (All-push (g.F.Fold.is_part f) (map fold_of (places row)) part inv.parts c.fold_around.ensures.part);
      not_less = omega arith;
      joins = omega (arith, before_to.to, behind_to.to);
    }

pub returns-clause-parts : goal.returns-clause-parts
returns-clause-parts g c =
    let f = c.args.fold.now in
    let p = c.args.frames.now in
    let at = g.F.Fold.part_at f in
    let neutral = g.F.Fold.neutral f in
    let joined = g.F.Fold.joined f in
    let fold_of = λ (r : ℕ). rows_fold neutral joined at (frame_rows p r) in
    let all : c.loop-row.row ≡ length p.keys = omega (arith, c.count-rows.ensures.count) in
    subst (λ n. All (g.F.Fold.is_part f) (map fold_of (places n))) all c.loop-row.invariant.parts
