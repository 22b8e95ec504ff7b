use Rattle.std.proofs.Common.{◌≡◌, ℕ, ◌+◌, ◌-◌, ◌≤◌, ◌++◌, ◌∷◌, [], map, length, sym, ap, ◌∙◌, arith, subst, append_assoc}
use Rattle.std.specs.Prelude.{All}
use Rattle.std.proofs.lemmas.List.{map-append}
use Rattle.std.proofs.lemmas.List.Elements.{All-same, All-push}
use Rattle.std.proofs.lemmas.List.Sums.{fold-append}
use Rattle.wframe.specs.declared.frame.Span.{Span}
use Rattle.wframe.specs.Places.{places}
use Rattle.wframe.specs.Frame.{frame_rows}
use Rattle.wslide.specs.Laws.{total, rows_fold}
use Rattle.wslide.specs.Rows.{parts_from, span_parts}
use Rattle.wslide.proofs.Spans.{places_next, parts_from-split}
use Rattle.wslide.proofs.running.push_running_folds.Goals as goal

pub join_rows-part-requires-clause-ordered : goal.join_rows-part-requires-clause-ordered
join_rows-part-requires-clause-ordered g c = c.loop-row.invariant.rises c.extent-span.result c.extent-span.ensures.risen

pub loop-row-preserved : goal.loop-row-preserved
loop-row-preserved g c =
    let f = c.args.fold.now in
    let p = c.args.frames.now in
    let at = g.F.Fold.part_at f in
    let neutral = g.F.Fold.neutral f in
    let joined = g.F.Fold.joined f in
    let inv = c.loop-row.invariant in
    let row = c.loop-row.row in
    let end = c.loop-row.end in
    let span = c.extent-span.result in
    let part = c.join_rows-part.result in
    let fold_of = λ (r : ℕ). rows_fold neutral joined at (frame_rows p r) in
    let rises : end ≤ span.to = inv.rises span c.extent-span.ensures.risen in
    let begins : span.from ≡ 0 = ap (λ (s : Span). s.from) c.extent-span.ensures.span ∙ c.requires.begin row (omega arith) in
    let all : span.to - 0 ≡ span.to = omega arith in
    let whole : span_parts at span ≡ parts_from at 0 span.to =
    ap (λ from. parts_from at from (span.to - from)) begins ∙ ap (parts_from at 0) all in
    let both : parts_from at 0 span.to ≡ parts_from at 0 end ++ parts_from at (0 + end) (span.to - end) =
    parts_from-split at 0 end (span.to - end) span.to (omega (arith, rises)) in
    let here : 0 + end ≡ end = omega arith in
    let more : part ≡ total neutral joined (parts_from at 0 span.to) =
    c.join_rows-part.ensures.value ∙ ap (λ s. total s joined (parts_from at end (span.to - end))) inv.part
    ∙ sym (ap (total neutral joined) (both ∙ ap (λ r. parts_from at 0 end ++ parts_from at r (span.to - end)) here)
    ∙ fold-append joined neutral (parts_from at 0 end) (parts_from at end (span.to - end))) in
    let value : part ≡ fold_of row =
    more ∙ ap (total neutral joined) (sym whole) ∙ ap (λ rows. total neutral joined (map at rows))
    (c.extent-span.ensures.rows c.requires.single) in
    let next = ap (map fold_of) (places_next row) ∙ map-append fold_of (places row) (row ∷ [])
    ∙ ap (λ x. map fold_of (places row) ++ x ∷ []) (sym value) in
    record {
      part = more;
      is_part = c.join_rows-part.ensures.part;
      within = omega (arith, c.extent-span.ensures.within, c.requires.rows);
      rises = λ s h. subst (λ (low : Span). low.to ≤ s.to) (sym c.extent-span.ensures.span) (h row (omega arith)).to;
      folds =
          c.in_ok-push.ensures.items
          ∙ ap (λ ps. ps ++ part ∷ []) inv.folds
          ∙ append_assoc c.args.folds.now.items (map fold_of (places row)) (part ∷ [])
          ∙ ap (λ ps. c.args.folds.now.items ++ ps) (sym next);
      parts = All-same (g.F.Fold.is_part f) (map fold_of (places (row + 1))) (map fold_of (places row) ++ part ∷ []) next
          (All-push (g.F.Fold.is_part f) (map fold_of (places row)) part inv.parts c.join_rows-part.ensures.part);
      joins = omega (arith, c.join_rows-part.ensures.joins, inv.joins, rises);
    }

pub returns-clause-parts : goal.returns-clause-parts
returns-clause-parts g c =
    let f = c.args.fold.now in
    let p = c.args.frames.now in
    let at = g.F.Fold.part_at f in
    let neutral = g.F.Fold.neutral f in
    let joined = g.F.Fold.joined f in
    let fold_of = λ (r : ℕ). rows_fold neutral joined at (frame_rows p r) in
    let all : c.loop-row.row ≡ length p.keys = omega (arith, c.count-rows.ensures.count) in
    subst (λ n. All (g.F.Fold.is_part f) (map fold_of (places n))) all c.loop-row.invariant.parts
