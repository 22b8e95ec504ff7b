-- The fold of what two queues hold, and of some rows between.
use Rattle.std.proofs.Common.{◌≡◌, ℕ, List, [], ◌∷◌, ◌++◌, map, sym, ap, ◌∙◌}
use Rattle.std.specs.Prelude.{All, slice_index_or}
use Rattle.std.specs.List.{fold}
use Rattle.std.proofs.lemmas.List.{append-nil, map-append}
use Rattle.std.proofs.lemmas.List.Sums.{fold-append}
use Rattle.std.proofs.lemmas.List.Elements.{recursion_from_All}
use Rattle.wframe.specs.declared.frame.Span.{Span}
use Rattle.wframe.specs.Places.{span_places}
use Rattle.wslide.specs.Laws.{FoldLaws, total}
use Rattle.wslide.specs.Rows.{span_parts, spans_parts}
use Rattle.wslide.proofs.Totals.{fold_from}

-- no row
abbrev pub none : Span
none = record { from = 0; to = 0 }

-- three spans one by one
pub three_spans : (spans : List Span) (a b c : Span) → spans ≡ a ∷ b ∷ c ∷ []
    → slice_index_or spans 0 none ∷ slice_index_or spans 1 none ∷ slice_index_or spans 2 none ∷ [] ≡ spans
three_spans spans a b c e = ap (λ (ss : List Span). slice_index_or ss 0 none ∷ slice_index_or ss 1 none ∷ slice_index_or ss
    2 none ∷ []) e ∙ sym e

three_parts : {P : Type 0} (part_at : ℕ → P) (a b c : Span) → spans_parts part_at (a ∷ b ∷ c ∷ []) ≡ span_parts part_at a
    ++ (span_parts part_at b ++ span_parts part_at c)
three_parts part_at a b c =
    map-append part_at (span_places a) (span_places b ++ (span_places c ++ []))
    ∙ ap (λ ps. span_parts part_at a ++ ps) (map-append part_at (span_places b) (span_places c ++ [])
    ∙ ap (λ ps. span_parts part_at b ++ map part_at ps) (append-nil (span_places c)))

module _ {P : Type 0} {is_part : P → Type 0} {neutral : P} {joined : P → P → P} (laws : FoldLaws is_part neutral joined)
    (part_at : ℕ → P) where
  pub around : (a b c : Span) (front middle rear whole : P) → front ≡ total neutral joined (span_parts part_at a)
      → middle ≡ total front joined (span_parts part_at b) → is_part middle
      → rear ≡ total neutral joined (span_parts part_at c) → All is_part (span_parts part_at c) → whole ≡ joined middle rear
      → whole ≡ total neutral joined (spans_parts part_at (a ∷ b ∷ c ∷ []))
  around a b c front middle rear whole f m part r all w =
      let xs = span_parts part_at a in
      let ys = span_parts part_at b in
      let zs = span_parts part_at c in
      w ∙ ap (joined middle) r
      ∙ sym (fold_from laws middle zs part (recursion_from_All is_part zs all))
      ∙ ap (λ a. fold joined a zs) (m ∙ ap (λ a. fold joined a ys) f)
      ∙ sym (ap (total neutral joined) (three_parts part_at a b c) ∙ fold-append joined neutral xs (ys ++ zs)
      ∙ fold-append joined (fold joined neutral xs) ys zs)
