-- A segment as it is kept.
use Rattle.std.proofs.Common.{◌≡◌, ◌∙◌, ◌<◌, ℕ, List, [], ap, get_or, length, map, sym, Result, Ok}
use Rattle.std.proofs.lemmas.List.{get_or-map}
use Rattle.wvalues.specs.Meaning.{Meaning, Null, meaning}
use Rattle.wvalues.specs.declared.value.Value.{Value}
use Rattle.wsegment.specs.Rows.{Content, cell, rows_of}
use Rattle.wsegment.specs.Declaration.{Declaration}
use Rattle.wsegment.specs.Judging.{IsJudged, counted}
use Rattle.wsegment.specs.Kept.{content_of, rows_kept}
use Rattle.wsegment.specs.declared.fault.SegmentFault.{SegmentFault}
use Rattle.wsegment.specs.declared.rows.Rows.{Rows}
use Rattle.wsegment.specs.declared.segment.Segment.TheInside.{Inside}
use Rattle.wsegment.proofs.LaidFacts.{length-laid}

pub rows-count : (a : Inside) → length (content_of a).rows ≡ a.rows.count
rows-count a = length-laid a.rows.width a.rows.count a.rows.cells.items

pub rows_counted : (a : Inside) (content : Content) → content_of a ≡ content → a.rows.count ≡ length content.rows
rows_counted a content e = sym (rows-count a) ∙ ap (λ (c : Content). length c.rows) e

-- a value by its place in a row
pub row-value : (values : List Value) (rows : List (List Meaning)) (row col : ℕ) (v : Value) → v ≡ get_or values col v
    → col < length values → map meaning values ≡ get_or rows row [] → meaning v ≡ cell rows row col
row-value values rows row col v is within same = ap meaning is ∙ sym (get_or-map meaning values col v Null within)
    ∙ ap (λ cells. get_or cells col Null) same

-- rows that are kept are as many as are counted
pub counted-kept : (r : Rows) (d : Declaration) (bytes : List ℕ) → rows_of d bytes ≡ Ok (rows_kept r) → IsJudged d bytes r.count
counted-kept r d bytes e =
    ap (λ (read : Result (List (List Meaning)) SegmentFault). counted read) e
    ∙ ap (λ (n : ℕ). Ok n) (length-laid r.width r.count r.cells.items)
