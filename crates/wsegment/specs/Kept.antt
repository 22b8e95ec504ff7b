-- How a segment is kept: its cells one row after another in the order of the table's columns, beside what was judged.
use Rattle.std.specs.Prelude.{◌≡◌, ◌≤◌, ◌*◌, ℕ, zero, suc, List, [], ◌∷◌, length, map, slice_index_or, take, drop, Result, Ok}
use Rattle.wvalues.specs.Meaning.{Meaning, Null, meaning}
use Rattle.wvalues.specs.declared.value.Value.{Value}
use Rattle.wsegment.specs.Outcome.{◌>>=◌}
use Rattle.wsegment.specs.Rows.{Content}
use Rattle.wsegment.specs.declared.fault.SegmentFault.{SegmentFault}
use Rattle.wsegment.specs.declared.rows.Rows.{Rows}
use Rattle.wsegment.specs.declared.segment.Segment.TheInside.{Inside}

-- what the first rows of this width say
abbrev pub laid : ℕ → ℕ → List Value → List (List Meaning)
laid width zero cells = []
laid width (suc n) cells = map meaning (take width cells) ∷ laid width n (drop width cells)

abbrev pub rows_kept : Rows → List (List Meaning)
rows_kept r = laid r.width r.count r.cells.items

-- the cells at these fields
abbrev pub cells_at : List ℕ → List Meaning → List Meaning
cells_at fields cells = map (λ field. slice_index_or cells field Null) fields

-- each row's cells at these fields
abbrev pub in_order_of : List ℕ → Result (List (List Meaning)) SegmentFault → Result (List (List Meaning)) SegmentFault
in_order_of fields read = read >>= λ rows. Ok (map (cells_at fields) rows)

abbrev pub content_of : Inside → Content
content_of a = record {
  bytes = a.judged.value.bytes;
  columns = a.rows.width;
  rows = rows_kept a.rows;
}

-- all rows are there, and not too many, and they are those of what was judged
pub record IsKept (a : Inside) : Type 0 where
  pub filled : length a.rows.cells.items ≡ a.rows.count * a.rows.width
  pub few : a.rows.count ≤ 1000000
  pub same : content_of a ≡ a.judged.value
