-- The table: the rows of the live names.
use Rattle.std.specs.Prelude.{ℕ, List, [], map, Result, Ok, Err}
use Rattle.std.specs.List.{flat_map, enumerate_from}
use Rattle.wvalues.specs.Names.{NameParts}
use Rattle.wvalues.specs.Meaning.{Meaning}
use Rattle.wsegment.specs.Declaration.{Declaration}
use Rattle.wsegment.specs.Rows.{rows_of}
use Rattle.wset.specs.Views.{View, lives}

-- a row of a segment: the segment's name, the row's place in it from 0, and the cells
pub record TableRow : Type 0 where
  pub name : NameParts
  pub place : ℕ
  pub cells : List Meaning

-- bytes that are refused have no rows
abbrev pub rows_or_none : {F : Type 0} → Result (List (List Meaning)) F → List (List Meaning)
rows_or_none (Ok rows) = rows
rows_or_none (Err fault) = []

-- the rows of a content by the declaration
abbrev pub content_rows : Declaration → List ℕ → List (List Meaning)
content_rows d bytes = rows_or_none (rows_of d bytes)

-- the rows of a segment, by place
abbrev pub segment_rows : Declaration → (NameParts × List ℕ) → List TableRow
segment_rows d (n, bytes) =
    map (λ r. record { name = n; place = r.0; cells = r.1 }) (enumerate_from 0 (content_rows d bytes))

-- by name, then by place. A row's number is its place in this list, from 0
abbrev pub table_of : Declaration → View → List TableRow
table_of d v = flat_map (segment_rows d) (lives v)
