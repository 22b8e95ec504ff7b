-- How judged bytes are kept: with the declaration and the number of their rows, of which they are rows without cells.
use Rattle.std.specs.Prelude.{◌≤◌, length}
use Rattle.wsegment.specs.Rows.{Content, rows_of}
use Rattle.wsegment.specs.Judging.{IsJudged, where_good}
use Rattle.wsegment.specs.declared.judged.Judged.TheInside.{Inside}

-- what is read from the bytes by the declaration
abbrev pub content_of : Inside → Content
content_of a = record {
  bytes = a.bytes.items;
  columns = length a.schema.columns;
  rows = where_good (rows_of a.schema a.bytes.items);
}

-- the bytes are good, and have so many rows
pub record IsKept (a : Inside) : Type 0 where
  pub judged : IsJudged a.schema a.bytes.items a.rows
  pub few : a.rows ≤ 1000000
