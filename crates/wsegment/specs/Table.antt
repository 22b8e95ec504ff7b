-- What the rows of a segment are: in a row and a column stands what the field under the column's name says.
use Rattle.std.specs.Prelude.{◌≡◌, ◌≢◌, ◌+◌, ◌<◌, ◌≤◌, ℕ, true, List, [], ◌∷◌, length, position, slice_index_or, Some, Ok}
use Rattle.std.specs.List.{list_all}
use Rattle.std.specs.Option.{is_some}
use Rattle.std.specs.Str.{bytes_eq}
use Rattle.csv.specs.Reading.{default_config, records, strip_bom}
use Rattle.wvalues.specs.Meaning.{Meaning}
use Rattle.wsegment.specs.Cells.{cell_of}
use Rattle.wsegment.specs.Declaration.{Declaration, Described, place_of}
use Rattle.wsegment.specs.Header.{column_named}
use Rattle.wsegment.specs.Rows.{cell}

-- the field of a row
abbrev pub field_at : List (List (List ℕ)) → ℕ → ℕ → List ℕ
field_at below row field = slice_index_or (slice_index_or below row []) field []

-- the bytes are not too many; the records are a header that names each column once and nothing else, and rows of its length;
-- each value is what its field says
pub record IsTable (d : Declaration) (bytes : List ℕ) (rows : List (List Meaning)) : Type 0 where
  pub short : length bytes ≤ 67108864
  pub header : List (List ℕ)
  pub below : List (List (List ℕ))
  pub split : records default_config (strip_bom bytes) ≡ header ∷ below
  pub count : length rows ≡ length below
  pub few : length rows ≤ 1000000
  pub known : list_all (λ word. is_some (column_named word d.columns)) header ≡ true
  pub distinct : (i j : ℕ) → i < j → j < length header → slice_index_or header i [] ≢ slice_index_or header j []
  pub complete : list_all (λ c. is_some (position (λ word. bytes_eq word c.name) header)) d.columns ≡ true
  pub widths : (row : ℕ) → row < length rows → length (slice_index_or below row []) ≡ length header
  pub values : (name : List ℕ) (c : Described) (row column field : ℕ) → row < length rows
      → column_named name d.columns ≡ Some c → place_of name d.columns ≡ Some column
      → position (λ word. bytes_eq word name) header ≡ Some field
      → cell_of (row + 1) c.kind (field_at below row field) ≡ Ok (cell rows row column)
