-- Rows with columns behind their cells, by number.
use Rattle.std.proofs.Common.{◌≡◌, ◌∙◌, ◌+◌, ◌-◌, ◌<◌, ℕ, List, [], drop, get_or, length, map, min, sym, ap, arith}
use Rattle.std.specs.List.{range_with_len}
use Rattle.std.proofs.lemmas.List.{get_or-drop, get_or-map, get_or-take, length-drop, length-map, length-take}
use Rattle.std.proofs.lemmas.List.FromFn.{get_or-range_with_len, length-range_with_len}
use Rattle.wvalues.specs.Meaning.{Meaning, Null}
use Rattle.wcolumns.specs.Columns.{column_seen, columns_seen}
use Rattle.wcolumns.specs.declared.column.LentColumn.{LentColumn}
use Rattle.wprinted.specs.Beside.{rows_beside, rows_from, whole}

-- what the column at a place has for a row
pub behind_is : (columns : List LentColumn) (number place : ℕ) (lent : LentColumn) → place < length columns
    → get_or (column_seen (get_or columns place lent).column.now) number Null
    ≡ get_or (map (λ column. get_or column number Null) (columns_seen columns)) place Null
behind_is columns number place lent h =
    ap (λ l. get_or l number Null) (sym (get_or-map (λ (l : LentColumn). column_seen l.column.now) columns place lent [] h))
    ∙ sym (get_or-map (λ l. get_or l number Null) (columns_seen columns) place [] Null
    (omega (arith, h, length-map columns (λ (l : LentColumn). column_seen l.column.now))))

module _ (rows columns : List (List Meaning)) where
  abbrev row_of : ℕ → List Meaning
  row_of i = whole (get_or rows i []) columns i

  beside_long : length (rows_beside rows columns) ≡ length rows
  beside_long = length-map (range_with_len 0 (length rows)) row_of ∙ length-range_with_len 0 (length rows)

  pub from_long : (from count : ℕ) → length (rows_from rows columns from count) ≡ min count (length rows - from)
  from_long from count =
      length-take count (drop from (rows_beside rows columns))
      ∙ ap (min count) (length-drop from (rows_beside rows columns) ∙ ap (λ n. n - from) beside_long)

  -- a row of a number among them is one of all rows
  pub from_within : (from count number : ℕ) → number < length (rows_from rows columns from count) → from + number < length rows
  from_within from count number h = omega (arith, h, from_long from count)

  pub from_at : (from count number : ℕ) → number < length (rows_from rows columns from count)
      → get_or (rows_from rows columns from count) number [] ≡ row_of (from + number)
  from_at from count number h =
      let within : from + number < length rows = from_within from count number h in
      let below : number < count = omega (arith, h, from_long from count) in
      let there : from + number < length (range_with_len 0 (length rows)) = omega (arith, within, length-range_with_len 0 (length rows)) in
      let same : get_or (range_with_len 0 (length rows)) (from + number) 0 ≡ from + number =
      get_or-range_with_len 0 (length rows) (from + number) 0 within ∙ (let e : 0 + (from + number) ≡ from + number =
      omega arith in e) in
      get_or-take count (drop from (rows_beside rows columns)) number [] below
      ∙ get_or-drop from (rows_beside rows columns) number []
      ∙ get_or-map row_of (range_with_len 0 (length rows)) (from + number) 0 [] there
      ∙ ap row_of same
