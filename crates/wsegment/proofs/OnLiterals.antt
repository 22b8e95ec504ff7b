-- What an answer unfolds to compute the rows of a literal.
use Rattle.std.specs.Char.{encode_utf8}
use Rattle.std.specs.Prelude.{⊤}
use Rattle.std.specs.Str.{chars, is_utf8}
use Rattle.csv.proofs.OnLiterals.{csv_on_literals}
use Rattle.wsegment.specs.Cells.{cell_of, cells_of, row_of, rows_from}
use Rattle.wsegment.specs.Header.{named, named_each}
use Rattle.wsegment.specs.Rows.{rows_of, rows_of_records, rows_under}

unfoldable pub rows_on_literals : ⊤
unfolding csv_on_literals is_utf8 chars encode_utf8 cell_of cells_of row_of rows_from named named_each rows_of rows_of_records rows_under
rows_on_literals = tt
