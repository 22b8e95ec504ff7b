use Rattle.std.proofs.Common.{◌≡◌, false, map, take}
use Rattle.std.specs.List.{list_any, flat_map}
use Rattle.wvalues.specs.Meaning.{meaning}
use Rattle.wrows.specs.Columns.{is_out_of_range, value_on}
use Rattle.wrows.specs.Laid.{formulas_seen, row_seen}
use Rattle.wrows.proofs.rows.row_lists.Given as goal

abbrev pub invariant-loop-row : goal.invariant-loop-row
invariant-loop-row l = record {
  in_range : list_any (λ r. list_any (λ t. is_out_of_range t (row_seen r)) (formulas_seen l.exprs)) (take l.row-index l.rows) ≡ false;
  so_far : map meaning l.cells.items ≡ flat_map (λ r. map (λ t. value_on t (row_seen r)) (formulas_seen l.exprs)) (take l.row-index l.rows);
}
