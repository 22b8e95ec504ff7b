use Rattle.std.proofs.Common.{◌≡◌, false, length, map, take}
use Rattle.std.specs.List.{list_any, flat_map}
use Rattle.wvalues.specs.Meaning.{meaning}
use Rattle.wframe.specs.Places.{places}
use Rattle.wrows.specs.Extended.{extended_row}
use Rattle.wrows.specs.Columns.{is_out_of_range, value_on}
use Rattle.wrows.specs.Laid.{formulas_seen}
use Rattle.wrows.proofs.joined.joined_lists.Given as goal

abbrev pub invariant-loop-number : goal.invariant-loop-number
invariant-loop-number l = record {
  in_range : list_any (λ i. list_any (λ t. is_out_of_range t (extended_row l.extended i))
      (formulas_seen l.exprs)) (take l.number (places (length l.extended.rows.now))) ≡ false;
  so_far : map meaning l.cells.items ≡ flat_map
      (λ i. map (λ t. value_on t (extended_row l.extended i)) (formulas_seen l.exprs))
      (take l.number (places (length l.extended.rows.now)));
}
