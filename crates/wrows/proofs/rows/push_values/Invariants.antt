use Rattle.std.proofs.Common.{◌≡◌, ◌++◌, false, map, take}
use Rattle.std.specs.List.{list_any}
use Rattle.wvalues.specs.Meaning.{meaning}
use Rattle.wrows.specs.Columns.{is_out_of_range, value_on}
use Rattle.wrows.specs.Laid.{formula_seen}
use Rattle.wrows.proofs.rows.push_values.Given as goal

abbrev pub invariant-loop-expr : goal.invariant-loop-expr
invariant-loop-expr l = record {
  in_range : list_any (λ e. is_out_of_range (formula_seen e) (map meaning l.row)) (take l.expr-index l.exprs) ≡ false;
  so_far : map meaning l.cells.items ≡ map meaning l.fn.cells.items ++ map
      (λ e. value_on (formula_seen e) (map meaning l.row)) (take l.expr-index l.exprs);
}
