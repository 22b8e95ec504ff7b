-- Rows in memory, and what expressions in memory say.
use Rattle.std.specs.Prelude.{List, map}
use Rattle.std.specs.Borrow.{Bor}
use Rattle.wvalues.specs.declared.value.Value.{Value}
use Rattle.wvalues.specs.Meaning.{meaning}
use Rattle.wplan.specs.declared.expr.Expr.{Expr}
use Rattle.wplan.specs.Formula.{Formula, formula}
use Rattle.wrows.specs.declared.cells.Cells.{Cells}
use Rattle.wrows.specs.Columns.{Row}
use Rattle.wsort.specs.LaidRows.{laid}

-- rows of cells that stand one after another
abbrev pub rows_in : Cells → List Row
rows_in c = laid c.width c.count c.cells.items

-- rows that are lent
abbrev pub row_seen : Bor (List Value) → Row
row_seen row = map meaning row.now

abbrev pub rows_seen : List (Bor (List Value)) → List Row
rows_seen = map row_seen

-- expressions that are lent
abbrev pub formula_seen : Bor Expr → Formula
formula_seen e = formula e.now

abbrev pub formulas_seen : List (Bor Expr) → List Formula
formulas_seen = map formula_seen
