use Rattle.std.proofs.Common.{List, ap, take_all, ◌∙◌}
use Rattle.std.specs.Borrow.{Bor}
use Rattle.std.specs.List.{list_any}
use Rattle.wquery.specs.declared.expression.Column.{Column}
use Rattle.wscope.specs.Called.{names}
use Rattle.wscope.specs.Groups.{lent_columns}
use Rattle.wscope.proofs.Grouped.{names_along}
use Rattle.wscope.proofs.grouping.column_names.Goals as goal

pub columns-preserved : goal.columns-preserved
columns-preserved c = names_along c.columns.known c.add_name.new.known c.args.columns.now c.columns.column-index
    c.column-item.result c.columns-test.true c.column-item.is c.in_ok-add_name.ensures c.columns.invariant

pub returns : goal.returns
returns c = λ q. c.columns.invariant q ∙ ap (λ (xs : List (Bor Column)). list_any (names q) (lent_columns xs))
    (take_all c.columns.column-index c.args.columns.now c.columns-test.false)
