use Rattle.std.proofs.Common.{List, ap, ◌∙◌}
use Rattle.std.specs.Borrow.{Bor}
use Rattle.std.specs.List.{list_any}
use Rattle.wquery.specs.declared.expression.Column.{Column}
use Rattle.wscope.specs.Groups.{lent_columns}
use Rattle.wnames.proofs.names.any_grouping.Goals as goal

pub returns : goal.returns
returns g c = c.any_hit.ensures ∙ ap (λ (xs : List (Bor Column)). list_any (g.T.ColumnTest.holds c.args.test.now)
    (lent_columns xs)) c.as_slice.ensures.value ∙ c.args.scope.now.listed (g.T.ColumnTest.holds c.args.test.now)
