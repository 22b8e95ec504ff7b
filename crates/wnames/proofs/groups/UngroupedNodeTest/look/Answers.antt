use Rattle.std.proofs.Common.{sym, ap, ◌∙◌, if◌then◌else◌}
use Rattle.std.specs.List.{list_any}
use Rattle.wquery.specs.GroupElements.{all_columns}
use Rattle.wscope.specs.Called.{names}
use Rattle.wscope.specs.Scoped.{scope_clauses}
use Rattle.wscope.specs.declared.look.Look.TheVariants.{Found, Below}
use Rattle.wnames.proofs.Fields.{ungrouped_column}
use Rattle.wnames.proofs.groups.UngroupedNodeTest.look.Goals as goal

pub returns-in-Column : goal.returns-in-Column
returns-in-Column c =
    c.look_at_column.ensures ∙ ap (λ n. if list_any (names n)
    (all_columns (scope_clauses c.args.self.now.scope.now).grouping) then Below else Found) c.as_str.ensures.value
    ∙ sym (ungrouped_column (all_columns (scope_clauses c.args.self.now.scope.now).grouping) c.args.node.now
    c.in-Column.column c.in-Column.is)
