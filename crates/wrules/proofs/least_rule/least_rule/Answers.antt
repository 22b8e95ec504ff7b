use Rattle.std.proofs.Common.{sym, ◌∙◌}
use Rattle.wscope.specs.Earlier.{windows_in}
use Rattle.wscope.specs.Scoped.{scope_clauses, scope_columns, scope_source}
use Rattle.wrules.proofs.Judged.{none_first, some_first}
use Rattle.wrules.proofs.least_rule.least_rule.Goals as goal

pub returns-in-None : goal.returns-in-None
returns-in-None c =
    let s = c.args.scope.now in
    c.first_of_windows.ensures ∙ none_first s.table.now s.alias.now (scope_columns s) (scope_clauses s) (scope_source s)
    (windows_in s.windows) (sym c.in-None.is ∙ c.first_of_names.ensures) c.requires

pub returns-in-Some : goal.returns-in-Some
returns-in-Some c =
    let s = c.args.scope.now in
    some_first s.table.now s.alias.now (scope_columns s) (scope_clauses s) (scope_source s) c.in-Some.rule (sym c.in-Some.is
    ∙ c.first_of_names.ensures)
