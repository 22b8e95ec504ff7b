-- What a scope in memory says.
use Rattle.std.specs.Prelude.{◌≡◌, List, []}
use Rattle.wquery.specs.QueryTree.{Clauses, SourceTree, view_source}
use Rattle.wscope.specs.declared.scope.Scope.{Scope}
use Rattle.wscope.specs.Clauses.{clauses_in}
use Rattle.wscope.specs.Earlier.{windows_in}
use Rattle.wscope.specs.Sources.{all_titled}
use Rattle.wscope.specs.Types.{Titled}
use Rattle.wscope.specs.Windows.{expand_all}

-- the columns of the source
abbrev pub scope_columns : Scope → List Titled
scope_columns s = all_titled s.columns.now

-- what the SELECT says beside its source
abbrev pub scope_clauses : Scope → Clauses
scope_clauses s = clauses_in s.query.now

-- its source
abbrev pub scope_source : Scope → SourceTree
scope_source s = view_source s.query.now.source

-- the windows that were found are the WINDOW entries of the SELECT, each with what it copies from those before it
abbrev pub IsExpanded : Scope → Type 0
IsExpanded s = windows_in s.windows ≡ expand_all [] (scope_clauses s).windows
