-- A query that no rule refuses is well scoped and well typed.
use Rattle.std.specs.Prelude.{◌≡◌, true, List, map, Some, None}
use Rattle.wsegment.specs.Declaration.{Declaration}
use Rattle.wquery.specs.QueryTree.{QueryTree}
use Rattle.wscope.specs.declared.data_type.DataType.{DataType}
use Rattle.wscope.specs.Types.{Titled}
use Rattle.wscope.specs.Sources.{answer_columns, declared_columns}
use Rattle.wrules.specs.Rules.{first_broken_rule}
use Rattle.wresolve.specs.Selecting.{resolved_query}
use Rattle.wtyped.specs.Plans.{query_types}
use Rattle.wtyped.specs.Shapes.{is_shaped}

abbrev pub types_of : List Titled → List DataType
types_of cs = map (λ (c : Titled). c.type) cs

-- over the rows of the declared table, what a query resolves to has types throughout, and those of its answer are the
-- answer's columns'
abbrev pub AcceptedIsTyped : Type 0
AcceptedIsTyped = (d : Declaration) (q : QueryTree) → is_shaped q ≡ true → first_broken_rule d q ≡ None
    → query_types (Some (types_of (declared_columns d.columns))) (resolved_query d q) ≡ Some (types_of (answer_columns d q))
