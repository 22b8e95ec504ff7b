-- GROUP BY and what the row of a group holds behind its columns, with columns by their places in the source's row. (SQL,
-- `<group by clause>` and `<grouping operation>`.)
use Rattle.std.specs.Prelude.{ℕ, List, [], ◌∷◌, length}
use Rattle.wquery.specs.GroupElements.{Element}
use Rattle.wquery.specs.Tree.{Tree, Field, Invoked, Trees, NoTrees, MoreTrees, Given, Columns, Filter}
use Rattle.wscope.specs.Functions.{function_of}
use Rattle.wscope.specs.Types.{Titled, place_named}
use Rattle.wgroupby.specs.Rules.{elements_by}
use Rattle.wplan.specs.Plans.{GroupCallPlan, GroupAggregate, GroupingOf}
use Rattle.wbinding.specs.Resolving.{Layout}
use Rattle.wbinding.specs.Functions.{aggregate_made, aggregated}

-- the place of a column, or the number of columns where none has its name
abbrev pub column_place : List Titled → Tree → ℕ
column_place cs (Field qualifier name) = place_named cs name
column_place cs _ = length cs

-- the places of columns, one after another
abbrev pub column_places : List Titled → Trees → List ℕ
column_places cs NoTrees = []
column_places cs (MoreTrees t ts) = column_place cs t ∷ column_places cs ts

-- the elements of GROUP BY
abbrev pub elements_made : List Titled → List (Element Tree) → List (Element ℕ)
elements_made cs = elements_by (column_place cs)

-- GROUPING of columns of the source, or an aggregate
abbrev pub group_called : Layout → List ℕ → Given → Filter → GroupCallPlan
group_called l name (Columns ts) filter = GroupingOf (column_places l.columns ts)
group_called l name given filter = GroupAggregate (aggregated l (function_of name) given filter)

-- what stands behind the columns of a group's row, over a row of the source
abbrev pub group_call_made : Layout → Tree → GroupCallPlan
group_call_made l (Invoked name given filter reach) = group_called l name given filter
group_call_made l t = GroupAggregate (aggregate_made l t)
