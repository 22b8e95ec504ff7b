-- The clauses of a query in memory. (SQL, `<query specification>`.)
use Rattle.std.specs.Prelude.{map}
use Rattle.wquery.specs.declared.query.Query.{Query}
use Rattle.wquery.specs.GroupElements.{view_element}
use Rattle.wquery.specs.Tree.{view_keys, view_optional}
use Rattle.wquery.specs.QueryTree.{Clauses, view_item, view_entry}

-- what a query says beside its source
abbrev pub clauses_in : Query → Clauses
clauses_in q = record {
  items = map view_item q.items.items;
  condition = view_optional q.condition;
  grouping =
      map view_element q.grouping.items;
  having = view_optional q.having;
  windows = map view_entry q.windows.items;
  order =
      view_keys q.order.items;
  limit = q.limit;
  offset = q.offset;
}
