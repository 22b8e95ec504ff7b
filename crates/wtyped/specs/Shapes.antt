-- What every query that is read from a text has, beside what the rules judge: the shapes that the grammar gives.
use Rattle.std.specs.Prelude.{ℕ, Bool, true, false, ◌&&◌, ◌||◌, not, ◌^◌, nat_lt, List, codes}
use Rattle.std.specs.List.{list_all, list_any}
use Rattle.std.specs.Str.{bytes_eq}
use Rattle.wquery.specs.declared.expression.ChainKind.{ChainKind}
use Rattle.wquery.specs.Lefts.{chain_kind}
use Rattle.wquery.specs.Tree.{Tree, KeyTree, Field, Numeral, Invoked, Joined, Trees, NoTrees, MoreTrees, Links}
use Rattle.wquery.specs.Tree.{NoLinks, Further, Given, Columns, Filter, Unfiltered, Reach, ItsGroup, same_kind}
use Rattle.wquery.specs.GroupElements.{all_columns}
use Rattle.wquery.specs.QueryTree.{Clauses, QueryTree, Selected, SourceTree, FromTable, FromQuery}
use Rattle.wscope.specs.Finding.{finds}
use Rattle.wscope.specs.Scope.{some_entry, some_item, some_option}
use Rattle.wscope.specs.Seeking.{some_node}

abbrev pub is_field : Tree → Bool
is_field (Field qualifier name) = true
is_field _ = false

abbrev pub are_fields : Trees → Bool
are_fields NoTrees = true
are_fields (MoreTrees t ts) = is_field t && are_fields ts

-- operators of a kind
abbrev pub are_of_kind : ChainKind → Links → Bool
are_of_kind kind NoLinks = true
are_of_kind kind (Further front operator t) = are_of_kind kind front && same_kind (chain_kind operator) kind

-- at least one operator, and all of the kind
abbrev pub are_links : ChainKind → Links → Bool
are_links kind NoLinks = false
are_links kind (Further front operator t) = are_of_kind kind front && same_kind (chain_kind operator) kind

abbrev pub is_bare : Filter → Reach → Bool
is_bare Unfiltered ItsGroup = true
is_bare _ _ = false

-- only GROUPING has columns, and it has nothing else
abbrev pub is_given : List ℕ → Given → Filter → Reach → Bool
is_given name (Columns ts) filter reach = bytes_eq name (codes "grouping") && (are_fields ts && is_bare filter reach)
is_given name given filter reach = true

-- a number that is too long, a chain without an operator or with one of another kind, columns that are none
abbrev pub is_misshapen : Tree → Bool
is_misshapen (Numeral n) = not (nat_lt n (2 ^ 95))
is_misshapen (Joined kind first links) = not (are_links kind links)
is_misshapen (Invoked name given filter reach) = not (is_given name given filter reach)
is_misshapen _ = false

abbrev pub is_key_misshapen : KeyTree → Bool
is_key_misshapen k = some_node (finds is_misshapen) k.expression

abbrev pub has_misshapen : Clauses → Bool
has_misshapen c =
    some_item (finds is_misshapen) c.items || (some_option (finds is_misshapen) c.condition || (some_option (finds is_misshapen) c.having
    || (some_entry (finds is_misshapen) c.windows || list_any is_key_misshapen c.order)))

abbrev mutual
  -- the columns of GROUP BY are columns, and no part is misshapen
  pub is_shaped : QueryTree → Bool
  is_shaped (Selected c s) = (list_all is_field (all_columns c.grouping) && not (has_misshapen c)) && is_shaped_source s

  pub is_shaped_source : SourceTree → Bool
  is_shaped_source (FromTable name alias) = true
  is_shaped_source (FromQuery q alias) = is_shaped q
