-- How much an accepted query asks for: at most 64 items and 64 sets of GROUP BY, 32 windows, 16 entries in each PARTITION BY
-- and ORDER BY and in each list of GROUP BY, in parentheses too, and 8 derived tables one in another.
use Rattle.std.specs.Prelude.{◌≡◌, Bool, true, ◌&&◌, ◌≤◌, nat_le, List, length, Option, Some, None}
use Rattle.std.specs.List.{list_all}
use Rattle.wsegment.specs.Declaration.{Declaration}
use Rattle.wquery.specs.GroupElements.{Entry, Element, OneSet, Rollup, Cube}
use Rattle.wquery.specs.QueryTree.{Clauses, QueryTree, Selected, SourceTree, FromTable, FromQuery}
use Rattle.wquery.specs.Tree.{Tree}
use Rattle.wplan.specs.Plans.{GroupingPlan, SelectPlan, WindowPlan}
use Rattle.wrules.specs.Rules.{first_broken_rule}
use Rattle.wresolve.specs.Selecting.{resolved_query}

abbrev pub has_few_entries : WindowPlan → Bool
has_few_entries w = nat_le (length w.partition) 16 && nat_le (length w.keys) 16

abbrev pub has_few_sets : Option GroupingPlan → Bool
has_few_sets None = true
has_few_sets (Some g) = nat_le (length g.sets) 64

abbrev pub is_bounded : SelectPlan → Bool
is_bounded p =
    nat_le (length p.items) 64 && (nat_le (length p.windows) 32
    && (list_all has_few_entries p.windows && (nat_le (length p.keys) 16 && has_few_sets p.grouping)))

-- the lists of GROUP BY: its elements, the entries of GROUPING SETS, the parts of ROLLUP and CUBE, and columns in parentheses

abbrev pub is_short : {X : Type 0} → List X → Bool
is_short list = nat_le (length list) 16

abbrev pub has_short_parts : List (List Tree) → Bool
has_short_parts parts = is_short parts && list_all is_short parts

abbrev pub has_short_lists : Entry Tree → Bool
has_short_lists (OneSet columns) = is_short columns
has_short_lists (Rollup parts) = has_short_parts parts
has_short_lists (Cube parts) = has_short_parts parts

abbrev pub has_short_entries : Element Tree → Bool
has_short_entries element = is_short element && list_all has_short_lists element

abbrev pub has_short_grouping : Clauses → Bool
has_short_grouping c = is_short c.grouping && list_all has_short_entries c.grouping

abbrev mutual
  -- of a query and its derived tables
  pub is_short_query : QueryTree → Bool
  is_short_query (Selected c s) = has_short_grouping c && is_short_source s

  pub is_short_source : SourceTree → Bool
  is_short_source (FromTable name alias) = true
  is_short_source (FromQuery q alias) = is_short_query q

-- a query with so many SELECTs and one more has so many derived tables one in another
pub record IsWithin (d : Declaration) (q : QueryTree) : Type 0 where
  pub selects : list_all is_bounded (resolved_query d q) ≡ true
  pub lists : is_short_query q ≡ true
  pub depth : length (resolved_query d q) ≤ 9

abbrev pub AcceptedIsBounded : Type 0
AcceptedIsBounded = (d : Declaration) (q : QueryTree) → first_broken_rule d q ≡ None → IsWithin d q
