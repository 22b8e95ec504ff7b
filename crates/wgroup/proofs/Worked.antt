-- Group rows of queries with grouping sets, on small tables.
use Rattle.std.proofs.Common.{◌≡◌, ℕ, pos, List, [], ◌∷◌, Option, Some, None, Ok, codes, refl}
use Rattle.std.specs.Prelude.{neg_ℤ}
use Rattle.wvalues.specs.Meaning.{Meaning, Null, Int, Text}
use Rattle.wquery.specs.declared.expression.Comparison.TheVariants.{Greater}
use Rattle.wquery.specs.GroupElements.{Element, OneSet, Rollup, Cube, all_columns}
use Rattle.wplan.specs.declared.resolved.AggregateFunction.TheVariants.{CountRows, Count, Sum, Max}
use Rattle.wplan.specs.Formula.{Formula, Constant, At, Compared}
use Rattle.wrows.specs.Columns.{Row}
use Rattle.wgroupby.specs.Sets.{query_sets, with_unseen}
use Rattle.wplan.specs.Plans.{GroupCallPlan, GroupingPlan, GroupAggregate, GroupingOf}
use Rattle.wgroup.specs.Grouping.{group_rows}

abbrev int : ℕ → Meaning
int n = Int (pos n)

-- day, shop and amount
abbrev sales : List Row
sales = (int 1 ∷ Text (codes "a") ∷ int 10 ∷ []) ∷ (int 2 ∷ Text (codes "a") ∷ int 20 ∷ [])
    ∷ (int 2 ∷ Text (codes "b") ∷ int 5 ∷ []) ∷ (int 4 ∷ Text (codes "a") ∷ Null ∷ []) ∷ []

abbrev more : List Row
more = (int 1 ∷ Text (codes "a") ∷ Null ∷ []) ∷ (Null ∷ Text (codes "a") ∷ int 3 ∷ []) ∷ (int 2 ∷ Null ∷ int 3 ∷ [])
    ∷ (int 1 ∷ Text (codes "b") ∷ Int (neg_ℤ (pos 4)) ∷ []) ∷ (Null ∷ Null ∷ int 3 ∷ [])
    ∷ (int 2 ∷ Text (codes "a") ∷ Null ∷ []) ∷ (int 1 ∷ Text (codes "a") ∷ int 7 ∷ []) ∷ (Null ∷ Text (codes "a") ∷ int 3 ∷ []) ∷ []

abbrev grouped : List (Element ℕ) → List GroupCallPlan → Option Formula → GroupingPlan
grouped elements calls having = record {
  columns = with_unseen [] (all_columns elements);
  sets = query_sets elements;
  calls = calls;
  having = having;
}

-- SELECT sum(amount), grouping(shop) FROM sales GROUP BY ROLLUP (shop)
rollup_of_shop :
    group_rows (grouped ((Rollup ((1 ∷ []) ∷ []) ∷ []) ∷ []) (GroupAggregate (record {
      function = Sum;
      argument = At 2;
      filter = None;
    }) ∷ GroupingOf (1 ∷ []) ∷ []) (None)) (sales)
    ≡ Ok ((Text (codes "a") ∷ int 30 ∷ int 0 ∷ []) ∷ (Text (codes "b") ∷ int 5 ∷ int 0 ∷ []) ∷ (Null ∷ int 35 ∷ int 1 ∷ []) ∷ [])
rollup_of_shop = refl

-- SELECT count(*), grouping(day, shop) FROM sales GROUP BY CUBE (day, shop)
cube_of_two :
    group_rows (grouped ((Cube ((0 ∷ []) ∷ (1 ∷ []) ∷ []) ∷ []) ∷ [])
    (GroupAggregate (record { function = CountRows; argument = Constant Null; filter = None }) ∷ GroupingOf (0 ∷ 1 ∷ [])
    ∷ []) (None)) (sales)
    ≡ Ok ((int 1 ∷ Text (codes "a") ∷ int 1 ∷ int 0 ∷ []) ∷ (int 2 ∷ Text (codes "a") ∷ int 1 ∷ int 0 ∷ [])
    ∷ (int 2 ∷ Text (codes "b") ∷ int 1 ∷ int 0 ∷ []) ∷ (int 4 ∷ Text (codes "a") ∷ int 1 ∷ int 0 ∷ [])
    ∷ (int 1 ∷ Null ∷ int 1 ∷ int 1 ∷ []) ∷ (int 2 ∷ Null ∷ int 2 ∷ int 1 ∷ [])
    ∷ (int 4 ∷ Null ∷ int 1 ∷ int 1 ∷ []) ∷ (Null ∷ Text (codes "a") ∷ int 3 ∷ int 2 ∷ [])
    ∷ (Null ∷ Text (codes "b") ∷ int 1 ∷ int 2 ∷ []) ∷ (Null ∷ Null ∷ int 4 ∷ int 3 ∷ []) ∷ [])
cube_of_two = refl

-- SELECT count(*), grouping(amount) FROM sales GROUP BY GROUPING SETS (amount, ())
nulls_and_the_empty_set :
    group_rows (grouped ((OneSet (2 ∷ []) ∷ OneSet [] ∷ []) ∷ []) (GroupAggregate (record {
      function = CountRows;
      argument =
          Constant Null;
      filter = None;
    }) ∷ GroupingOf (2 ∷ []) ∷ []) (None)) (sales)
    ≡ Ok ((int 5 ∷ int 1 ∷ int 0 ∷ []) ∷ (int 10 ∷ int 1 ∷ int 0 ∷ []) ∷ (int 20 ∷ int 1 ∷ int 0 ∷ [])
    ∷ (Null ∷ int 1 ∷ int 0 ∷ []) ∷ (Null ∷ int 4 ∷ int 1 ∷ []) ∷ [])
nulls_and_the_empty_set = refl

-- SELECT count(*) FROM sales GROUP BY ROLLUP (shop)
rollup_of_no_rows :
    group_rows (grouped ((Rollup ((1 ∷ []) ∷ []) ∷ []) ∷ []) (GroupAggregate (record {
      function = CountRows;
      argument =
          Constant Null;
      filter = None;
    }) ∷ []) (None)) ([])
    ≡ Ok ((Null ∷ int 0 ∷ []) ∷ [])
rollup_of_no_rows = refl

-- SELECT count(*) FROM sales GROUP BY GROUPING SETS (shop)
sets_of_no_rows :
    group_rows (grouped ((OneSet (1 ∷ []) ∷ []) ∷ []) (GroupAggregate (record {
      function = CountRows;
      argument =
          Constant Null;
      filter = None;
    }) ∷ []) (None)) ([])
    ≡ Ok ([])
sets_of_no_rows = refl

-- SELECT count(*), sum(amount) FROM sales
no_group_by :
    group_rows (grouped ([]) (GroupAggregate (record { function = CountRows; argument = Constant Null; filter = None })
    ∷ GroupAggregate (record { function = Sum; argument = At 2; filter = None }) ∷ []) (None)) (sales)
    ≡ Ok ((int 4 ∷ int 35 ∷ []) ∷ [])
no_group_by = refl

-- SELECT count(*), max(day) FROM sales
no_group_by_no_rows :
    group_rows (grouped ([]) (GroupAggregate (record { function = CountRows; argument = Constant Null; filter = None })
    ∷ GroupAggregate (record { function = Max; argument = At 0; filter = None }) ∷ []) (None)) ([])
    ≡ Ok ((int 0 ∷ Null ∷ []) ∷ [])
no_group_by_no_rows = refl

-- SELECT count(*) FROM sales GROUP BY shop, day
plain_columns :
    group_rows (grouped ((OneSet (1 ∷ []) ∷ []) ∷ (OneSet (0 ∷ []) ∷ []) ∷ [])
    (GroupAggregate (record { function = CountRows; argument = Constant Null; filter = None }) ∷ []) (None)) (more)
    ≡ Ok ((Text (codes "a") ∷ int 1 ∷ int 2 ∷ []) ∷ (Text (codes "a") ∷ int 2 ∷ int 1 ∷ [])
    ∷ (Text (codes "a") ∷ Null ∷ int 2 ∷ []) ∷ (Text (codes "b") ∷ int 1 ∷ int 1 ∷ []) ∷ (Null ∷ int 2 ∷ int 1 ∷ [])
    ∷ (Null ∷ Null ∷ int 1 ∷ []) ∷ [])
plain_columns = refl

-- SELECT count(*) FROM sales GROUP BY shop, shop
a_column_twice :
    group_rows (grouped ((OneSet (1 ∷ []) ∷ []) ∷ (OneSet (1 ∷ []) ∷ []) ∷ [])
    (GroupAggregate (record { function = CountRows; argument = Constant Null; filter = None }) ∷ []) (None)) (more)
    ≡ Ok ((Text (codes "a") ∷ int 5 ∷ []) ∷ (Text (codes "b") ∷ int 1 ∷ []) ∷ (Null ∷ int 2 ∷ []) ∷ [])
a_column_twice = refl

-- SELECT grouping(amount, shop), count(amount) FROM sales WHERE day > -2 GROUP BY GROUPING SETS (amount, ROLLUP (amount, (shop,
-- shop)), CUBE (shop, shop))
mixed_sets :
    group_rows (grouped ((OneSet (2 ∷ []) ∷ Rollup ((2 ∷ []) ∷ (1 ∷ 1 ∷ []) ∷ []) ∷ Cube ((1 ∷ []) ∷ (1 ∷ []) ∷ []) ∷ [])
    ∷ []) (GroupingOf (2 ∷ 1 ∷ []) ∷ GroupAggregate (record { function = Count; argument = At 2; filter = None }) ∷ [])
    (None)) ((int 1 ∷ Text (codes "a") ∷ Null ∷ []) ∷ (int 2 ∷ Null ∷ int 3 ∷ [])
    ∷ (int 1 ∷ Text (codes "b") ∷ Int (neg_ℤ (pos 4)) ∷ []) ∷ (int 2 ∷ Text (codes "a") ∷ Null ∷ [])
    ∷ (int 1 ∷ Text (codes "a") ∷ int 7 ∷ []) ∷ [])
    ≡ Ok ((Int (neg_ℤ (pos 4)) ∷ Null ∷ int 1 ∷ int 1 ∷ []) ∷ (int 3 ∷ Null ∷ int 1 ∷ int 1 ∷ [])
    ∷ (int 7 ∷ Null ∷ int 1 ∷ int 1 ∷ []) ∷ (Null ∷ Null ∷ int 1 ∷ int 0 ∷ []) ∷ (Int (neg_ℤ (pos 4)) ∷ Text (codes "b")
    ∷ int 0 ∷ int 1 ∷ []) ∷ (int 3 ∷ Null ∷ int 0 ∷ int 1 ∷ []) ∷ (int 7 ∷ Text (codes "a") ∷ int 0 ∷ int 1 ∷ [])
    ∷ (Null ∷ Text (codes "a") ∷ int 0 ∷ int 0 ∷ []) ∷ (Int (neg_ℤ (pos 4)) ∷ Null ∷ int 1 ∷ int 1 ∷ [])
    ∷ (int 3 ∷ Null ∷ int 1 ∷ int 1 ∷ []) ∷ (int 7 ∷ Null ∷ int 1 ∷ int 1 ∷ [])
    ∷ (Null ∷ Null ∷ int 1 ∷ int 0 ∷ []) ∷ (Null ∷ Null ∷ int 3 ∷ int 3 ∷ [])
    ∷ (Null ∷ Text (codes "a") ∷ int 2 ∷ int 1 ∷ []) ∷ (Null ∷ Text (codes "b") ∷ int 2 ∷ int 1
    ∷ []) ∷ (Null ∷ Null ∷ int 2 ∷ int 1 ∷ []) ∷ (Null ∷ Text (codes "a") ∷ int 2 ∷ int 1 ∷ [])
    ∷ (Null ∷ Text (codes "b") ∷ int 2 ∷ int 1 ∷ []) ∷ (Null ∷ Null ∷ int 2 ∷ int 1 ∷ [])
    ∷ (Null ∷ Text (codes "a") ∷ int 2 ∷ int 1 ∷ [])
    ∷ (Null ∷ Text (codes "b") ∷ int 2 ∷ int 1 ∷ [])
    ∷ (Null ∷ Null ∷ int 2 ∷ int 1 ∷ []) ∷ (Null ∷ Null ∷ int 3 ∷ int 3 ∷ []) ∷ [])
mixed_sets = refl

-- SELECT sum(day) FILTER (WHERE day > 3), grouping(amount, day, shop) FROM sales GROUP BY CUBE (amount), GROUPING SETS (shop,
-- (shop, amount), ROLLUP (day)) HAVING grouping(amount, day, shop) > 1
kept_by_grouping :
    group_rows (grouped ((Cube ((2 ∷ []) ∷ []) ∷ []) ∷ (OneSet (1 ∷ []) ∷ OneSet (1 ∷ 2 ∷ []) ∷ Rollup ((0 ∷ []) ∷ []) ∷ [])
    ∷ []) (GroupAggregate (record {
      function = Sum;
      argument = At 0;
      filter =
          Some (Compared Greater (At 0) (Constant (int 3)));
    }) ∷ GroupingOf (2 ∷ 0 ∷ 1 ∷ []) ∷ [])
    (Some (Compared Greater (At 4) (Constant (int 1))))) (more)
    ≡ Ok ((Int (neg_ℤ (pos 4)) ∷ Text (codes "b") ∷ Null ∷ Null ∷ int 2 ∷ []) ∷ (int 3 ∷ Text (codes "a") ∷ Null ∷ Null
    ∷ int 2 ∷ []) ∷ (int 3 ∷ Null ∷ Null ∷ Null ∷ int 2 ∷ []) ∷ (int 7 ∷ Text (codes "a") ∷ Null ∷ Null ∷ int 2 ∷ [])
    ∷ (Null ∷ Text (codes "a") ∷ Null ∷ Null ∷ int 2 ∷ []) ∷ (Int (neg_ℤ (pos 4)) ∷ Text (codes "b") ∷ Null ∷ Null
    ∷ int 2 ∷ []) ∷ (int 3 ∷ Text (codes "a") ∷ Null ∷ Null ∷ int 2 ∷ []) ∷ (int 3 ∷ Null ∷ Null ∷ Null ∷ int 2
    ∷ []) ∷ (int 7 ∷ Text (codes "a") ∷ Null ∷ Null ∷ int 2 ∷ []) ∷ (Null ∷ Text (codes "a") ∷ Null ∷ Null
    ∷ int 2 ∷ []) ∷ (Int (neg_ℤ (pos 4)) ∷ Null ∷ Null ∷ Null ∷ int 3 ∷ [])
    ∷ (int 3 ∷ Null ∷ Null ∷ Null ∷ int 3 ∷ []) ∷ (int 7 ∷ Null ∷ Null ∷ Null ∷ int 3 ∷ [])
    ∷ (Null ∷ Null ∷ Null ∷ Null ∷ int 3 ∷ []) ∷ (Null ∷ Text (codes "a") ∷ Null ∷ Null ∷ int 6
    ∷ []) ∷ (Null ∷ Text (codes "b") ∷ Null ∷ Null ∷ int 6 ∷ [])
    ∷ (Null ∷ Null ∷ Null ∷ Null ∷ int 6 ∷ []) ∷ (Int (neg_ℤ (pos 4)) ∷ Text (codes "b")
    ∷ Null ∷ Null ∷ int 2 ∷ []) ∷ (int 3 ∷ Text (codes "a") ∷ Null ∷ Null ∷ int 2
    ∷ []) ∷ (int 3 ∷ Null ∷ Null ∷ Null ∷ int 2 ∷ [])
    ∷ (int 7 ∷ Text (codes "a") ∷ Null ∷ Null ∷ int 2 ∷ [])
    ∷ (Null ∷ Text (codes "a") ∷ Null ∷ Null ∷ int 2 ∷ [])
    ∷ (Null ∷ Null ∷ int 1 ∷ Null ∷ int 5 ∷ [])
    ∷ (Null ∷ Null ∷ int 2 ∷ Null ∷ int 5 ∷ [])
    ∷ (Null ∷ Null ∷ Null ∷ Null ∷ int 5 ∷ [])
    ∷ (Null ∷ Null ∷ Null ∷ Null ∷ int 7 ∷ []) ∷ [])
kept_by_grouping = refl
